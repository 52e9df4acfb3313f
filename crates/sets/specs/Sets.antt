-- What a number of 128 bits says as a set of bridges, and the same in 16 bytes. Assumes nothing.
use Rattle.std.specs.Prelude.{◌≡◌, ℕ, zero, suc, ◌+◌, ◌-◌, ◌*◌, ◌/◌, ◌%◌, ◌^◌, ◌<◌, Bool, List, map, length, ◌==◌, slice_index}
use Rattle.std.specs.List.{range_with_len}

-- bit j of a number, bit 0 the lowest
abbrev pub bit : ℕ → ℕ → ℕ
bit n j = n / 2 ^ j % 2

-- is bridge k in the set: bridge 0 is the highest of the 128 bits
unfoldable pub has : ℕ → ℕ → Bool
has s k = bit s (127 - k) == 1

-- the bridges in the set are those of which p is true
abbrev pub MembersAre : ℕ → (ℕ → Bool) → Type 0
MembersAre s p = (k : ℕ) → k < 128 → has s k ≡ p k

-- is bridge k in the set that 16 bytes say: the high bit of the first byte is bridge 0
unfoldable pub has_byte : List ℕ → ℕ → Bool
has_byte bs k = bit (slice_index bs (k / 8)) (7 - k % 8) == 1

-- the 16 bytes of a number, high byte first
unfoldable pub bytes_of : ℕ → List ℕ
bytes_of n = map (λ i. n / 256 ^ (15 - i) % 256) (range_with_len 0 16)

-- the number that the first n bytes make, high byte first
abbrev pub made_of : ℕ → List ℕ → ℕ
made_of zero bs = 0
made_of (suc n) bs = made_of n bs * 256 + slice_index bs n

unfoldable pub number_of : List ℕ → ℕ
number_of bs = made_of 16 bs

-- 16 bytes
pub record Bytes16 (bs : List ℕ) : Type 0 where
  pub many : length bs ≡ 16
  pub small : (i : ℕ) → i < 16 → slice_index bs i < 256

-- Two sets with the same members are one set.
abbrev pub SameMembers : Type 0
SameMembers = (a b : ℕ) → a < 2 ^ 128 → b < 2 ^ 128 → ((k : ℕ) → k < 128 → has a k ≡ has b k) → a ≡ b

-- A set comes back from its bytes, and 16 bytes from the set that they say.
abbrev pub ThereAndBack : Type 0
ThereAndBack = ((s : ℕ) → s < 2 ^ 128 → number_of (bytes_of s) ≡ s) × ((bs : List ℕ) → Bytes16 bs → bytes_of (number_of bs) ≡ bs)
