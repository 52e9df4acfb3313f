-- Numbers in bytes, high byte first, and the sum at the end of a message.
use Rattle.std.specs.Prelude.{◌≡◌, ℕ, zero, suc, ◌+◌, ◌-◌, ◌*◌, ◌/◌, ◌%◌, ◌≤◌, Bool, ◌&&◌, List, [], ◌∷◌, ◌++◌, length, take, ◌==◌, nat_le, slice_index}
use Rattle.crc.specs.Crc.{crc_of}

-- the number in two, three, four or six bytes from a place on
abbrev pub two : List ℕ → ℕ → ℕ
two b i = slice_index b i * 256 + slice_index b (i + 1)

abbrev pub three : List ℕ → ℕ → ℕ
three b i = slice_index b i * 65536 + slice_index b (i + 1) * 256 + slice_index b (i + 2)

abbrev pub four : List ℕ → ℕ → ℕ
four b i = slice_index b i * 16777216 + slice_index b (i + 1) * 65536 + slice_index b (i + 2) * 256 + slice_index b (i + 3)

abbrev pub six : List ℕ → ℕ → ℕ
six b i = two b i * 4294967296 + four b (i + 2)

-- where a reader of n bytes is that has found too few from a place on: at their end
abbrev pub Spent : ℕ → ℕ → ℕ → Type 0
Spent n from at-end = (from ≤ n → at-end ≡ n) × (n ≤ from → at-end ≡ from)

-- the bytes of a number
abbrev pub in_two : ℕ → List ℕ
in_two n = (n / 256 % 256) ∷ (n % 256) ∷ []

abbrev pub in_three : ℕ → List ℕ
in_three n = (n / 65536 % 256) ∷ (n / 256 % 256) ∷ (n % 256) ∷ []

abbrev pub in_four : ℕ → List ℕ
in_four n = (n / 16777216 % 256) ∷ (n / 65536 % 256) ∷ (n / 256 % 256) ∷ (n % 256) ∷ []

abbrev pub in_six : ℕ → List ℕ
in_six n = (n / 1099511627776 % 256) ∷ (n / 4294967296 % 256) ∷ in_four n

-- two bytes for each of n places, from place k on
unfoldable pub pairs_of : (ℕ → ℕ) → (ℕ → ℕ) → ℕ → ℕ → List ℕ
pairs_of f g k zero = []
pairs_of f g k (suc n) = f k ∷ (g k ∷ pairs_of f g (suc k) n)

-- the bytes end with the CRC-32 of those before it
abbrev pub summed : List ℕ → Bool
summed b = nat_le 4 (length b) && four b (length b - 4) == crc_of (take (length b - 4) b)

-- the bytes with their sum behind them
abbrev pub with_sum : List ℕ → List ℕ
with_sum b = b ++ in_four (crc_of b)

-- a message of this kind and length, with its sum
abbrev pub whole : ℕ → ℕ → List ℕ → Bool
whole kind n b = length b == n && (slice_index b 0 == kind && summed b)
