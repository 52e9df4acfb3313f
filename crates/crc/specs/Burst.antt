-- What the sum is for: two strings of bytes that differ only within 32 bits in a row have different sums, wherever the bits lie.
use Rattle.std.specs.Prelude.{◌≡◌, ℕ, ◌<◌, ◌≤◌, List, [], ◌∷◌, ◌++◌, length}
use Rattle.crc.specs.Crc.{bits_of, crc_bits, crc_of}

-- each of the numbers is a bit, each is a byte
abbrev pub Bits : List ℕ → Type 0
Bits [] = Unit {0}
Bits (b ∷ bs) = (b < 2) × Bits bs

abbrev pub Bytes : List ℕ → Type 0
Bytes [] = Unit {0}
Bytes (b ∷ bs) = (b < 256) × Bytes bs

-- two strings of bits, in the order in which the sum takes them in, that differ within at most 32 in a row
pub record Window (xs ys : List ℕ) : Type 0 where
  pub before : List ℕ
  pub one : List ℕ
  pub other : List ℕ
  pub behind : List ℕ
  pub first : xs ≡ before ++ (one ++ behind)
  pub second : ys ≡ before ++ (other ++ behind)
  pub as_long : length one ≡ length other
  pub short : length one ≤ 32

-- strings of bits that differ in such a window only, and have one sum, are one
abbrev pub BitsTold : Type 0
BitsTold = (xs ys : List ℕ) → Bits xs → Bits ys → Window xs ys → crc_bits xs ≡ crc_bits ys → xs ≡ ys

-- strings of bytes whose bits differ in such a window only, and that have one sum, are one
abbrev pub BurstTold : Type 0
BurstTold = (xs ys : List ℕ) → Bytes xs → Bytes ys → Window (bits_of xs) (bits_of ys) → crc_of xs ≡ crc_of ys → xs ≡ ys

-- so are strings of bytes that differ in up to four bytes in a row
abbrev pub FourBytesTold : Type 0
FourBytesTold = (before one other behind : List ℕ) → Bytes before → Bytes one → Bytes other → Bytes behind → length one ≡ length other → length one ≤ 4
    → crc_of (before ++ (one ++ behind)) ≡ crc_of (before ++ (other ++ behind)) → one ≡ other

pub record Told : Type 0 where
  pub bits : BitsTold
  pub burst : BurstTold
  pub four_bytes : FourBytesTold
