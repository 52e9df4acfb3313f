-- CRC-32 as in IEEE 802.3, bit by bit: the register is of 32 bits and begins as all ones; each bit of the message, the low bit of a byte first, is
-- added to the low bit of the register, which is then shifted down by one; where a one falls out the polynomial is added. The sum is the register
-- with each bit turned. Adding is exclusive or throughout.
use Rattle.std.specs.Prelude.{ℕ, zero, suc, ◌*◌, ◌/◌, ◌%◌, List, [], ◌∷◌, ◌++◌, bit_xor}

-- the polynomial x^32 + x^26 + x^23 + x^22 + x^16 + x^12 + x^11 + x^10 + x^8 + x^7 + x^5 + x^4 + x^2 + x + 1, its highest power in the low bit
abbrev pub polynomial : ℕ
polynomial = 0xEDB88320

-- the register shifted down by one bit
unfoldable pub shifted : ℕ → ℕ
shifted c = bit_xor (c / 2) ((c % 2) * polynomial)

-- the register after it took in one bit
unfoldable pub taken : ℕ → ℕ → ℕ
taken c bit = shifted (bit_xor c bit)

-- the register after it took in bits, the first of the list first
unfoldable pub register : ℕ → List ℕ → ℕ
register c [] = c
register c (bit ∷ bits) = register (taken c bit) bits

-- the lowest bits of a number, k of them, low bit first
unfoldable pub low_bits : ℕ → ℕ → List ℕ
low_bits zero n = []
low_bits (suc k) n = n % 2 ∷ low_bits k (n / 2)

-- the bits of a string of bytes, in the order in which they are taken in
unfoldable pub bits_of : List ℕ → List ℕ
bits_of [] = []
bits_of (b ∷ bs) = low_bits 8 b ++ bits_of bs

abbrev pub all_ones : ℕ
all_ones = 0xFFFFFFFF

-- the sum of a string of bits
unfoldable pub crc_bits : List ℕ → ℕ
crc_bits bits = bit_xor (register all_ones bits) all_ones

-- the sum of a string of bytes
unfoldable pub crc_of : List ℕ → ℕ
crc_of bytes = crc_bits (bits_of bytes)

-- the register shifted down by k bits
unfoldable pub after : ℕ → ℕ → ℕ
after zero c = c
after (suc k) c = after k (shifted c)

-- the register after it took in a string of bytes
unfoldable pub through : ℕ → List ℕ → ℕ
through c bytes = register c (bits_of bytes)
