-- Addresses of six bytes as numbers, and stations as numbers.
use Rattle.std.specs.Prelude.{◌≡◌, ℕ, ◌+◌, ◌*◌, ◌%◌, ◌^◌, ◌<◌, Bool, List, length, ◌==◌, slice_index}

-- the six bytes of an address as one number, the high byte first
unfoldable pub address_number : List ℕ → ℕ
address_number bytes =
    slice_index bytes 0 * 2 ^ 40 + slice_index bytes 1 * 2 ^ 32 + slice_index bytes 2 * 2 ^ 24 + slice_index bytes 3 * 2 ^ 16 + slice_index bytes 4 * 2 ^ 8 + slice_index bytes 5

-- a station: the address, and 12 bits of VLAN
abbrev pub station_number : List ℕ → ℕ → ℕ
station_number address vlan = address_number address * 4096 + vlan

-- the address of a group has an odd first byte
abbrev pub group_address : List ℕ → Bool
group_address address = slice_index address 0 % 2 == 1

-- an address as it stands in a frame
abbrev pub SixBytes : List ℕ → Type 0
SixBytes a = (length a ≡ 6) × ((i : ℕ) → i < 6 → slice_index a i < 256)

-- no two stations have one number
abbrev pub Apart : Type 0
Apart = (a b : List ℕ) (v w : ℕ) → SixBytes a → SixBytes b → v < 4096 → w < 4096 → station_number a v ≡ station_number b w → (a ≡ b) × (v ≡ w)
