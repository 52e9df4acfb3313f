-- What one word of a command means: a number, a port, a name, an address.
use Rattle.std.specs.Prelude.{ℕ, ◌+◌, ◌-◌, ◌*◌, ◌%◌, Bool, cond, not, ◌&&◌, List, [], ◌∷◌, ◌++◌, length, take, drop, Some, None, codes, fold, Option, ◌==◌, nat_lt, slice_index}
use Rattle.std.specs.List.{prefix_len, list_all}
use Rattle.std.specs.Str.{bytes_eq}
use Rattle.std.specs.Fmt.{decimal}
use Rattle.scan.specs.declared.bytes.Kind.TheVariants.{Digit, BoxDigit, Letter}
use Rattle.scan.specs.declared.parts.PortRef.{PortRef}
use Rattle.scan.specs.Bytes.{between, is_of}

-- the number that decimal digits write, after the number v
abbrev pub value_after : ℕ → List ℕ → ℕ
value_after v ds = fold (λ v d. v * 10 + (d - 48)) v ds

-- one or more decimal digits
abbrev pub is_digits : List ℕ → Bool
is_digits w = not (length w == 0) && list_all (is_of Digit) w

-- a number from low to high, in one or more decimal digits
unfoldable pub number_in : ℕ → ℕ → List ℕ → Option ℕ
number_in low high w = cond (is_digits w && between low high (value_after 0 w)) (Some (value_after 0 w)) None

-- f of what was read, if it was
abbrev pub and_then : {A B : Type 0} → Option A → (A → Option B) → Option B
and_then None f = None
and_then (Some x) f = f x

-- a box from 0 to 5, a dot after its digits, and a port from 0 to 15
abbrev pub port_of : List ℕ → Option PortRef
port_of w =
    cond (slice_index w (prefix_len (is_of Digit) w) == 46)
    (and_then (number_in 0 5 (take (prefix_len (is_of Digit) w) w))
    (λ n. and_then (number_in 0 15 (drop (prefix_len (is_of Digit) w + 1) w))
    (λ p. Some (record { node = n; port = p }))))
    None

-- a port as it is printed
abbrev pub port_text : PortRef → List ℕ
port_text p = decimal p.node ++ codes "." ++ decimal p.port

-- 1 to 16 letters, digits or '-', and not the word for all stations
abbrev pub is_name : List ℕ → Bool
is_name w = between 1 16 (length w) && list_all (is_of Letter) w && not (bytes_eq w (codes "all"))

abbrev pub hex_of : ℕ → Option ℕ
hex_of b = cond (between 48 57 b) (Some (b - 48)) (cond (between 97 102 b) (Some (b - 87)) (cond (between 65 70 b) (Some (b - 55)) None))

-- the byte that two hex digits write
abbrev pub pair_of : ℕ → ℕ → Option ℕ
pair_of a b = and_then (hex_of a) (λ h. and_then (hex_of b) (λ l. Some (h * 16 + l)))

-- the byte that the two hex digits at a place write
abbrev pub pair_at : List ℕ → ℕ → Option ℕ
pair_at w i = pair_of (slice_index w i) (slice_index w (i + 1))

-- colons separate six pairs
abbrev pub colons : List ℕ → Bool
colons w = slice_index w 2 == 58 && slice_index w 5 == 58 && slice_index w 8 == 58 && slice_index w 11 == 58 && slice_index w 14 == 58

-- six pairs of hex digits with colons, the first of them even
abbrev pub address_of : List ℕ → Option (List ℕ)
address_of w =
    cond (length w == 17 && colons w)
    (and_then (pair_at w 0) (λ a. cond (a % 2 == 1) None
    (and_then (pair_at w 3) (λ b. and_then (pair_at w 6) (λ c. and_then (pair_at w 9) (λ d. and_then (pair_at w 12) (λ e. and_then (pair_at w 15) (λ f.
    Some (a ∷ b ∷ c ∷ d ∷ e ∷ f ∷ []))))))))) None

abbrev pub name_of : List ℕ → Option (List ℕ)
name_of w = cond (is_name w) (Some w) None

-- the box above a box: the digit at its place, and itself where there is none
abbrev pub parent_at : List ℕ → ℕ → ℕ
parent_at w n = cond (nat_lt n (length w)) (slice_index w n - 48) n

-- 1 to 6 digits from 0 to 5: the box above box 0, above box 1 and so on
abbrev pub parents_of : List ℕ → Option (List ℕ)
parents_of w =
    cond (between 1 6 (length w) && list_all (is_of BoxDigit) w)
    (Some (parent_at w 0 ∷ parent_at w 1 ∷ parent_at w 2 ∷ parent_at w 3 ∷ parent_at w 4 ∷ parent_at w 5 ∷ []))
    None
