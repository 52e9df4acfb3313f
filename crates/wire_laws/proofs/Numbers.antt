-- Numbers in bytes, there and back.
use Rattle.std.proofs.Common.{◌≡◌, ℕ, zero, suc, ◌+◌, ◌*◌, ◌/◌, ◌%◌, ◌^◌, ◌<◌, ◌≤◌, List, [], ◌∷◌, ◌++◌, length, get_or, take, drop, refl, ap, ◌∙◌, suc-add, zero-add, arith, drop-cons, shr-shr}
use Rattle.crc.specs.Burst.{Bytes}
use Rattle.wire.specs.Bytes.{two, three, four, six, in_two, in_three, in_four, in_six}

-- every byte of a string is one
pub byte_at : (b : List ℕ) (i : ℕ) → Bytes b → get_or b i 0 < 256
byte_at [] i h = omega arith
byte_at (x ∷ xs) zero h = h.0
byte_at (x ∷ xs) (suc i) h = byte_at xs i h.1

-- the number of bytes
pub two_back : (n : ℕ) → n < 2 ^ 16 → n / 256 % 256 * 256 + n % 256 ≡ n
two_back n h = omega arith

pub three_back : (n : ℕ) → n < 2 ^ 24 → n / 65536 % 256 * 65536 + n / 256 % 256 * 256 + n % 256 ≡ n
three_back n h = omega (arith, shr-shr n 8 8)

-- the digits of a number from its quotients, each the next one's digits and one more
digits_of_four : (n p q r a b c d : ℕ) → n ≡ p * 256 + d → p ≡ q * 256 + c → q ≡ r * 256 + b → a ≡ r → a * 16777216 + b * 65536 + c * 256 + d ≡ n
digits_of_four n p q r a b c d e f g h = omega arith

digits_of_six : (n p q r s t a b c d e f : ℕ) → n ≡ p * 256 + f → p ≡ q * 256 + e → q ≡ r * 256 + d → r ≡ s * 256 + c → s ≡ t * 256 + b → a ≡ t
    → (a * 256 + b) * 4294967296 + (c * 16777216 + d * 65536 + e * 256 + f) ≡ n
digits_of_six n p q r s t a b c d e f h1 h2 h3 h4 h5 h6 = omega arith

pub four-back : (n : ℕ) → n < 2 ^ 32 → n / 16777216 % 256 * 16777216 + n / 65536 % 256 * 65536 + n / 256 % 256 * 256 + n % 256 ≡ n
four-back n h =
    digits_of_four n (n / 256) (n / 65536) (n / 16777216) (n / 16777216 % 256) (n / 65536 % 256) (n / 256 % 256) (n % 256) (omega arith)
    (omega (arith, shr-shr n 8 8)) (omega (arith, shr-shr n 16 8)) (omega arith)

pub six-back : (n : ℕ) → n < 2 ^ 48
    → (n / 1099511627776 % 256 * 256 + n / 4294967296 % 256) * 4294967296
    + (n / 16777216 % 256 * 16777216 + n / 65536 % 256 * 65536 + n / 256 % 256 * 256 + n % 256) ≡ n
six-back n h =
    digits_of_six n (n / 256) (n / 65536) (n / 16777216) (n / 4294967296) (n / 1099511627776) (n / 1099511627776 % 256) (n / 4294967296 % 256)
    (n / 16777216 % 256) (n / 65536 % 256) (n / 256 % 256) (n % 256) (omega arith) (omega (arith, shr-shr n 8 8)) (omega (arith, shr-shr n 16 8))
    (omega (arith, shr-shr n 24 8)) (omega (arith, shr-shr n 32 8)) (omega arith)

-- the bytes of a number that bytes made
pub in_two_lem : (x y : ℕ) → x < 256 → y < 256 → in_two (x * 256 + y) ≡ x ∷ y ∷ []
in_two_lem x y hx hy = let p : (x * 256 + y) / 256 % 256 ≡ x = omega arith in let q : (x * 256 + y) % 256 ≡ y = omega arith in λ i. p i ∷ q i ∷ []

pub in_three_lem : (x y z : ℕ) → x < 256 → y < 256 → z < 256 → in_three (x * 65536 + y * 256 + z) ≡ x ∷ y ∷ z ∷ []
in_three_lem x y z hx hy hz =
    let n = x * 65536 + y * 256 + z in
    let p : n / 65536 % 256 ≡ x = omega arith in
    let q : n / 256 % 256 ≡ y = omega arith in
    let r : n % 256 ≡ z = omega arith in
    λ i. p i ∷ q i ∷ r i ∷ []

pub in_four_lem : (x y z w : ℕ) → x < 256 → y < 256 → z < 256 → w < 256 → in_four (x * 16777216 + y * 65536 + z * 256 + w) ≡ x ∷ y ∷ z ∷ w ∷ []
in_four_lem x y z w hx hy hz hw =
    let n = x * 16777216 + y * 65536 + z * 256 + w in
    let p : n / 16777216 % 256 ≡ x = omega arith in
    let q : n / 65536 % 256 ≡ y = omega arith in
    let r : n / 256 % 256 ≡ z = omega arith in
    let s : n % 256 ≡ w = omega arith in
    λ i. p i ∷ q i ∷ r i ∷ s i ∷ []

pub in-six : (u v x y z w : ℕ) → u < 256 → v < 256 → x < 256 → y < 256 → z < 256 → w < 256
    → in_six ((u * 256 + v) * 4294967296 + (x * 16777216 + y * 65536 + z * 256 + w)) ≡ u ∷ v ∷ x ∷ y ∷ z ∷ w ∷ []
in-six u v x y z w hu hv hx hy hz hw =
    let n = (u * 256 + v) * 4294967296 + (x * 16777216 + y * 65536 + z * 256 + w) in
    let a : n / 1099511627776 % 256 ≡ u = omega arith in
    let b : n / 4294967296 % 256 ≡ v = omega arith in
    let p : n / 16777216 % 256 ≡ x = omega arith in
    let q : n / 65536 % 256 ≡ y = omega arith in
    let r : n / 256 % 256 ≡ z = omega arith in
    let s : n % 256 ≡ w = omega arith in
    λ i. a i ∷ b i ∷ p i ∷ q i ∷ r i ∷ s i ∷ []

-- the same of bytes at a place
pub in-two-at : (b : List ℕ) (i : ℕ) → Bytes b → in_two (two b i) ≡ get_or b i 0 ∷ get_or b (i + 1) 0 ∷ []
in-two-at b i h = in_two_lem (get_or b i 0) (get_or b (i + 1) 0) (byte_at b i h) (byte_at b (i + 1) h)

pub in-three-at : (b : List ℕ) (i : ℕ) → Bytes b → in_three (three b i) ≡ get_or b i 0 ∷ get_or b (i + 1) 0 ∷ get_or b (i + 2) 0 ∷ []
in-three-at b i h =
    in_three_lem (get_or b i 0) (get_or b (i + 1) 0) (get_or b (i + 2) 0) (byte_at b i h) (byte_at b (i + 1) h) (byte_at b (i + 2) h)

pub in-four-at : (b : List ℕ) (i : ℕ) → Bytes b → in_four (four b i) ≡ get_or b i 0 ∷ get_or b (i + 1) 0 ∷ get_or b (i + 2) 0 ∷ get_or b (i + 3) 0 ∷ []
in-four-at b i h =
    in_four_lem (get_or b i 0) (get_or b (i + 1) 0) (get_or b (i + 2) 0) (get_or b (i + 3) 0) (byte_at b i h) (byte_at b (i + 1) h) (byte_at b (i + 2) h)
    (byte_at b (i + 3) h)

pub in-six-at : (b : List ℕ) (i : ℕ) → Bytes b
    → in_six (six b i) ≡ get_or b i 0 ∷ get_or b (i + 1) 0 ∷ get_or b (i + 2) 0 ∷ get_or b (i + 2 + 1) 0 ∷ get_or b (i + 2 + 2) 0 ∷ get_or b (i + 2 + 3) 0 ∷ []
in-six-at b i h =
    in-six (get_or b i 0) (get_or b (i + 1) 0) (get_or b (i + 2) 0) (get_or b (i + 2 + 1) 0) (get_or b (i + 2 + 2) 0) (get_or b (i + 2 + 3) 0)
    (byte_at b i h) (byte_at b (i + 1) h) (byte_at b (i + 2) h) (byte_at b (i + 2 + 1) h) (byte_at b (i + 2 + 2) h) (byte_at b (i + 2 + 3) h)

-- the bytes from a place on, one by one
abbrev pub front : ℕ → ℕ → List ℕ → List ℕ
front i zero xs = []
front i (suc n) xs = get_or xs i 0 ∷ front (suc i) n xs

pub take-front : (n i : ℕ) (xs : List ℕ) → i + n ≤ length xs → take n (drop i xs) ≡ front i n xs
take-front zero i xs h = refl
take-front (suc n) i xs h = ap (take (suc n)) (drop-cons xs i 0 (omega arith)) ∙ ap (λ r. get_or xs i 0 ∷ r) (take-front n (suc i) xs (omega arith))

pub take_split : (m n : ℕ) (xs : List ℕ) → m ≤ length xs → take (m + n) xs ≡ take m xs ++ take n (drop m xs)
take_split zero n xs h = rw zero-add
take_split (suc m) n [] h = absurd (omega arith)
take_split (suc m) n (x ∷ xs) h = rw suc-add (ap (λ r. x ∷ r) (take_split m n xs (omega arith)))
