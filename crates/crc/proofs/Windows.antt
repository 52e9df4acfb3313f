-- A window of at most 32 bits is told by the register: each shift can be undone, and after k bits the register is the window's number, shifted k times.
use Rattle.std.proofs.Common.{◌≡◌, ℕ, zero, suc, ◌+◌, ◌*◌, ◌/◌, ◌%◌, ◌^◌, ◌<◌, ◌≤◌, List, [], ◌∷◌, ◌++◌, length, get_or, drop, sym, refl, ap, ◌∙◌, subst, mod-lt, add_comm, pow-suc, arith, lit<, pow_mono}
use lib.Bits.{bit_xor, xor_shr, xor_assoc, xor_comm, xor_self, xor_zero_r, xor_shifted, xor_lt}
use Rattle.crc.specs.Crc.{polynomial, shifted, taken, register, low_bits, bits_of, after, crc_of, crc_bits, all_ones}
use Rattle.crc.specs.Burst.{Bits, Bytes, BitsTold, BurstTold, FourBytesTold, Told}
use Rattle.crc.proofs.Linear.{shifted-xor, shifted-double, shifted-below, register-append, bits_append}

-- exclusive or with one number can be undone
pub xor_undo : (c a : ℕ) → bit_xor c (bit_xor c a) ≡ a
xor_undo c a = sym (xor_assoc c c a) ∙ ap (λ x. bit_xor x a) (xor_self c)

pub xor_injective : (c a b : ℕ) → bit_xor c a ≡ bit_xor c b → a ≡ b
xor_injective c a b e = sym (xor_undo c a) ∙ ap (bit_xor c) e ∙ xor_undo c b

-- the high bit of the shifted register is the bit that fell out, since the polynomial has that bit
shifted-top : (n : ℕ) → n < 2 ^ 32 → shifted n / 2147483648 ≡ n % 2
unfolding shifted
shifted-top n h =
    let z : n / 2 / 2147483648 ≡ 0 = omega arith in
    let t : n % 2 * polynomial / 2147483648 ≡ n % 2 = omega arith in
    xor_shr (n / 2) (n % 2 * polynomial) 31 ∙ ap (λ x. bit_xor x (n % 2 * polynomial / 2147483648)) z ∙ t

shifted_half : (n : ℕ) → bit_xor (n % 2 * polynomial) (shifted n) ≡ n / 2
unfolding shifted
shifted_half n = ap (bit_xor (n % 2 * polynomial)) (xor_comm (n / 2) (n % 2 * polynomial)) ∙ xor_undo (n % 2 * polynomial) (n / 2)

pub shifted-injective : (m n : ℕ) → m < 2 ^ 32 → n < 2 ^ 32 → shifted m ≡ shifted n → m ≡ n
shifted-injective m n hm hn e =
    let p : m % 2 ≡ n % 2 = sym (shifted-top m hm) ∙ ap (λ x. x / 2147483648) e ∙ shifted-top n hn in
    let q : m / 2 ≡ n / 2 =
    sym (shifted_half m) ∙ ap (λ x. bit_xor (x * polynomial) (shifted m)) p ∙ ap (bit_xor (n % 2 * polynomial)) e ∙ shifted_half n in
    omega arith

pub after-injective : (k m n : ℕ) → m < 2 ^ 32 → n < 2 ^ 32 → after k m ≡ after k n → m ≡ n
unfolding after
after-injective zero m n hm hn e = e
after-injective (suc k) m n hm hn e =
    shifted-injective m n hm hn (after-injective k (shifted m) (shifted n) (shifted-below m hm) (shifted-below n hn) e)

-- bits as a number, the first lowest
num : List ℕ → ℕ
num [] = 0
num (b ∷ bs) = b + num bs * 2

num_below : (bs : List ℕ) → Bits bs → num bs < 2 ^ length bs
unfolding num
num_below [] h = lit< tt
num_below (b ∷ bs) h = let r = num_below bs h.1 in rw pow-suc (omega (arith, h.0))

num_injective : (xs ys : List ℕ) → Bits xs → Bits ys → length xs ≡ length ys → num xs ≡ num ys → xs ≡ ys
unfolding num
num_injective [] [] h k l e = refl
num_injective [] (y ∷ ys) h k l e = absurd (omega arith)
num_injective (x ∷ xs) [] h k l e = absurd (omega arith)
num_injective (x ∷ xs) (y ∷ ys) h k l e =
    let p : x ≡ y = omega (arith, h.0, k.0) in
    let q : num xs ≡ num ys = omega (arith, h.0, k.0) in
    let r : xs ≡ ys = num_injective xs ys h.1 k.1 (omega arith) q in
    λ i. p i ∷ r i

-- taking in bits is adding their number and shifting as often
register-num : (c : ℕ) (bs : List ℕ) → Bits bs → register c bs ≡ after (length bs) (bit_xor c (num bs))
unfolding register taken after num
register-num c [] h = sym (xor_zero_r c)
register-num c (b ∷ bs) h =
    let n = num bs in
    let e : bit_xor b (n * 2) ≡ b + n * 2 = xor_comm b (n * 2) ∙ xor_shifted n 1 b h.0 ∙ add_comm (n * 2) b in
    register-num (shifted (bit_xor c b)) bs h.1
    ∙ ap (after (length bs))
    (ap (bit_xor (shifted (bit_xor c b))) (sym (shifted-double n)) ∙ sym (shifted-xor (bit_xor c b) (n * 2))
    ∙ ap shifted (xor_assoc c b (n * 2) ∙ ap (bit_xor c) e))

pub register-below : (c : ℕ) (bs : List ℕ) → c < 2 ^ 32 → Bits bs → register c bs < 2 ^ 32
unfolding register taken
register-below c [] h k = h
register-below c (b ∷ bs) h k =
    register-below (shifted (bit_xor c b)) bs (shifted-below (bit_xor c b) (xor_lt 32 c b h (omega (arith, k.0)))) k.1

-- what is behind the window does not hide it
register-injective : (c d : ℕ) (bs : List ℕ) → c < 2 ^ 32 → d < 2 ^ 32 → Bits bs → register c bs ≡ register d bs → c ≡ d
unfolding register taken
register-injective c d [] hc hd k e = e
register-injective c d (b ∷ bs) hc hd k e =
    let bc : bit_xor c b < 2 ^ 32 = xor_lt 32 c b hc (omega (arith, k.0)) in
    let bd : bit_xor d b < 2 ^ 32 = xor_lt 32 d b hd (omega (arith, k.0)) in
    let s : shifted (bit_xor c b) ≡ shifted (bit_xor d b) =
    register-injective (shifted (bit_xor c b)) (shifted (bit_xor d b)) bs (shifted-below (bit_xor c b) bc) (shifted-below (bit_xor d b) bd) k.1 e in
    xor_injective b c d (xor_comm b c ∙ shifted-injective (bit_xor c b) (bit_xor d b) bc bd s ∙ xor_comm d b)

-- nor does what is before it
window_told : (c : ℕ) (xs ys : List ℕ) → c < 2 ^ 32 → Bits xs → Bits ys → length xs ≡ length ys → length xs ≤ 32 → register c xs ≡ register c ys → xs ≡ ys
window_told c xs ys hc hx hy l s e =
    let small : 2 ^ length xs ≤ 2 ^ 32 = pow_mono s in
    let same : 2 ^ length xs ≡ 2 ^ length ys = ap (λ k. 2 ^ k) l in
    let nx : num xs < 2 ^ 32 = omega (arith, num_below xs hx) in
    let ny : num ys < 2 ^ 32 = omega (arith, num_below ys hy) in
    let p : after (length xs) (bit_xor c (num xs)) ≡ after (length xs) (bit_xor c (num ys)) =
    sym (register-num c xs hx) ∙ e ∙ register-num c ys hy ∙ ap (λ k. after k (bit_xor c (num ys))) (sym l) in
    num_injective xs ys hx hy l
    (xor_injective c (num xs) (num ys)
    (after-injective (length xs) (bit_xor c (num xs)) (bit_xor c (num ys)) (xor_lt 32 c (num xs) hc nx) (xor_lt 32 c (num ys) hc ny) p))

bits_left : (xs ys : List ℕ) → Bits (xs ++ ys) → Bits xs
bits_left [] ys h = tt
bits_left (x ∷ xs) ys h = (h.0, bits_left xs ys h.1)

bits_right : (xs ys : List ℕ) → Bits (xs ++ ys) → Bits ys
bits_right [] ys h = h
bits_right (x ∷ xs) ys h = bits_right xs ys h.1

bits_both : (xs ys : List ℕ) → Bits xs → Bits ys → Bits (xs ++ ys)
bits_both [] ys h k = k
bits_both (x ∷ xs) ys h k = (h.0, bits_both xs ys h.1 k)

told : (p a b q : List ℕ) → Bits (p ++ (a ++ q)) → Bits (p ++ (b ++ q)) → length a ≡ length b → length a ≤ 32
    → crc_bits (p ++ (a ++ q)) ≡ crc_bits (p ++ (b ++ q)) → a ≡ b
unfolding crc_bits
told p a b q h k l s e =
    let c = register all_ones p in
    let hp : Bits p = bits_left p (a ++ q) h in
    let ha : Bits (a ++ q) = bits_right p (a ++ q) h in
    let hb : Bits (b ++ q) = bits_right p (b ++ q) k in
    let bc : c < 2 ^ 32 = register-below all_ones p (lit< tt) hp in
    let split_a : register all_ones (p ++ (a ++ q)) ≡ register (register c a) q = register-append all_ones p (a ++ q) ∙ register-append c a q in
    let split_b : register all_ones (p ++ (b ++ q)) ≡ register (register c b) q = register-append all_ones p (b ++ q) ∙ register-append c b q in
    let r : register all_ones (p ++ (a ++ q)) ≡ register all_ones (p ++ (b ++ q)) =
    xor_injective all_ones (register all_ones (p ++ (a ++ q))) (register all_ones (p ++ (b ++ q)))
    (xor_comm all_ones (register all_ones (p ++ (a ++ q))) ∙ e ∙ xor_comm (register all_ones (p ++ (b ++ q))) all_ones) in
    window_told c a b bc (bits_left a q ha) (bits_left b q hb) l s
    (register-injective (register c a) (register c b) q (register-below c a bc (bits_left a q ha)) (register-below c b bc (bits_left b q hb))
    (bits_right a q ha) (sym split_a ∙ r ∙ split_b))

pub bits_told : BitsTold
bits_told xs ys hx hy w e =
    let f = w.first in
    let s = w.second in
    let same : w.one ≡ w.other =
    told w.before w.one w.other w.behind (subst Bits f hx) (subst Bits s hy) w.as_long w.short
    (sym (ap crc_bits f) ∙ e ∙ ap crc_bits s) in
    f ∙ ap (λ m. w.before ++ (m ++ w.behind)) same ∙ sym s

low_bits_lem : (k n : ℕ) → Bits (low_bits k n)
unfolding low_bits
low_bits_lem zero n = tt
low_bits_lem (suc k) n = (mod-lt n (lit< tt), low_bits_lem k (n / 2))

pub bits_are : (bs : List ℕ) → Bits (bits_of bs)
unfolding bits_of
bits_are [] = tt
bits_are (b ∷ bs) = bits_both (low_bits 8 b) (bits_of bs) (low_bits_lem 8 b) (bits_are bs)

-- the sum fits 32 bits
pub crc_below : (bs : List ℕ) → crc_of bs < 2 ^ 32
unfolding crc_of crc_bits
crc_below bs = xor_lt 32 (register all_ones (bits_of bs)) all_ones (register-below all_ones (bits_of bs) (lit< tt) (bits_are bs)) (lit< tt)

-- the first byte from the first eight bits
byte_of : List ℕ → ℕ
byte_of l = get_or l 0 0 + get_or l 1 0 * 2 + get_or l 2 0 * 4 + get_or l 3 0 * 8 + get_or l 4 0 * 16 + get_or l 5 0 * 32 + get_or l 6 0 * 64 + get_or l 7 0 * 128

bits_byte : (b : ℕ) (bs : List ℕ) → b < 256 → byte_of (bits_of (b ∷ bs)) ≡ b
unfolding byte_of bits_of low_bits
bits_byte b bs h = omega arith

bits_rest : (b : ℕ) (bs : List ℕ) → drop 8 (bits_of (b ∷ bs)) ≡ bits_of bs
unfolding bits_of low_bits
bits_rest b bs = refl

bits_length : (bs : List ℕ) → length (bits_of bs) ≡ length bs * 8
unfolding bits_of low_bits
bits_length [] = refl
bits_length (b ∷ bs) = let e = bits_length bs in omega arith

pub bits_injective : (xs ys : List ℕ) → Bytes xs → Bytes ys → bits_of xs ≡ bits_of ys → xs ≡ ys
bits_injective [] [] h k e = refl
bits_injective [] (y ∷ ys) h k e = absurd (omega (arith, ap length e, bits_length [], bits_length (y ∷ ys)))
bits_injective (x ∷ xs) [] h k e = absurd (omega (arith, ap length e, bits_length [], bits_length (x ∷ xs)))
bits_injective (x ∷ xs) (y ∷ ys) h k e =
    let p : x ≡ y = sym (bits_byte x xs h.0) ∙ ap byte_of e ∙ bits_byte y ys k.0 in
    let q : bits_of xs ≡ bits_of ys = sym (bits_rest x xs) ∙ ap (drop 8) e ∙ bits_rest y ys in
    let r : xs ≡ ys = bits_injective xs ys h.1 k.1 q in
    λ i. p i ∷ r i

pub burst_told : BurstTold
unfolding crc_of
burst_told xs ys hx hy w e = bits_injective xs ys hx hy (bits_told (bits_of xs) (bits_of ys) (bits_are xs) (bits_are ys) w e)

pub four_bytes_told : FourBytesTold
unfolding crc_of
four_bytes_told p a b q hp ha hb hq l s e =
    let split_a : bits_of (p ++ (a ++ q)) ≡ bits_of p ++ (bits_of a ++ bits_of q) = bits_append p (a ++ q) ∙ ap (λ t. bits_of p ++ t) (bits_append a q) in
    let split_b : bits_of (p ++ (b ++ q)) ≡ bits_of p ++ (bits_of b ++ bits_of q) = bits_append p (b ++ q) ∙ ap (λ t. bits_of p ++ t) (bits_append b q) in
    bits_injective a b ha hb
    (told (bits_of p) (bits_of a) (bits_of b) (bits_of q) (subst Bits split_a (bits_are (p ++ (a ++ q)))) (subst Bits split_b (bits_are (p ++ (b ++ q))))
    (bits_length a ∙ ap (λ n. n * 8) l ∙ sym (bits_length b)) (omega (arith, bits_length a))
    (sym (ap crc_bits split_a) ∙ e ∙ ap crc_bits split_b))

pub all_told : Told
all_told = record { bits = bits_told; burst = burst_told; four_bytes = four_bytes_told }
