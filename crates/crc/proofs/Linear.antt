-- The register's shift is linear over exclusive or, and what lies above the bits that fall out only moves down.
use Rattle.std.proofs.Common.{◌≡◌, ℕ, zero, suc, ◌+◌, ◌*◌, ◌/◌, ◌%◌, ◌^◌, ◌<◌, List, [], ◌∷◌, ◌++◌, get_or, sym, refl, ap, ◌∙◌, subst, append_assoc, mod-lt, mul_assoc, add_comm, suc-add, one-mul, pow-suc, zero-add, zero-mul, mul-one, add-one, arith, lit<, pow_pos, shr-shr, shr_lt}
use lib.Bits.{bit_xor, xor_shr, xor_mod, xor_assoc, xor_comm, xor_zero_r, xor_self, xor_shifted, xor_lt}
use lib.Pow.{split}
use Rattle.std.specs.List.{fold}
use Rattle.crc.specs.Burst.{Bytes}
use Rattle.crc.specs.Crc.{polynomial, shifted, taken, register, low_bits, bits_of, after, through, crc_of, crc_bits, all_ones}

-- the middle two of four change places
pub swap_middle : (a b c d : ℕ) → bit_xor (bit_xor a b) (bit_xor c d) ≡ bit_xor (bit_xor a c) (bit_xor b d)
swap_middle a b c d =
    xor_assoc a b (bit_xor c d) ∙ ap (bit_xor a) (sym (xor_assoc b c d) ∙ ap (λ x. bit_xor x d) (xor_comm b c) ∙ xor_assoc c b d)
    ∙ sym (xor_assoc a c (bit_xor b d))

bit_times : (p x y : ℕ) → x < 2 → y < 2 → bit_xor x y * p ≡ bit_xor (x * p) (y * p)
bit_times p zero y h k = rw zero-mul
bit_times p (suc zero) zero h k = rw (one-mul, zero-mul, xor_zero_r)
bit_times p (suc zero) (suc zero) h k = rw (zero-mul, one-mul) (sym (xor_self p))
bit_times p (suc zero) (suc (suc y)) h k = absurd (omega arith)
bit_times p (suc (suc x)) y h k = absurd (omega arith)

pub shifted-xor : (a b : ℕ) → shifted (bit_xor a b) ≡ bit_xor (shifted a) (shifted b)
unfolding shifted
shifted-xor a b =
    let e : bit_xor a b / 2 ≡ bit_xor (a / 2) (b / 2) = xor_shr a b 1 in
    let m : bit_xor a b % 2 ≡ bit_xor (a % 2) (b % 2) = xor_mod a b 1 in
    let f : bit_xor (a % 2) (b % 2) * polynomial ≡ bit_xor (a % 2 * polynomial) (b % 2 * polynomial) =
    bit_times polynomial (a % 2) (b % 2) (mod-lt a (lit< tt)) (mod-lt b (lit< tt)) in
    ap (λ x. bit_xor x (bit_xor a b % 2 * polynomial)) e ∙ ap (λ x. bit_xor (bit_xor (a / 2) (b / 2)) x) (ap (λ x. x * polynomial) m ∙ f)
    ∙ swap_middle (a / 2) (b / 2) (a % 2 * polynomial) (b % 2 * polynomial)

-- a number with nothing in its low bit only moves down
pub shifted-double : (n : ℕ) → shifted (n * 2) ≡ n
unfolding shifted
shifted-double n =
    let e : n * 2 / 2 ≡ n = omega arith in
    let m : n * 2 % 2 ≡ 0 = omega arith in
    ap (λ x. bit_xor x (n * 2 % 2 * polynomial)) e ∙ ap (λ x. bit_xor n (x * polynomial)) m ∙ xor_zero_r n

pub after-xor : (k a b : ℕ) → after k (bit_xor a b) ≡ bit_xor (after k a) (after k b)
unfolding after
after-xor zero a b = refl
after-xor (suc k) a b = ap (after k) (shifted-xor a b) ∙ after-xor k (shifted a) (shifted b)

pub after-add : (j k c : ℕ) → after (j + k) c ≡ after k (after j c)
unfolding after
after-add zero k c = rw zero-add
after-add (suc j) k c = rw suc-add (after-add j k (shifted c))

-- what lies k bits up has come down after k shifts
pub after-high : (k n : ℕ) → after k (n * 2 ^ k) ≡ n
unfolding after
after-high zero n = rw mul-one
after-high (suc k) n =
    let e : n * 2 ^ suc k ≡ n * 2 ^ k * 2 = rw (pow-suc) (sym (mul_assoc n (2 ^ k) 2)) in
    ap (after k) (ap shifted e ∙ shifted-double (n * 2 ^ k)) ∙ after-high k n

-- the k low bits fall out, what is above them comes down
pub after-split : (k n : ℕ) → after k n ≡ bit_xor (after k (n % 2 ^ k)) (n / 2 ^ k)
after-split k n =
    let e : n ≡ bit_xor (n / 2 ^ k * 2 ^ k) (n % 2 ^ k) = sym (xor_shifted (n / 2 ^ k) k (n % 2 ^ k) (mod-lt n (pow_pos k)) ∙ split n k) in
    ap (after k) e ∙ after-xor k (n / 2 ^ k * 2 ^ k) (n % 2 ^ k) ∙ ap (λ x. bit_xor x (after k (n % 2 ^ k))) (after-high k (n / 2 ^ k))
    ∙ xor_comm (n / 2 ^ k) (after k (n % 2 ^ k))

pub shifted-below : (n : ℕ) → n < 2 ^ 32 → shifted n < 2 ^ 32
unfolding shifted
shifted-below n h =
    xor_lt 32 (n / 2) (n % 2 * polynomial) (omega arith) (omega arith)

pub after-below : (k n : ℕ) → n < 2 ^ 32 → after k n < 2 ^ 32
unfolding after
after-below zero n h = h
after-below (suc k) n h = after-below k (shifted n) (shifted-below n h)

-- taking in the k low bits of n is adding n and shifting k times
pub register-low : (k c n : ℕ) → n < 2 ^ k → register c (low_bits k n) ≡ after k (bit_xor c n)
unfolding register low_bits taken after
register-low zero c n h = let e : n ≡ 0 = omega arith in rw e (sym (xor_zero_r c))
register-low (suc k) c n h =
    let e : bit_xor (n % 2) (n / 2 * 2) ≡ n = xor_comm (n % 2) (n / 2 * 2) ∙ xor_shifted (n / 2) 1 (n % 2) (mod-lt n (lit< tt)) ∙ split n 1 in
    let b : n / 2 < 2 ^ k = shr_lt k 1 (subst (λ m. n < 2 ^ m) (sym (add-one k)) h) in
    register-low k (shifted (bit_xor c (n % 2))) (n / 2) b
    ∙ ap (after k)
    (ap (bit_xor (shifted (bit_xor c (n % 2)))) (sym (shifted-double (n / 2))) ∙ sym (shifted-xor (bit_xor c (n % 2)) (n / 2 * 2))
    ∙ ap shifted (xor_assoc c (n % 2) (n / 2 * 2) ∙ ap (bit_xor c) e))

pub register-append : (c : ℕ) (xs ys : List ℕ) → register c (xs ++ ys) ≡ register (register c xs) ys
unfolding register
register-append c [] ys = refl
register-append c (x ∷ xs) ys = register-append (taken c x) xs ys

pub bits_append : (xs ys : List ℕ) → bits_of (xs ++ ys) ≡ bits_of xs ++ bits_of ys
unfolding bits_of
bits_append [] ys = refl
bits_append (x ∷ xs) ys = ap (λ r. low_bits 8 x ++ r) (bits_append xs ys) ∙ sym (append_assoc (low_bits 8 x) (bits_of xs) (bits_of ys))

pub through-none : (c : ℕ) → through c [] ≡ c
unfolding through bits_of register
through-none c = refl

pub through-more : (c b : ℕ) (bs : List ℕ) → b < 256 → through c (b ∷ bs) ≡ through (after 8 (bit_xor c b)) bs
unfolding through bits_of
through-more c b bs h = register-append c (low_bits 8 b) (bits_of bs) ∙ ap (λ r. register r (bits_of bs)) (register-low 8 c b h)

pub crc_through : (bs : List ℕ) → crc_of bs ≡ bit_xor (through all_ones bs) all_ones
unfolding crc_of crc_bits through
crc_through bs = refl

-- bytes taken in one by one
pub through-fold : (c : ℕ) (bs : List ℕ) → ((k : ℕ) → get_or bs k 0 < 256) → fold (λ register byte. after 8 (bit_xor register byte)) c bs ≡ through c bs
through-fold c [] h = sym (through-none c)
through-fold c (b ∷ bs) h = through-fold (after 8 (bit_xor c b)) bs (λ k. h (suc k)) ∙ sym (through-more c b bs (h 0))

-- the low byte of eight or more, and the bytes above it, each shifted on its own
pub after-byte : (k w : ℕ) → after (8 + k) w ≡ bit_xor (after (8 + k) (w % 256)) (after k (w / 256))
after-byte k w =
    after-add 8 k w ∙ ap (after k) (after-split 8 w) ∙ after-xor k (after 8 (w % 256)) (w / 256)
    ∙ ap (λ x. bit_xor x (after k (w / 256))) (sym (after-add 8 k (w % 256)))

-- the same with what the bytes below came to
next_byte : (acc k w v : ℕ) → w / 256 ≡ v → bit_xor acc (after (8 + k) w) ≡ bit_xor (bit_xor acc (after (8 + k) (w % 256))) (after k v)
next_byte acc k w v e =
    ap (bit_xor acc) (after-byte k w) ∙ sym (xor_assoc acc (after (8 + k) (w % 256)) (after k (w / 256)))
    ∙ ap (λ n. bit_xor (bit_xor acc (after (8 + k) (w % 256))) (after k n)) e

under : (acc : ℕ) {n m : ℕ} → n ≡ m → bit_xor acc (after 8 n) ≡ bit_xor acc (after 8 m)
under acc e = ap (λ n. bit_xor acc (after 8 n)) e

pub after-eight : (w : ℕ) → w < 2 ^ 64 → after 64 w ≡
    bit_xor (bit_xor (bit_xor (bit_xor (bit_xor (bit_xor (bit_xor (after 64 (w % 256)) (after 56 (w / 256 % 256))) (after 48 (w / 65536 % 256)))
    (after 40 (w / 16777216 % 256))) (after 32 (w / 4294967296 % 256))) (after 24 (w / 1099511627776 % 256))) (after 16 (w / 281474976710656 % 256)))
    (after 8 (w / 72057594037927936 % 256))
after-eight w h =
    let top : w / 72057594037927936 ≡ w / 72057594037927936 % 256 = omega arith in
    after-byte 56 w ∙ next_byte _ 48 (w / 256) (w / 65536) (shr-shr w 8 8) ∙ next_byte _ 40 (w / 65536) (w / 16777216) (shr-shr w 16 8)
    ∙ next_byte _ 32 (w / 16777216) (w / 4294967296) (shr-shr w 24 8) ∙ next_byte _ 24 (w / 4294967296) (w / 1099511627776) (shr-shr w 32 8)
    ∙ next_byte _ 16 (w / 1099511627776) (w / 281474976710656) (shr-shr w 40 8)
    ∙ next_byte _ 8 (w / 281474976710656) (w / 72057594037927936) (shr-shr w 48 8) ∙ under _ top

-- the low byte of the register, with a byte added, shifted; what is above it comes down
pub after_table : (c b : ℕ) → b < 256 → bit_xor (after 8 (bit_xor (c % 256) b)) (c / 256) ≡ after 8 (bit_xor c b)
after_table c b h =
    let m : bit_xor c b % 256 ≡ bit_xor (c % 256) b = xor_mod c b 8 ∙ ap (bit_xor (c % 256)) (omega arith) in
    let d : bit_xor c b / 256 ≡ c / 256 = xor_shr c b 8 ∙ ap (bit_xor (c / 256)) (omega arith) ∙ xor_zero_r (c / 256) in
    sym (after-split 8 (bit_xor c b) ∙ ap (λ x. bit_xor (after 8 x) (bit_xor c b / 256)) m ∙ ap (bit_xor (after 8 (bit_xor (c % 256) b))) d)

-- the bytes as one number, the first lowest
abbrev pub joined : List ℕ → ℕ
joined [] = 0
joined (b ∷ bs) = b + joined bs * 256

abbrev pub shifts : List ℕ → ℕ
shifts [] = 0
shifts (b ∷ bs) = 8 + shifts bs

-- taking in bytes is adding them at once and shifting as often
pub through-joined : (c : ℕ) (bs : List ℕ) → Bytes bs → through c bs ≡ after (shifts bs) (bit_xor c (joined bs))
unfolding after
through-joined c [] h = through-none c ∙ sym (xor_zero_r c)
through-joined c (b ∷ bs) h =
    let n = joined bs in
    let e : bit_xor (bit_xor c b) (n * 256) ≡ bit_xor c (b + n * 256) =
    xor_assoc c b (n * 256) ∙ ap (bit_xor c) (xor_comm b (n * 256) ∙ xor_shifted n 8 b h.0 ∙ add_comm (n * 256) b) in
    through-more c b bs h.0 ∙ through-joined (after 8 (bit_xor c b)) bs h.1
    ∙ ap (after (shifts bs))
    (ap (bit_xor (after 8 (bit_xor c b))) (sym (after-high 8 n)) ∙ sym (after-xor 8 (bit_xor c b) (n * 256)) ∙ ap (after 8) e)
    ∙ sym (after-add 8 (shifts bs) (bit_xor c (b + n * 256)))

pub through-append : (c : ℕ) (xs ys : List ℕ) → through c (xs ++ ys) ≡ through (through c xs) ys
unfolding through
through-append c xs ys = ap (register c) (bits_append xs ys) ∙ register-append c (bits_of xs) (bits_of ys)
