-- A set in 16 bytes: each bridge has the same bit there, and both ways lead back.
use Rattle.std.proofs.Common.{◌≡◌, ℕ, zero, suc, ◌+◌, ◌-◌, ◌*◌, ◌/◌, ◌%◌, ◌^◌, ◌<◌, eqb, List, map, get_or, sym, refl, ap, ◌∙◌, subst, pow-suc, mul-suc, arith, pow-add, shr-shr}
use native.Mathlib.Nat.{div-div-eq-div-mul, pow-succ'}
use lib.Pow.{field, mod-mod-pow}
use Rattle.std.specs.List.{range_with_len}
use Rattle.std.proofs.lemmas.List.FromFn.{get_or-map-range_with_len, fill_by_all, length-map-range_with_len}
use Rattle.sets.specs.Sets.{bit, has, has_byte, bytes_of, made_of, number_of, Bytes16, ThereAndBack}
use Rattle.sets.proofs.Members.{same_members}

bytes_are_bits : (q : ℕ) → 256 ^ q ≡ 2 ^ (8 * q)
bytes_are_bits zero = refl
bytes_are_bits (suc q) = omega (arith, pow-suc 256 q, bytes_are_bits q, ap (λ m. 2 ^ m) (mul-suc 8 q), pow-add 2 (8 * q) 8)

-- bit j of byte q is bit 8 q + j
byte_bit : (n q j : ℕ) → j < 8 → bit (n / 256 ^ q % 256) j ≡ bit n (8 * q + j)
byte_bit n q j h =
    rw (bytes_are_bits q) (
    let m : (7 - j) + 1 + j ≡ 8 = omega arith in
    let e : n / 2 ^ (8 * q) % 256 / 2 ^ j ≡ n / 2 ^ (8 * q) / 2 ^ j % 2 ^ ((7 - j) + 1) = subst (λ w. n / 2 ^ (8 * q) % 2 ^ w / 2 ^ j ≡ n / 2 ^ (8 * q) / 2 ^ j % 2 ^ ((7 - j) + 1)) m (field (n / 2 ^ (8 * q)) ((7 - j) + 1) j) in
    ap (λ x. x % 2) e ∙ mod-mod-pow (n / 2 ^ (8 * q) / 2 ^ j) (7 - j) 1 ∙ ap (λ x. x % 2) (shr-shr n (8 * q) j))

pub has-bytes : (s k : ℕ) → k < 128 → has_byte (bytes_of s) k ≡ has s k
unfolding has has_byte bytes_of
has-bytes s k h =
    let g : get_or (map (λ i. s / 256 ^ (15 - i) % 256) (range_with_len 0 16)) (k / 8) 0 ≡ s / 256 ^ (15 - k / 8) % 256 = get_or-map-range_with_len (λ i. s / 256 ^ (15 - i) % 256) 0 16 (k / 8) (k / 8) 0 (omega arith) (omega arith) in
    let p : 8 * (15 - k / 8) + (7 - k % 8) ≡ 127 - k = omega arith in
    ap (λ x. eqb (bit x (7 - k % 8)) 1) g ∙ ap (λ x. eqb x 1) (byte_bit s (15 - k / 8) (7 - k % 8) (omega arith)) ∙ ap (λ j. eqb (bit s j) 1) p

-- each byte out of the number that bytes make
byte_of : (bs : List ℕ) (n d i : ℕ) → ((j : ℕ) → j < n → get_or bs j 0 < 256) → suc i + d ≡ n → made_of n bs / 256 ^ d % 256 ≡ get_or bs i 0
byte_of bs zero d i small e = absurd (omega arith)
byte_of bs (suc n) zero i small e = let x : n ≡ i = omega arith in omega (arith, small n (omega arith), ap (λ m. get_or bs m 0) x)
byte_of bs (suc n) (suc d) i small e =
    let x : (made_of n bs * 256 + get_or bs n 0) / 256 ≡ made_of n bs = omega (arith, small n (omega arith)) in
    rw (pow-succ' 256 d) (rw (← div-div-eq-div-mul (made_of n bs * 256 + get_or bs n 0) 256 (256 ^ d)) (rw x (byte_of bs n d i (λ j h. small j (omega arith)) (omega arith))))

made_below : (bs : List ℕ) (n : ℕ) → ((j : ℕ) → j < n → get_or bs j 0 < 256) → made_of n bs < 256 ^ n
made_below bs zero small = omega arith
made_below bs (suc n) small = omega (arith, pow-suc 256 n, made_below bs n (λ j h. small j (omega arith)), small n (omega arith))

pub bytes_back : (bs : List ℕ) → Bytes16 bs → bytes_of (number_of bs) ≡ bs
unfolding bytes_of number_of
bytes_back bs b = sym (fill_by_all (λ i. made_of 16 bs / 256 ^ (15 - i) % 256) bs 16 0 b.many (λ k h. sym (byte_of bs 16 (15 - k) k b.small (omega arith))))

pub has-number : (bs : List ℕ) (k : ℕ) → Bytes16 bs → k < 128 → has (number_of bs) k ≡ has_byte bs k
has-number bs k b h = sym (has-bytes (number_of bs) k h) ∙ ap (λ x. has_byte x k) (bytes_back bs b)

bytes16 : (s : ℕ) → Bytes16 (bytes_of s)
unfolding bytes_of
bytes16 s = record { many = length-map-range_with_len (λ i. s / 256 ^ (15 - i) % 256) 0 16; small = small }
  where
    small : (i : ℕ) → i < 16 → get_or (map (λ i. s / 256 ^ (15 - i) % 256) (range_with_len 0 16)) i 0 < 256
    small i h = subst (λ x. x < 256) (sym (get_or-map-range_with_len (λ i. s / 256 ^ (15 - i) % 256) 0 16 i i 0 h (omega arith))) (omega arith)

pub number_below : (bs : List ℕ) → Bytes16 bs → number_of bs < 2 ^ 128
unfolding number_of
number_below bs b = made_below bs 16 b.small

pub number_back : (s : ℕ) → s < 2 ^ 128 → number_of (bytes_of s) ≡ s
number_back s h = same_members (number_of (bytes_of s)) s (number_below (bytes_of s) (bytes16 s)) h (λ k l. has-number (bytes_of s) k (bytes16 s) l ∙ has-bytes s k l)

pub there_and_back : ThereAndBack
there_and_back = (number_back, bytes_back)
