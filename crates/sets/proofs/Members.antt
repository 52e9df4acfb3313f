-- What masks do to each member of a set, and that its members make a set what it is.
use Rattle.std.proofs.Common.{◌≡◌, ℕ, zero, suc, ◌+◌, ◌-◌, ◌*◌, ◌/◌, ◌%◌, ◌^◌, ◌<◌, ◌≤◌, true, false, not, ◌&&◌, ◌||◌, eqb, min, max, sym, ap, ◌∙◌, subst, inl, inr, arith}
use native.Mathlib.Nat.{div-eq_of_lt, div-eq_of_lt-le, pow-le-pow_right, two-pow-succ}
use native.Mathlib.Bridge.{le_prop}
use native.Mathlib.Decide.{ℕ_discrete}
use lib.Count.{count_leading_zeros, leading_top, leading_length, leading_of_zero}
use lib.Bits.{bit_and, bit_or}
use Rattle.std.specs.Int.{w128}
use Rattle.std.proofs.lemmas.Bool.Decides.{nat_tests}
use Rattle.std.proofs.lemmas.Nat.{one_shl}
use Rattle.std.proofs.lemmas.Nat.Bits.{bit_at-lt, bit_at-zero, bit_at_and, bit_at_or, bit_at_not, bit_at-pow_same, bit_at-pow_other, same_from_bits_below}
use Rattle.std.proofs.lemmas.Bool.{cases_lt, eq-eqb, ne_eqb}
use Rattle.sets.specs.declared.bridge_id.BridgeId.{BridgeId}
use Rattle.sets.specs.Sets.{bit, has, SameMembers}

-- masks, one member at a time

bit_of_both : (p q : ℕ) → p < 2 → q < 2 → eqb (min p q) 1 ≡ (eqb p 1 && eqb q 1)
bit_of_both p q h l = grind (arith, nat_tests)

bit_of_either : (p q : ℕ) → p < 2 → q < 2 → eqb (max p q) 1 ≡ (eqb p 1 || eqb q 1)
bit_of_either p q h l = grind (arith, nat_tests)

bit_of_not : (p : ℕ) → p < 2 → eqb (1 - p) 1 ≡ not (eqb p 1)
bit_of_not p h = grind (arith, nat_tests)

pub has-and : (a b k : ℕ) → has (bit_and a b) k ≡ (has a k && has b k)
unfolding has
has-and a b k = ap (λ n. eqb n 1) (bit_at_and a b (127 - k)) ∙ bit_of_both _ _ (bit_at-lt a (127 - k)) (bit_at-lt b (127 - k))

pub has-or : (a b k : ℕ) → has (bit_or a b) k ≡ (has a k || has b k)
unfolding has
has-or a b k = ap (λ n. eqb n 1) (bit_at_or a b (127 - k)) ∙ bit_of_either _ _ (bit_at-lt a (127 - k)) (bit_at-lt b (127 - k))

pub has-none : (k : ℕ) → has 0 k ≡ false
unfolding has
has-none k = ap (λ n. eqb n 1) (bit_at-zero (127 - k))

pub has-not : (a k : ℕ) → a < 2 ^ 128 → k < 128 → has (340282366920938463463374607431768211455 - a) k ≡ not (has a k)
unfolding has
has-not a k h l = ap (λ n. eqb n 1) (bit_at_not w128 a (127 - k) h (omega arith)) ∙ bit_of_not _ (bit_at-lt a (127 - k))

-- one bit

pub has_one : (b k : ℕ) → b < 128 → k < 128 → has (2 ^ (127 - b)) k ≡ eqb k b
unfolding has
has_one b k h l = elim (ℕ_discrete k b) [
  | yes e ↦ eq-eqb _ _ (ap (λ m. bit (2 ^ (127 - b)) (127 - m)) e ∙ bit_at-pow_same (127 - b)) ∙ sym (eq-eqb k b e)
  | no ne ↦
      let other : bit (2 ^ (127 - b)) (127 - k) ≡ 0 = bit_at-pow_other (127 - b) (127 - k) (λ e. ne (omega arith)) in
      ne_eqb _ _ (λ o. omega arith) ∙ sym (ne_eqb k b ne)
]

-- the bit as a shift makes it
pub has-shifted : (r k : ℕ) → r < 128 → k < 128 → has (1 * 2 ^ (127 - r) % 340282366920938463463374607431768211456) k ≡ eqb k r
has-shifted r k h l = ap (λ n. has n k) (one_shl (127 - r) 128 (omega arith)) ∙ has_one r k h l

-- what the operators of a mask do
pub ruleset members = (has-and, has-or, has-not, has-none, has-shifted)

-- its members make a set what it is

one_test : (p q : ℕ) → p < 2 → q < 2 → eqb p 1 ≡ eqb q 1 → p ≡ q
one_test p q h l e = grind (arith, nat_tests)

pub same_members : SameMembers
unfolding has
same_members a b h l same = same_from_bits_below 128 a b h l (λ j k. one_test (bit a j) (bit b j) (omega arith) (omega arith) (subst (λ m. eqb (bit a m) 1 ≡ eqb (bit b m) 1) (back j k) (same (127 - j) (omega arith))))
  where
    back : (j : ℕ) → j < 128 → 127 - (127 - j) ≡ j
    back j k = omega arith

-- the lowest member is where the leading zeros end

first_at : (s z j : ℕ) → z + suc j ≡ 128 → 2 ^ j ≤ s → s < 2 ^ suc j → has s z ≡ true
unfolding has
first_at s z j e low up =
    let d : s / 2 ^ j ≡ 1 = div-eq_of_lt-le (2 ^ j) (omega arith) (omega (arith, two-pow-succ j)) in
    let w : bit s j ≡ 1 = ap (λ x. x % 2) d in
    let p : j ≡ 127 - z = omega arith in
    eq-eqb _ _ (subst (λ i. bit s i ≡ 1) p w)

pub first_in : (s : ℕ) → s < 2 ^ 128 → count_leading_zeros 128 s < 128 → has s (count_leading_zeros 128 s) ≡ true
first_in s h l =
    let some : 0 < s = elim (cases_lt 0 s) [ inl p ↦ p | inr z ↦ let e : s ≡ 0 = omega arith in absurd (omega (arith, ap (count_leading_zeros 128) e, leading_of_zero 128)) ] in
    let t = leading_top 128 s some h in
    first_at s (count_leading_zeros 128 s) t.0 t.1 t.2 t.3

none_at : (s k z m : ℕ) → z + m ≡ 128 → s < 2 ^ m → k < z → has s k ≡ false
unfolding has
none_at s k z m e h l =
    let p : 2 ^ m ≤ 2 ^ (127 - k) = pow-le-pow_right (omega arith) (omega arith) in
    let d : s / 2 ^ (127 - k) ≡ 0 = div-eq_of_lt (omega arith) in
    rw d

pub none_before : (s k : ℕ) → s < 2 ^ 128 → k < count_leading_zeros 128 s → has s k ≡ false
none_before s k h l = let t = leading_length 128 s h in none_at s k (count_leading_zeros 128 s) t.0 t.1 t.2 l

-- a bridge is its number

pub same_id : (a b : BridgeId) → a.value ≡ b.value → a ≡ b
same_id a b e = along b.value e b.ok
  where
    along : (w : ℕ) → a.value ≡ w → (l : w < 128) → a ≡ record { value = w; ok = l }
    along w p = subst (λ v. (l : v < 128) → a ≡ record { value = v; ok = l }) p (λ l. ap (λ q. record { value = a.value; ok = q }) (le_prop a.ok l))
