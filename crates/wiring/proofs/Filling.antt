-- An array that a closure made, in two parts.
use Rattle.std.proofs.Common.{◌≡◌, ℕ, zero, suc, ◌+◌, ◌-◌, ◌<◌, ◌≤◌, min, cond, ltb, List, ◌++◌, length, get_or, replicate, sym, ◌∙◌, subst, arith, length-append}
use Rattle.std.proofs.lemmas.Bool.{cond-true, cond-false, lt-ltb, le-ltb}
use Rattle.std.proofs.lemmas.List.{length-replicate, get_or-replicate, get_or_append_left, get_or-append_right, same_lists}
use Rattle.std.specs.Array.{IsFromFnResult, IsFromFnResultFrom}
use Rattle.std.specs.Fn.{Called}
use denote.Param.Members.{Mut}
use native.Mathlib.Decide.{ℕ_discrete, dec_lt}

module _ {F B : Type 0} {g : Mut F (ℕ × Unit {0}) B} {f : F} (test : ℕ → B) (calls : (i : ℕ) (y : B) (q : F) → Called g f (i, tt) y q → (q ≡ f) × (y ≡ test i)) (ys : List B) (d : B) where
  made_at : (i n p : ℕ) → IsFromFnResultFrom g f ys i n → i ≤ p → p < i + n → get_or ys p d ≡ test p
  made_at i zero p e h l = absurd (omega arith)
  made_at i (suc n) p e h l = elim (ℕ_discrete p i) [
    | yes s ↦ subst (λ p. get_or ys p d ≡ test p) (sym s) (e.2.1 d ∙ (calls i e.1 e.0 e.3).1)
    | no s ↦ made_at (i + 1) n p (subst (λ f. IsFromFnResultFrom g f ys (i + 1) n) (calls i e.1 e.0 e.3).0 e.4) (omega arith) (omega arith)
  ]

-- the first m elements are x, and those up to n are y
part : {B : Type 0} (x y : B) (m n p : ℕ) (d : B) → p < n → cond (ltb p m) x y ≡ get_or (replicate (min m n) x ++ replicate (n - min m n) y) p d
part x y m n p d lt = elim (dec_lt p m) [
  | yes h ↦ cond-true (ltb p m) x y (lt-ltb p m h)
      ∙ sym (get_or_append_left (replicate (min m n) x) (replicate (n - min m n) y) d p (omega (arith, length-replicate (min m n) x)) ∙ get_or-replicate (min m n) p x d (omega arith))
  | no h ↦ let above : m ≤ p = omega (arith, h) in cond-false (ltb p m) x y (le-ltb p m above)
      ∙ sym (get_or-append_right (replicate (min m n) x) (replicate (n - min m n) y) (min m n) p d (length-replicate (min m n) x) (omega arith) ∙ get_or-replicate (n - min m n) (p - min m n) y d (omega arith))
]

pub two_parts : {F B : Type 0} {g : Mut F (ℕ × Unit {0}) B} {f : F} (x y : B) (m n : ℕ) → ((i : ℕ) (z : B) (q : F) → Called g f (i, tt) z q → (q ≡ f) × (z ≡ cond (ltb i m) x y)) → (ys : List B) → IsFromFnResult g f ys n → ys ≡ replicate (min m n) x ++ replicate (n - min m n) y
two_parts {g} x y m n calls ys made =
    let long : length (replicate (min m n) x ++ replicate (n - min m n) y) ≡ n = rw length-append (omega (arith, length-replicate (min m n) x, length-replicate (n - min m n) y)) in
    same_lists ys (replicate (min m n) x ++ replicate (n - min m n) y) (made.long ∙ sym long) (λ p d h. made_at {g = g} (λ i. cond (ltb i m) x y) calls ys d 0 n p made.each (omega arith) (omega (arith, made.long)) ∙ part x y m n p d (omega (arith, made.long)))
