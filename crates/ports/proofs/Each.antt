-- What an array has at a place, when a closure that stays as it is made each element.
use Rattle.std.proofs.Common.{◌≡◌, ℕ, zero, suc, ◌+◌, ◌<◌, ◌≤◌, List, get_or, sym, ◌∙◌, subst, arith}
use Rattle.std.specs.Array.{IsFromFnResultFrom}
use Rattle.std.specs.Fn.{Called}
use denote.Param.Members.{Mut}
use native.Mathlib.Decide.{ℕ_discrete}

pub made_at : {F B : Type 0} {g : Mut F (ℕ × Unit {0}) B} {f : F} (test : ℕ → B) → ((i : ℕ) (y : B) (q : F) → Called g f (i, tt) y q → (q ≡ f) × (y ≡ test i)) →
    (ys : List B) (d : B) (i n p : ℕ) → IsFromFnResultFrom g f ys i n → i ≤ p → p < i + n → get_or ys p d ≡ test p
made_at test k ys d i zero p e h l = absurd (omega arith)
made_at {F} {g} test k ys d i (suc n) p e h l = elim (ℕ_discrete p i) [
  | yes s ↦ subst (λ p. get_or ys p d ≡ test p) (sym s) (e.2.1 d ∙ (k i e.1 e.0 e.3).1)
  | no s ↦ made_at {g = g} test k ys d (i + 1) n p (subst (λ f. IsFromFnResultFrom g f ys (i + 1) n) (k i e.1 e.0 e.3).0 e.4) (omega arith) (omega arith)
]
