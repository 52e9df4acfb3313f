-- What an array has at a place, when a closure that stays as it is made each element.
use Rattle.std.proofs.Common.{◌≡◌, ℕ, zero, suc, ◌+◌, ◌<◌, ◌≤◌, List, map, get_or, sym, subst, arith}
use Rattle.std.specs.Array.{IsFromFnResultFrom, IsFromFnResult}
use Rattle.std.specs.List.{range_with_len}
use Rattle.std.proofs.lemmas.List.FromFn.{fill_by_all}
use Rattle.std.specs.Fn.{Called}
use denote.Param.Members.{Mut}
use native.Mathlib.Decide.{ℕ_discrete}

pub made_at : {F B : Type 0} {g : Mut F (ℕ × Unit {0}) B} {f : F} (P : ℕ → B → Type 0) → ((i : ℕ) (y : B) (q : F) → Called g f (i, tt) y q → (q ≡ f) × P i y) →
    (ys : List B) (d : B) (i n p : ℕ) → IsFromFnResultFrom g f ys i n → i ≤ p → p < i + n → P p (get_or ys p d)
made_at P k ys d i zero p e h l = absurd (omega arith)
made_at {F} {g} P k ys d i (suc n) p e h l = elim (ℕ_discrete p i) [
  | yes s ↦ subst (λ p. P p (get_or ys p d)) (sym s) (subst (P i) (sym (e.2.1 d)) (k i e.1 e.0 e.3).1)
  | no s ↦ made_at {g = g} P k ys d (i + 1) n p (subst (λ f. IsFromFnResultFrom g f ys (i + 1) n) (k i e.1 e.0 e.3).0 e.4) (omega arith) (omega arith)
]

-- an array of numbers as a whole
pub made_row : {F : Type 0} {g : Mut F (ℕ × Unit {0}) ℕ} {f : F} (said : ℕ → ℕ) → ((i : ℕ) (y : ℕ) (q : F) → Called g f (i, tt) y q → (q ≡ f) × (y ≡ said i)) →
    (ys : List ℕ) (n : ℕ) → IsFromFnResult g f ys n → ys ≡ map said (range_with_len 0 n)
made_row {F} {g} {f} said k ys n e = fill_by_all said ys n 0 e.long (λ p h. made_at {g = g} {f = f} (λ i x. x ≡ said i) k ys 0 0 n p e.each (omega arith) (omega arith))
