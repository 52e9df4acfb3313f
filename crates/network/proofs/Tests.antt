-- Cases on a test inside a statement, with what the test tells.
use Rattle.std.proofs.Common.{◌≡◌, ℕ, Bool, true, false, eqb, sym, refl, subst}
use Rattle.std.proofs.lemmas.Bool.{eqb-true, eqb-false}

pub by_test : (b : Bool) (P : Bool → Type 0) → (b ≡ true → P true) → (b ≡ false → P false) → P b
by_test true P f g = f refl
by_test false P f g = g refl

-- of a bridge, or another
pub by_eq : (c b : ℕ) (P : ℕ → Bool → Type 0) → P b true → ((c ≡ b → ⊥) → P c false) → P c (eqb c b)
by_eq c b P here other = by_test (eqb c b) (P c) (λ e. subst (λ d. P d true) (sym (eqb-true c b e)) here) (λ e. other (eqb-false c b e))
