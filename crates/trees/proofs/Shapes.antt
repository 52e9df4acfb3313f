-- Rows of parents and depths: what a look at each bridge tells of the whole.
use Rattle.std.proofs.Common.{◌≡◌, ℕ, ◌<◌, Bool, true, false, ◌||◌, eqb, ltb, MatchBool, refl, inl, inr}
use Rattle.std.proofs.lemmas.Bool.Decides.{Decides-below_and, Decides-or, Decides-eqb, Decides-ltb}
use Rattle.std.proofs.lemmas.Bool.{cases_Bool}
use Rattle.trees.specs.Tree.{Tree, looks}
use Rattle.trees.specs.Shapes.{Hangs, LooksInWords}

pub looks_in_words : LooksInWords
unfolding looks
looks_in_words n t =
    Decides-below_and
    (λ b. eqb (t.above b) b || ltb (t.far (t.above b)) (t.far b))
    (λ b. Hangs t b)
    (λ m. looks m t)
    (λ b. Decides-or _ _ (Decides-eqb (t.above b) b) (Decides-ltb (t.far (t.above b)) (t.far b)))
    refl
    (λ _. refl)
    n

-- what a look at each bridge tells
pub by_look : (r : Bool) (n : ℕ) (t : Tree) → MatchBool r ((b : ℕ) → b < n → Hangs t b) ((b : ℕ) × (b < n) × ¬ Hangs t b) → looks n t ≡ r
by_look true n t h = (looks_in_words n t).1 h
by_look false n t h = elim (cases_Bool (looks n t)) [ inl e ↦ absurd (h.2 ((looks_in_words n t).0 e h.0 h.1)) | inr e ↦ e ]
