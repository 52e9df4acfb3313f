-- A kind that is none of five.
use Rattle.std.proofs.Common.{◌≡◌, ℕ, cond, eqb, ne_eqb}

pub other_kind : {A : Type 0} (k : ℕ) (a b c d e f : A) → (k ≡ 1 → ⊥) → (k ≡ 2 → ⊥) → (k ≡ 3 → ⊥) → (k ≡ 4 → ⊥) → (k ≡ 5 → ⊥)
    → cond (eqb k 1) a (cond (eqb k 2) b (cond (eqb k 3) c (cond (eqb k 4) d (cond (eqb k 5) e f)))) ≡ f
other_kind k a b c d e f n1 n2 n3 n4 n5 =
    λ i. cond (ne_eqb k 1 n1 i) a (cond (ne_eqb k 2 n2 i) b (cond (ne_eqb k 3 n3 i) c (cond (ne_eqb k 4 n4 i) d (cond (ne_eqb k 5 n5 i) e f))))
