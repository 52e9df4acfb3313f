-- Rows of pairs of bytes.
use Rattle.std.proofs.Common.{◌≡◌, ℕ, zero, suc, ◌+◌, ◌*◌, ◌/◌, ◌%◌, ◌<◌, ◌≤◌, List, [], ◌∷◌, ◌++◌, length, get_or, take, sym, refl, ap, ◌∙◌, inl, inr, arith}
use Rattle.std.proofs.lemmas.Bool.{cases_eq}
use Rattle.std.proofs.lemmas.List.{ext_get_or}
use Rattle.std.specs.List.{flat_map}
use Rattle.wire.specs.Bytes.{pairs_of}

pub length_pairs : (f g : ℕ → ℕ) (i n : ℕ) → length (pairs_of f g i n) ≡ 2 * n
unfolding pairs_of
length_pairs f g i zero = refl
length_pairs f g i (suc n) = let h = length_pairs f g (suc i) n in omega arith

-- the first of a pair stands at an even place, the second behind it
pub get_or-pairs : (f g : ℕ → ℕ) (i n k : ℕ) → k < n
    → (get_or (pairs_of f g i n) (2 * k) 0 ≡ f (i + k)) × (get_or (pairs_of f g i n) (2 * k + 1) 0 ≡ g (i + k))
unfolding pairs_of
get_or-pairs f g i zero k h = absurd (omega arith)
get_or-pairs f g i (suc n) zero h = let e : i ≡ i + 0 = omega arith in (ap f e, ap g e)
get_or-pairs f g i (suc n) (suc k) h =
    let r = get_or-pairs f g (suc i) n k (omega arith) in
    let two : 2 * suc k ≡ suc (suc (2 * k)) = omega arith in
    let odd : 2 * suc k + 1 ≡ suc (suc (2 * k + 1)) = omega arith in
    let e : suc i + k ≡ i + suc k = omega arith in
    (ap (λ j. get_or (pairs_of f g i (suc n)) j 0) two ∙ r.0 ∙ ap f e, ap (λ j. get_or (pairs_of f g i (suc n)) j 0) odd ∙ r.1 ∙ ap g e)

-- a list with the one at its even places and the other at its odd ones
pub pairs_are : (xs : List ℕ) (f g : ℕ → ℕ) (n : ℕ) → length xs ≡ 2 * n → ((k : ℕ) → k < n → get_or xs (2 * k) 0 ≡ f k)
    → ((k : ℕ) → k < n → get_or xs (2 * k + 1) 0 ≡ g k) → xs ≡ pairs_of f g 0 n
pairs_are xs f g n l p q = ext_get_or 0 xs (pairs_of f g 0 n) (l ∙ sym (length_pairs f g 0 n)) each where
  each : (k : ℕ) → k < length xs → get_or xs k 0 ≡ get_or (pairs_of f g 0 n) k 0
  each k h =
      let h2 = k / 2 in
      let r = get_or-pairs f g 0 n h2 (omega arith) in
      let z : 0 + h2 ≡ h2 = omega arith in
      elim (cases_eq (k % 2) 0) [
        | inl even ↦ let s : k ≡ 2 * h2 = omega arith in
            ap (λ i. get_or xs i 0) s ∙ p h2 (omega arith) ∙ ap f (sym z) ∙ sym r.0 ∙ ap (λ i. get_or (pairs_of f g 0 n) i 0) (sym s)
        | inr odd ↦ let s : k ≡ 2 * h2 + 1 = omega arith in
            ap (λ i. get_or xs i 0) s ∙ q h2 (omega arith) ∙ ap g (sym z) ∙ sym r.1 ∙ ap (λ i. get_or (pairs_of f g 0 n) i 0) (sym s)
      ]

-- pairs one behind the other
flat_from : (rows : List (List ℕ)) (f g : ℕ → ℕ) (i n : ℕ) → length rows ≡ n → ((k : ℕ) → k < n → get_or rows k [] ≡ f (i + k) ∷ (g (i + k) ∷ []))
    → flat_map (λ pair. pair) rows ≡ pairs_of f g i n
unfolding pairs_of
flat_from [] f g i zero l h = refl
flat_from [] f g i (suc n) l h = absurd (omega arith)
flat_from (r ∷ rows) f g i zero l h = absurd (omega arith)
flat_from (r ∷ rows) f g i (suc n) l h =
    let here : i + 0 ≡ i = omega arith in
    let first : r ≡ f i ∷ (g i ∷ []) = h 0 (omega arith) ∙ ap (λ j. f j ∷ (g j ∷ [])) here in
    let others = flat_from rows f g (suc i) n (omega arith) (λ k q. h (suc k) (omega arith) ∙ ap (λ j. f j ∷ (g j ∷ [])) (omega arith)) in
    λ j. first j ++ others j

pub pairs_flat : (rows : List (List ℕ)) (f g : ℕ → ℕ) (n : ℕ) → length rows ≡ n → ((k : ℕ) → k < n → get_or rows k [] ≡ f k ∷ (g k ∷ []))
    → flat_map (λ pair. pair) rows ≡ pairs_of f g 0 n
pairs_flat rows f g n l h = flat_from rows f g 0 n l (λ k q. let here : k ≡ 0 + k = omega arith in h k q ∙ ap (λ j. f j ∷ (g j ∷ [])) here)

-- the first pairs of more
pub take-pairs : (f g : ℕ → ℕ) (i n k : ℕ) → k ≤ n → take (2 * k) (pairs_of f g i n) ≡ pairs_of f g i k
unfolding pairs_of
take-pairs f g i n zero h = refl
take-pairs f g i zero (suc k) h = absurd (omega arith)
take-pairs f g i (suc n) (suc k) h =
    let two : 2 * suc k ≡ suc (suc (2 * k)) = omega arith in
    ap (λ m. take m (pairs_of f g i (suc n))) two ∙ ap (λ r. f i ∷ (g i ∷ r)) (take-pairs f g (suc i) n k (omega arith))
