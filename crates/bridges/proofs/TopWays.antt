-- The way up from a bridge as a list, against who stands at or above it; it is never longer than there are bridges.
-- Assumes nothing.
use Rattle.std.proofs.Common.{◌≡◌, ℕ, zero, suc, ◌<◌, ◌≤◌, Bool, true, false, cond, not, ◌&&◌, ◌||◌, eqb, ltb, [], ◌∷◌, sym, refl, ap, ◌∙◌, inl, inr, arith}
use native.Mathlib.Decide.{ℕ_discrete, dec_lt}
use Rattle.std.proofs.lemmas.Bool.Decides.{nat_tests}
use Rattle.std.proofs.lemmas.Bool.{cond_both, eqb-true, eqb-false, eq-eqb, lt-ltb}
use Rattle.trees.specs.Tree.{Tree, looks, joined, is_in}
use Rattle.trees.proofs.Under.{Under, self, more, nearer}
use Rattle.trees.proofs.Ahead.{below, leads, below-is, is_below}
use Rattle.bridges.specs.Promise.{top_way, on_way}
use Rattle.bridges.proofs.Counts.{one, one_same, count_below}

-- fewer pass a test that is harder to pass
below_less : (k : ℕ) (p q : ℕ → Bool) → ((c : ℕ) → p c ≡ true → q c ≡ true) → count_below k p ≤ count_below k q
unfolding count_below
below_less zero p q h = omega arith
below_less (suc k) p q h = let ih = below_less k p q h in let e = le (p k) (q k) (h k) in omega arith
  where
    le : (a b : Bool) → (a ≡ true → b ≡ true) → one a ≤ one b
    le a b h = grind arith

below-fewer : (k : ℕ) (p q : ℕ → Bool) → ((c : ℕ) → p c ≡ true → q c ≡ true) → (a : ℕ) → a < k → p a ≡ false → q a ≡ true → count_below k p < count_below k q
unfolding count_below
below-fewer zero p q h a lt x y = absurd (omega arith)
below-fewer (suc k) p q h a lt x y = elim (ℕ_discrete a k) [
  | yes e ↦ (let l = below_less k p q h in let u = one_same (p k) false (ap p (sym e) ∙ x) in let v = one_same (q k) true (ap q (sym e) ∙ y) in omega arith)
  | no ne ↦ (let ih = below-fewer k p q h a (omega arith) x y in let e = le (p k) (q k) (h k) in omega arith)
]
  where
    le : (a b : Bool) → (a ≡ true → b ≡ true) → one a ≤ one b
    le a b h = grind arith

below-most : (k : ℕ) (p : ℕ → Bool) → count_below k p ≤ k
unfolding count_below
below-most zero p = omega arith
below-most (suc k) p = let ih = below-most k p in let e = le (p k) in omega arith
  where
    le : (a : Bool) → one a ≤ 1
    le a = grind arith

module _ (n : ℕ) (t : Tree) (l : looks n t ≡ true) where
  -- how many bridges are nearer to the top than this one
  rank : ℕ → ℕ
  rank x = count_below n (λ y. ltb (t.far y) (t.far x))

  rank_falls : (x a : ℕ) → a < n → t.far a < t.far x → rank a < rank x
  unfolding rank
  rank_falls x a la f = below-fewer n _ _ (λ c h. further (t.far c) (t.far a) (t.far x) f h) a la (not-self (t.far a)) (lt-ltb _ _ f)
    where
      further : (c a x : ℕ) → a < x → ltb c a ≡ true → ltb c x ≡ true
      further c a x f h = grind (arith, nat_tests)

      not-self : (a : ℕ) → ltb a a ≡ false
      not-self a = grind (arith, nat_tests)

  rank_below : (x : ℕ) → x < n → rank x < n
  unfolding rank
  rank_below x lx = all_below_lem (below-fewer n (λ y. ltb (t.far y) (t.far x)) (λ y. true) (λ c h. refl) x lx (not-self (t.far x)) refl) (below-most n (λ y. true))
    where
      all_below_lem : {a b c : ℕ} → a < b → b ≤ c → a < c
      all_below_lem p q = omega arith

      not-self : (a : ℕ) → ltb a a ≡ false
      not-self a = grind (arith, nat_tests)

  pub top_alone : {c : ℕ} (x : ℕ) → t.above x ≡ x → Under n t c x → x ≡ c
  top_alone x e (self q) = q
  top_alone x e (more lt u) = sym e ∙ top_alone (t.above x) (ap t.above e) u

  module _ (out : (b : ℕ) → n ≤ b → t.above b ≡ b) where
    way_under : (k c x : ℕ) → is_in c (top_way k t x) ≡ true → Under n t c x
    unfolding top_way is_in
    way_under zero c x h = self (grind (arith, nat_tests))
    way_under (suc k) c x h = elim (ℕ_discrete x c) [ yes e ↦ self e | no ne ↦ go (eqb (t.above x) x) refl h ne (λ g. way_under k c (t.above x) g) ]
      where
        inside : (t.above x ≡ x → ⊥) → x < n
        inside k = elim (dec_lt x n) [ yes lt ↦ lt | no nl ↦ absurd (k (out x (omega arith))) ]

        go : (b : Bool) → eqb (t.above x) x ≡ b → is_in c (cond b (x ∷ []) (x ∷ top_way k t (t.above x))) ≡ true → (x ≡ c → ⊥) → (is_in c (top_way k t (t.above x)) ≡ true → Under n t c (t.above x)) → Under n t c x
        go true e h ne ih = absurd (grind (arith, nat_tests))
        go false e h ne ih = more (inside (eqb-false _ _ e)) (ih (grind (arith, nat_tests)))

    under_way : (k c x : ℕ) → (x < n → rank x < k) → Under n t c x → is_in c (top_way k t x) ≡ true
    unfolding top_way is_in
    under_way zero c x h (self e) = grind (arith, nat_tests)
    under_way zero c x h (more lt u) = absurd (let z = h lt in omega arith)
    under_way (suc k) c x h (self e) = cond_both (eqb (t.above x) x) (x ∷ []) (x ∷ top_way k t (t.above x)) (λ ys. is_in c ys ≡ true) (λ _. first_is (eqb x c) false (eq-eqb _ _ e)) (λ _. first_is (eqb x c) (is_in c (top_way k t (t.above x))) (eq-eqb _ _ e))
      where
        first_is : (a b : Bool) → a ≡ true → (a || b) ≡ true
        first_is a b h = grind arith
    under_way (suc k) c x h (more lt u) = cond_both (eqb (t.above x) x) (x ∷ []) (x ∷ top_way k t (t.above x)) (λ ys. is_in c ys ≡ true)
        (λ e. first_is (eqb x c) false (eq-eqb _ _ (let q = eqb-true (t.above x) x e in sym q ∙ top_alone (t.above x) (ap t.above q) u)))
        (λ e. second_is (eqb x c) _ (under_way k c (t.above x) (λ la. lower la (eqb-false _ _ e) (h lt)) u))
      where
        first_is : (a b : Bool) → a ≡ true → (a || b) ≡ true
        first_is a b h = grind arith

        second_is : (a b : Bool) → b ≡ true → (a || b) ≡ true
        second_is a b h = grind arith

        lower : t.above x < n → (t.above x ≡ x → ⊥) → rank x < suc k → rank (t.above x) < k
        lower la ne le = elim (nearer n t l x lt) [ inl q ↦ absurd (ne q) | inr f ↦ less (rank_falls x (t.above x) la f) le ]
          where
            less : {a b c : ℕ} → a < b → b < suc c → a < c
            less p q = omega arith

    -- the way up as a list has those who stand at or above
    pub way_is_below : (c x : ℕ) → is_in c (top_way n t x) ≡ below n t c x
    way_is_below c x = same _ _ (λ h. is_below n t l c x (way_under n c x h)) (λ h. under_way n c x (rank_below x) (below-is n t l c x h))
      where
        same : (a b : Bool) → (a ≡ true → b ≡ true) → (b ≡ true → a ≡ true) → a ≡ b
        same a b p q = grind arith

    pub way_to_under : (c x : ℕ) → is_in c (top_way n t x) ≡ true → Under n t c x
    way_to_under c x h = way_under n c x h

    -- c stands on the way from b to h if h is ahead of whoever goes from b to c
    pub on_way_is : (b h c : ℕ) → on_way n t b h c ≡ (joined t b c && leads n t b c h)
    on_way_is b h c = λ i. joined t b c && cond (eqb (t.above c) b) (way_is_below c h i) (not (way_is_below b h i))
