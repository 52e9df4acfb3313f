-- The bridges ahead of whoever goes from one bridge to a joined one, along a tree and never straight back: those that
-- can still be come to. Assumes nothing.
use Rattle.std.proofs.Common.{◌≡◌, ℕ, ◌<◌, Bool, true, false, cond, not, eqb, ◌⊎◌, sym, refl, ap, ◌∙◌, subst, inl, inr, arith, eq-eqb, ne_eqb}
use native.Mathlib.Decide.{ℕ_discrete}
use borrow.Author.Tests.{both_ways}
use Rattle.std.proofs.lemmas.Bool.Decides.{nat_tests}
use Rattle.trees.specs.Tree.{Tree, looks, joined}
use Rattle.trees.proofs.Under.{Under, self, more, nearer, under, under-is, is_under, under-trans, not_under, one_child}
use Rattle.trees.proofs.Simple.{joined-apart, joined-ways}

abbrev pub below : ℕ → Tree → ℕ → ℕ → Bool
below n t c b = under (t.far b) n t c b

-- b is ahead of whoever goes from a to c: c is above a, and a not above b, or c is below a, and above b
abbrev pub leads : ℕ → Tree → ℕ → ℕ → ℕ → Bool
leads n t a c b = cond (eqb (t.above c) a) (below n t c b) (not (below n t a b))

pub data Leads (n : ℕ) (t : Tree) (a c b : ℕ) : Type 0 where
  down : t.above c ≡ a → t.far a < t.far c → Under n t c b → Leads n t a c b
  up : t.above a ≡ c → t.far c < t.far a → (Under n t a b → ⊥) → Leads n t a c b

same_far : (t : Tree) {a b : ℕ} → a ≡ b → t.far a < t.far b → ⊥
same_far t e f = omega (arith, ap t.far e)

-- who stands below a, on the way from a down to h
pub toward_child : (n : ℕ) (t : Tree) (a h : ℕ) → (h ≡ a → ⊥) → Under n t a h → (c : ℕ) × (c < n) × (t.above c ≡ a) × (c ≡ a → ⊥) × Under n t c h
toward_child n t a h ne (self e) = absurd (ne e)
toward_child n t a h ne (more lt u) = elim (ℕ_discrete (t.above h) a) [
  | yes e ↦ (h, lt, e, ne, self refl)
  | no k ↦ let c = toward_child n t a (t.above h) k u in (c.0, c.1, c.2, c.3, more lt c.4)
]

joined-by-above : (t : Tree) (a c : ℕ) → (t.above a ≡ c) ⊎ (t.above c ≡ a) → (c ≡ a → ⊥) → joined t a c ≡ true
joined-by-above t a c (inl e) ne = grind (arith, nat_tests)
joined-by-above t a c (inr e) ne = grind (arith, nat_tests)

module _ (n : ℕ) (t : Tree) (l : looks n t ≡ true) where
  pub below-is : (c b : ℕ) → below n t c b ≡ true → Under n t c b
  below-is c b e = under-is (t.far b) n t c b e

  pub is_below : (c b : ℕ) → Under n t c b → below n t c b ≡ true
  is_below c b u = is_under n t l (t.far b) c b (omega arith) u

  pub leads-is : (a c b : ℕ) → a < n → c < n → joined t a c ≡ true → leads n t a c b ≡ true → Leads n t a c b
  leads-is a c b la lc j e = elim (joined-ways n t l la lc j) [
    | inl u ↦ up u.0 u.1 (λ w. let b1 = is_below a b w in let ne = λ (q : t.above c ≡ a). both_up u.1 q in no_way (eqb (t.above c) a) (below n t c b) (below n t a b) (ne_eqb _ _ ne) b1 e)
    | inr d ↦ down d.0 d.1 (below-is c b (yes_way (eqb (t.above c) a) (below n t c b) (below n t a b) (eq-eqb _ _ d.0) e))
  ]
    where
      both_up : t.far c < t.far a → t.above c ≡ a → ⊥
      both_up f q = elim (nearer n t l c lc) [ inl q2 ↦ joined-apart t a c j (sym q ∙ q2) | inr g ↦ omega (arith, ap t.far q) ]

      no_way : (p x y : Bool) → p ≡ false → y ≡ true → cond p x (not y) ≡ true → ⊥
      no_way p x y = grind (arith, nat_tests)

      yes_way : (p x y : Bool) → p ≡ true → cond p x (not y) ≡ true → x ≡ true
      yes_way p x y = grind (arith, nat_tests)

  pub is_leads : (a c b : ℕ) → a < n → c < n → joined t a c ≡ true → Leads n t a c b → leads n t a c b ≡ true
  is_leads a c b la lc j (down e f u) = let d = is_below c b u in grind (arith, nat_tests, d)
  is_leads a c b la lc j (up e f no-u) = let d = λ (q : below n t a b ≡ true). no-u (below-is a b q) in let ne = λ (q : t.above c ≡ a). both_up f q in grind (arith, nat_tests, d, ne)
    where
      both_up : t.far c < t.far a → t.above c ≡ a → ⊥
      both_up f q = elim (nearer n t l c lc) [ inl q2 ↦ joined-apart t a c j (sym q ∙ q2) | inr g ↦ omega (arith, ap t.far q) ]

  -- one way on leads to a bridge
  pub leads_one : {a c d b : ℕ} → c < n → d < n → Leads n t a c b → Leads n t a d b → c ≡ d
  leads_one lc ld (down e f u) (down e' f' v) = one_child n t l lc ld (λ q. same_far t (sym e ∙ q) f) (e ∙ sym e') (λ q. same_far t (sym e' ∙ q) f') u v
  leads_one lc ld (down e f u) (up e' f' v) = absurd (v (under-trans (more lc (self e)) u))
  leads_one lc ld (up e f u) (down e' f' v) = absurd (u (under-trans (more ld (self e')) v))
  leads_one lc ld (up e f u) (up e' f' v) = sym e ∙ e'

  -- what is ahead after one more step was ahead before
  pub leads-within : {a b c h : ℕ} → a < n → b < n → c < n → joined t a b ≡ true → (c ≡ a → ⊥) → Leads n t b c h → Leads n t a b h
  leads-within {a} {b} {c} {h} la lb lc j ne s = elim (joined-ways n t l la lb j) [ inl r ↦ up r.0 r.1 (rising r.0 r.1 s) | inr d ↦ down d.0 d.1 (falling d.0 s) ]
    where
      rising : t.above a ≡ b → t.far b < t.far a → Leads n t b c h → Under n t a h → ⊥
      rising e f (down e' f' u) v = ne (one_child n t l lc la (λ q. same_far t (sym e' ∙ q) f') (e' ∙ sym e) (λ q. same_far t (sym e ∙ q) f) u v)
      rising e f (up e' f' u) v = u (under-trans (more la (self e)) v)

      falling : t.above b ≡ a → Leads n t b c h → Under n t b h
      falling e (down e' f' u) = under-trans (more lc (self e')) u
      falling e (up e' f' u) = absurd (ne (sym e' ∙ e))

  -- where one is isn't ahead after the next step
  pub leads-off : {b c : ℕ} → Leads n t b c b → ⊥
  leads-off (down e f u) = not_under n t l f u
  leads-off (up e f u) = u (self refl)

  -- where one comes to is ahead
  pub leads-here : {a b : ℕ} → a < n → b < n → joined t a b ≡ true → Leads n t a b b
  leads-here la lb j = elim (joined-ways n t l la lb j) [ inl r ↦ up r.0 r.1 (not_under n t l r.1) | inr d ↦ down d.0 d.1 (self refl) ]

  -- what is ahead isn't behind
  pub leads-not-back : {a b h : ℕ} → Leads n t a b h → Leads n t b a h → ⊥
  leads-not-back (down e f u) (down e' f' v) = omega arith
  leads-not-back (down e f u) (up e' f' v) = v u
  leads-not-back (up e f u) (down e' f' v) = u v
  leads-not-back (up e f u) (up e' f' v) = omega arith

  -- from b some way on leads to h, if the top of b's part stands above h
  pub leads-on : (b h : ℕ) → b < n → t.above b < n → (b ≡ h → ⊥) → (t.above b ≡ b → Under n t b h) → (c : ℕ) × (c < n) × (joined t b c ≡ true) × Leads n t b c h
  leads-on b h lb la ne top = go (below n t b h) refl
    where
      climb : (below n t b h ≡ false) → (t.above b ≡ b → ⊥) → Leads n t b (t.above b) h
      climb e k = elim (nearer n t l b lb) [ inl q ↦ absurd (k q) | inr f ↦ up refl f (λ u. both_ways _ e (is_below b h u)) ]

      go : (x : Bool) → below n t b h ≡ x → (c : ℕ) × (c < n) × (joined t b c ≡ true) × Leads n t b c h
      go true e =
          let c = toward_child n t b h (λ q. ne (sym q)) (below-is b h e) in
          let j = joined-by-above t b c.0 (inr c.2) c.3 in
          (c.0, c.1, j, elim (nearer n t l c.0 c.1) [ inl q ↦ absurd (c.3 (sym q ∙ c.2)) | inr f ↦ down c.2 (subst (λ y. t.far y < t.far c.0) c.2 f) c.4 ])
      go false e = elim (ℕ_discrete (t.above b) b) [
        | yes q ↦ absurd (both_ways _ e (is_below b h (top q)))
        | no k ↦ (t.above b, la, joined-by-above t b (t.above b) (inl refl) k, climb e k)
      ]
