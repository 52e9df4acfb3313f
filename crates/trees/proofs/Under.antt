-- Who stands at or above whom in a tree over the first n bridges: as a relation, and as a test. Assumes nothing.
use Rattle.std.proofs.Common.{◌≡◌, ℕ, zero, suc, ◌<◌, ◌≤◌, Bool, true, ◌&&◌, ◌||◌, eqb, ltb, ◌⊎◌, sym, ap, subst, inl, inr, arith}
use native.Mathlib.Decide.{ℕ_discrete}
use Rattle.std.proofs.lemmas.Bool.Decides.{nat_tests}
use Rattle.trees.specs.Tree.{Tree, looks}

-- c stands at or above x
pub data Under (n : ℕ) (t : Tree) (c : ℕ) : ℕ → Type 0 where
  self : {x : ℕ} → x ≡ c → Under n t c x
  more : {x : ℕ} → x < n → Under n t c (t.above x) → Under n t c x

-- the last bridge is at the top, or nearer to it stands who is above
looks-last : (n : ℕ) (t : Tree) → looks (suc n) t ≡ true → (t.above n ≡ n) ⊎ (t.far (t.above n) < t.far n)
unfolding looks
looks-last n t l = grind (arith, nat_tests)

looks-rest : (n : ℕ) (t : Tree) → looks (suc n) t ≡ true → looks n t ≡ true
unfolding looks
looks-rest n t l = grind (arith, nat_tests)

pub nearer : (n : ℕ) (t : Tree) → looks n t ≡ true → (b : ℕ) → b < n → (t.above b ≡ b) ⊎ (t.far (t.above b) < t.far b)
nearer zero t l b lt = absurd (omega arith)
nearer (suc n) t l b lt = elim (ℕ_discrete b n) [
  | yes e ↦ subst (λ c. (t.above c ≡ c) ⊎ (t.far (t.above c) < t.far c)) (sym e) (looks-last n t l)
  | no k ↦ nearer n t (looks-rest n t l) b (omega arith)
]

pub under-trans : {n : ℕ} {t : Tree} {a b x : ℕ} → Under n t a b → Under n t b x → Under n t a x
under-trans {n} {t} {a} u (self e) = subst (λ y. Under n t a y) (sym e) u
under-trans u (more lt v) = more lt (under-trans u v)

module _ (n : ℕ) (t : Tree) (l : looks n t ≡ true) where
  -- whoever stands above is as near to the top, or nearer
  pub under-far : {c x : ℕ} → Under n t c x → t.far c ≤ t.far x
  under-far {c} {x} (self e) = omega (arith, ap t.far e)
  under-far {c} {x} (more lt u) = let h = under-far u in elim (nearer n t l x lt) [ inl e ↦ omega (arith, ap t.far e) | inr f ↦ omega arith ]

  -- nobody stands above who is nearer
  pub not_under : {c x : ℕ} → t.far x < t.far c → Under n t c x → ⊥
  not_under f u = let h = under-far u in omega arith

  -- of two that stand above the same, one stands above the other
  pub in-line : {b d x : ℕ} → Under n t b x → Under n t d x → Under n t b d ⊎ Under n t d b
  in-line {b} {d} {x} (self e) v = inr (subst (λ y. Under n t d y) e v)
  in-line {b} {d} {x} (more lt u) (self e) = inl (subst (λ y. Under n t b y) e (more lt u))
  in-line {b} {d} {x} (more lt u) (more lt' v) = in-line u v

  -- below a bridge that is nearer than it
  under_up : {c x : ℕ} → (c ≡ x → ⊥) → Under n t c x → Under n t c (t.above x)
  under_up ne (self e) = absurd (ne (sym e))
  under_up ne (more lt u) = u

  -- two below the same one, and both above another, are one
  pub one_child : {b d x : ℕ} → b < n → d < n → (t.above b ≡ b → ⊥) → t.above b ≡ t.above d → (t.above d ≡ d → ⊥) → Under n t b x → Under n t d x → b ≡ d
  one_child {b} {d} {x} lb ld nb e nd u v = elim (ℕ_discrete b d) [ yes q ↦ q | no ne ↦ absurd (elim (in-line u v) [ inl w ↦ apart b d lb nb e ne w | inr w ↦ apart d b ld nd (sym e) (λ q. ne (sym q)) w ]) ]
    where
      apart : (b d : ℕ) → b < n → (t.above b ≡ b → ⊥) → t.above b ≡ t.above d → (b ≡ d → ⊥) → Under n t b d → ⊥
      apart b d lb nb e ne w = elim (nearer n t l b lb) [ inl q ↦ nb q | inr f ↦ not_under (subst (λ y. t.far y < t.far b) e f) (under_up ne w) ]

-- the same as a test; going up k times is enough where k is at least as far as it is to the top
unfoldable pub under : ℕ → ℕ → Tree → ℕ → ℕ → Bool
under zero n t c x = eqb x c
under (suc k) n t c x = eqb x c || (ltb x n && under k n t c (t.above x))

pub under-is : (k n : ℕ) (t : Tree) (c x : ℕ) → under k n t c x ≡ true → Under n t c x
unfolding under
under-is zero n t c x e = self (grind (arith, nat_tests))
under-is (suc k) n t c x e = elim (ℕ_discrete x c) [ yes q ↦ self q | no ne ↦ more (grind (arith, nat_tests)) (under-is k n t c (t.above x) (grind (arith, nat_tests))) ]

pub is_under : (n : ℕ) (t : Tree) → looks n t ≡ true → (k c x : ℕ) → t.far x ≤ k → Under n t c x → under k n t c x ≡ true
unfolding under
is_under n t l zero c x h (self e) = grind (arith, nat_tests)
is_under n t l zero c x h (more lt u) = elim (nearer n t l x lt) [ inl e ↦ subst (λ y. under zero n t c y ≡ true) e (is_under n t l zero c (t.above x) (omega (arith, ap t.far e)) u) | inr f ↦ absurd (omega arith) ]
is_under n t l (suc k) c x h (self e) = grind (arith, nat_tests)
is_under n t l (suc k) c x h (more lt u) = elim (nearer n t l x lt) [ inl e ↦ subst (λ y. under (suc k) n t c y ≡ true) e (is_under n t l (suc k) c (t.above x) (omega (arith, ap t.far e)) u) | inr f ↦ grind (arith, nat_tests, is_under n t l k c (t.above x) (omega arith) u) ]
