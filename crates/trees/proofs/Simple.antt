-- A walk that never goes straight back is nowhere twice: one that went up has all earlier places under the one before,
-- one that went down has none of them under the latest. Assumes nothing.
use Rattle.std.proofs.Common.{◌≡◌, ℕ, ◌<◌, true, false, ◌⊎◌, List, [], ◌∷◌, sym, refl, ap, ◌∙◌, subst, inl, inr, arith}
use borrow.Author.Tests.{eqb-false}
use Rattle.std.proofs.lemmas.Bool.Decides.{nat_tests}
use Rattle.trees.specs.Tree.{Tree, looks, joined, Walk, here, first, on, is_in, different, all_below}
use Rattle.trees.specs.Walks.{Simple}
use Rattle.trees.proofs.Under.{Under, self, more, nearer, under-trans, not_under, one_child}

-- all of a list stand under c
pub data AllUnder (n : ℕ) (t : Tree) (c : ℕ) : List ℕ → Type 0 where
  none : AllUnder n t c []
  also : {x : ℕ} {xs : List ℕ} → Under n t c x → AllUnder n t c xs → AllUnder n t c (x ∷ xs)

-- none of a list stands under c
pub data NoneUnder (n : ℕ) (t : Tree) (c : ℕ) : List ℕ → Type 0 where
  none : NoneUnder n t c []
  also : {x : ℕ} {xs : List ℕ} → (Under n t c x → ⊥) → NoneUnder n t c xs → NoneUnder n t c (x ∷ xs)

pub joined-or : (t : Tree) (b c : ℕ) → joined t b c ≡ true → (t.above b ≡ c) ⊎ (t.above c ≡ b)
joined-or t b c j = grind (arith, nat_tests)

pub joined-apart : (t : Tree) (b c : ℕ) → joined t b c ≡ true → b ≡ c → ⊥
joined-apart t b c j e = grind (arith, nat_tests)

pub all-mono : {n : ℕ} {t : Tree} {a b : ℕ} {xs : List ℕ} → Under n t a b → AllUnder n t b xs → AllUnder n t a xs
all-mono u none = none
all-mono u (also v vs) = also (under-trans u v) (all-mono u vs)

pub none_mono : {n : ℕ} {t : Tree} {a b : ℕ} {xs : List ℕ} → Under n t a b → NoneUnder n t a xs → NoneUnder n t b xs
none_mono u none = none
none_mono u (also v vs) = also (λ w. v (under-trans u w)) (none_mono u vs)

pub below_1 : (n c : ℕ) (xs : List ℕ) → all_below n (c ∷ xs) ≡ true → c < n
unfolding all_below
below_1 n c xs h = grind (arith, nat_tests)

pub below_rest : (n c : ℕ) (xs : List ℕ) → all_below n (c ∷ xs) ≡ true → all_below n xs ≡ true
unfolding all_below
below_rest n c xs h = grind (arith, nat_tests)

pub below_2 : (n c b : ℕ) (xs : List ℕ) → all_below n (c ∷ (b ∷ xs)) ≡ true → b < n
below_2 n c b xs h = below_1 n b xs (below_rest n c (b ∷ xs) h)

-- c has come up from b, and all places before c are under b; or down from b, and none of them is under c
pub data Way (n : ℕ) (t : Tree) (c b : ℕ) (bs : List ℕ) : Type 0 where
  rose : t.above b ≡ c → t.far c < t.far b → AllUnder n t b (b ∷ bs) → Way n t c b bs
  fell : t.above c ≡ b → t.far b < t.far c → NoneUnder n t c (b ∷ bs) → Way n t c b bs

module _ (n : ℕ) (t : Tree) (l : looks n t ≡ true) where
  -- going up goes nearer to the top
  pub up_nearer : {b c : ℕ} → b < n → joined t b c ≡ true → t.above b ≡ c → t.far c < t.far b
  up_nearer {b} {c} lb j e = elim (nearer n t l b lb) [ inl q ↦ absurd (joined-apart t b c j (sym q ∙ e)) | inr f ↦ subst (λ y. t.far y < t.far b) e f ]

  pub joined-ways : {b c : ℕ} → b < n → c < n → joined t b c ≡ true → ((t.above b ≡ c) × (t.far c < t.far b)) ⊎ ((t.above c ≡ b) × (t.far b < t.far c))
  joined-ways {b} {c} lb lc j = elim (joined-or t b c j) [ inl e ↦ inl (e, up_nearer lb j e) | inr e ↦ inr (e, up_nearer lc (turned t b c j) e) ]
    where
      turned : (t : Tree) (b c : ℕ) → joined t b c ≡ true → joined t c b ≡ true
      turned t b c j = grind (arith, nat_tests)

  none_twice : {c d b : ℕ} {xs : List ℕ} → c < n → d < n → b < n → t.above b ≡ c → t.far c < t.far b → t.above d ≡ c → t.far c < t.far d → (d ≡ b → ⊥) → AllUnder n t b xs → NoneUnder n t d xs
  none_twice lc ld lb eb fb ed fd ne none = none
  none_twice {c} {d} {b} lc ld lb eb fb ed fd ne (also v vs) =
      also (λ w. ne (sym (one_child n t l lb ld (λ q. absurd (omega (arith, ap t.far q, ap t.far eb))) (eb ∙ sym ed) (λ q. absurd (omega (arith, ap t.far q, ap t.far ed))) v w)))
      (none_twice lc ld lb eb fb ed fd ne vs)

  further : (b c d : ℕ) (bs : List ℕ) → b < n → c < n → d < n → joined t c d ≡ true → (d ≡ b → ⊥) → Way n t c b bs → Way n t d c (b ∷ bs)
  further b c d bs lb lc ld j ne (rose e f a) = elim (joined-ways lc ld j) [
    | inl up ↦ rose up.0 up.1 (also (self refl) (all-mono (more lb (self e)) a))
    | inr down ↦ fell down.0 down.1 (also (not_under n t l down.1) (none_twice lc ld lb e f down.0 down.1 ne a))
  ]
  further b c d bs lb lc ld j ne (fell e f a) = elim (joined-ways lc ld j) [
    | inl up ↦ absurd (ne (sym up.0 ∙ e))
    | inr down ↦ fell down.0 down.1 (also (not_under n t l down.1) (none_mono (more ld (self down.0)) a))
  ]

  pub way : {c b : ℕ} {bs : List ℕ} → all_below n (c ∷ (b ∷ bs)) ≡ true → Walk t (c ∷ (b ∷ bs)) → Way n t c b bs
  way h (first {b} c j) = elim (joined-ways (below_2 n c b [] h) (below_1 n c (b ∷ []) h) j) [
    | inl up ↦ rose up.0 up.1 (also (self refl) none)
    | inr down ↦ fell down.0 down.1 (also (not_under n t l down.1) none)
  ]
  way h (on {a} {b} {bs} c w j nb) =
      let h2 = below_rest n c (b ∷ (a ∷ bs)) h in
      further a b c bs (below_2 n b a bs h2) (below_1 n b (a ∷ bs) h2) (below_1 n c (b ∷ (a ∷ bs)) h) j (eqb-false c a nb) (way h2 w)

  none_not_in : (c : ℕ) (xs : List ℕ) → NoneUnder n t c xs → is_in c xs ≡ false
  unfolding is_in
  none_not_in c [] a = refl
  none_not_in c (x ∷ xs) (also v vs) = let ih = none_not_in c xs vs in let ne = λ (e : x ≡ c). v (self e) in grind (arith, nat_tests, ne, ih)

  all_not_in : (b c : ℕ) (xs : List ℕ) → t.far c < t.far b → AllUnder n t b xs → is_in c xs ≡ false
  unfolding is_in
  all_not_in b c [] f a = refl
  all_not_in b c (x ∷ xs) f (also v vs) =
      let ih = all_not_in b c xs f vs in let ne = λ (e : x ≡ c). not_under n t l (subst (λ y. t.far y < t.far b) (sym e) f) v in grind (arith, nat_tests, ne, ih)

  new_place : (c b : ℕ) (bs : List ℕ) → Way n t c b bs → is_in c (b ∷ bs) ≡ false
  new_place c b bs (rose e f a) = all_not_in b c (b ∷ bs) f a
  new_place c b bs (fell e f a) = none_not_in c (b ∷ bs) a

  walk_simple : {bs : List ℕ} → all_below n bs ≡ true → Walk t bs → different bs ≡ true
  unfolding different is_in
  walk_simple h (here b) = refl
  walk_simple h (first {b} c j) = let n1 = new_place c b [] (way h (first c j)) in grind (arith, nat_tests, n1)
  walk_simple h (on {a} {b} {bs} c w j nb) =
      let n1 = new_place c b (a ∷ bs) (way h (on c w j nb)) in
      let n2 = walk_simple (below_rest n c (b ∷ (a ∷ bs)) h) w in grind (arith, nat_tests, n1, n2)

pub simple : Simple
simple n t l bs h w = walk_simple n t l h w
