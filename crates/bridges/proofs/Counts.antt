-- Counting: in a list, and below a number. Assumes nothing.
use Rattle.std.proofs.Common.{◌≡◌, ℕ, zero, suc, ◌+◌, ◌<◌, ◌≤◌, Bool, true, false, cond, ◌&&◌, ◌⊎◌, List, [], ◌∷◌, ◌++◌, sym, refl, ap, ◌∙◌, inl, inr, arith}
use mathlib.Core.List.{Memᴰ}
use native.Mathlib.Decide.{ℕ_discrete}
use Rattle.trees.specs.Tree.{Tree, joined}
use Rattle.bridges.specs.Net.{Copy, Where, Got, Rules, World, not_back, copy_to, floods, without}
use Rattle.bridges.specs.Fabric.{may_hand, handed}
use Rattle.bridges.proofs.Changes.{Pick, now, later}

abbrev pub one : Bool → ℕ
one b = cond b 1 0

pub one_same : (a b : Bool) → a ≡ b → one a ≡ one b
one_same a b e = ap one e

unfoldable pub count : {A : Type 0} → (A → Bool) → List A → ℕ
count p [] = 0
count p (x ∷ xs) = one (p x) + count p xs

pub count-append : {A : Type 0} (p : A → Bool) (xs ys : List A) → count p (xs ++ ys) ≡ count p xs + count p ys
unfolding count
count-append p [] ys = omega arith
count-append p (x ∷ xs) ys = let h = count-append p xs ys in omega arith

pub count-pick : (p : Copy → Bool) (x : Copy) (i : ℕ) (xs : List Copy) → Pick x i xs → count p xs ≡ one (p x) + count p (without i xs)
unfolding count without
count-pick p x zero [] q = elim q [ ]
count-pick p x (suc i) [] q = elim q [ ]
count-pick p x zero (y ∷ ys) (now e) = ap (λ z. one (p z) + count p ys) e
count-pick p x (suc i) (y ∷ ys) (later q) = let h = count-pick p x i ys q in omega arith

pub count_less : (p : Copy → Bool) (i : ℕ) (xs : List Copy) → count p (without i xs) ≤ count p xs
unfolding count without
count_less p zero [] = omega arith
count_less p (suc i) [] = omega arith
count_less p zero (x ∷ xs) = omega arith
count_less p (suc i) (x ∷ xs) = let h = count_less p i xs in omega arith

pub count_none : {A : Type 0} (p : A → Bool) (xs : List A) → ((x : A) → Memᴰ x xs → p x ≡ false) → count p xs ≡ 0
unfolding count
count_none p [] h = refl
count_none p (x ∷ xs) h = let e = h x (Memᴰ.head refl) in let ih = count_none p xs (λ y m. h y (Memᴰ.tail m)) in grind (arith, e, ih)

pub count_same : {A : Type 0} (p q : A → Bool) (xs : List A) → ((x : A) → Memᴰ x xs → p x ≡ q x) → count p xs ≡ count q xs
unfolding count
count_same p q [] h = refl
count_same p q (x ∷ xs) h = let e = one_same (p x) (q x) (h x (Memᴰ.head refl)) in let ih = count_same p q xs (λ y m. h y (Memᴰ.tail m)) in omega arith

-- how many numbers below k pass a test
unfoldable pub count_below : ℕ → (ℕ → Bool) → ℕ
count_below zero q = 0
count_below (suc k) q = one (q k) + count_below k q

-- none passes, or one that can be named
pub below_some : (k : ℕ) (q : ℕ → Bool) → (count_below k q ≡ 0) ⊎ ((c : ℕ) × (c < k) × (q c ≡ true))
unfolding count_below
below_some zero q = inl refl
below_some (suc k) q = go (q k) refl (below_some k q)
  where
    go : (b : Bool) → q k ≡ b → (count_below k q ≡ 0) ⊎ ((c : ℕ) × (c < k) × (q c ≡ true)) → (one (q k) + count_below k q ≡ 0) ⊎ ((c : ℕ) × (c < suc k) × (q c ≡ true))
    go true e h = inr (k, omega arith, e)
    go false e (inl h) = inl (let z = one_same (q k) false e in omega arith)
    go false e (inr h) = inr (h.0, let lt = h.1 in omega arith, h.2)

pub below_none : (k : ℕ) (q : ℕ → Bool) → ((c : ℕ) → c < k → q c ≡ true → ⊥) → count_below k q ≡ 0
below_none k q h = elim (below_some k q) [ inl e ↦ e | inr s ↦ absurd (h s.0 s.1 s.2) ]

pub below_one : (k : ℕ) (q : ℕ → Bool) → ((c d : ℕ) → c < k → d < k → q c ≡ true → q d ≡ true → c ≡ d) → count_below k q ≤ 1
unfolding count_below
below_one zero q h = omega arith
below_one (suc k) q h = go (q k) refl (below_one k q (λ c d lc ld. h c d (omega arith) (omega arith)))
  where
    go : (b : Bool) → q k ≡ b → count_below k q ≤ 1 → one (q k) + count_below k q ≤ 1
    go true e ih = let z = below_none k q (λ c lc p. apart c lc (h c k (omega arith) (omega arith) p e)) in let y = one_same (q k) true e in omega arith
      where
        apart : (c : ℕ) → c < k → c ≡ k → ⊥
        apart c lc q = omega arith
    go false e ih = let y = one_same (q k) false e in omega arith

pub below_has : (k : ℕ) (q : ℕ → Bool) (c : ℕ) → c < k → q c ≡ true → 1 ≤ count_below k q
unfolding count_below
below_has zero q c lt e = absurd (omega arith)
below_has (suc k) q c lt e = elim (ℕ_discrete c k) [ yes p ↦ (let y = one_same (q k) true (ap q (sym p) ∙ e) in omega arith) | no n ↦ (let ih = below_has k q c (omega arith) e in omega arith) ]

pub below_same : (k : ℕ) (p q : ℕ → Bool) → ((c : ℕ) → p c ≡ q c) → count_below k p ≡ count_below k q
unfolding count_below
below_same zero p q h = refl
below_same (suc k) p q h = let e = one_same (p k) (q k) (h k) in let ih = below_same k p q h in omega arith

-- the copies that a bridge floods, and what it hands to stations, counted below the number of bridges and of stations
pub floods-count : (p : Copy → Bool) (k : ℕ) (t : Tree) (up : ℕ → ℕ → Bool) (x : Copy) →
    count p (floods k t up x) ≡ count_below k (λ c. (joined t x.at c && (up x.at c && not_back x.trail c)) && p (copy_to x c))
unfolding count count_below floods
floods-count p zero t up x = refl
floods-count p (suc c) t up x = go (joined t x.at c && (up x.at c && not_back x.trail c)) (floods-count p c t up x)
  where
    go : (b : Bool) {n : ℕ} → count p (floods c t up x) ≡ n → count p (cond b (copy_to x c ∷ floods c t up x) (floods c t up x)) ≡ one (b && p (copy_to x c)) + n
    go true ih = omega arith
    go false ih = omega arith

pub handed-count : (p : Got → Bool) (lax : Bool) (r : Rules) (w : World) (x : Copy) (k : Where) (n : ℕ) →
    count p (handed lax r w x k n) ≡ count_below n (λ s. may_hand lax r w x k s && p (record { frame = x.frame.number; station = s; bridge = x.at }))
unfolding count count_below handed
handed-count p lax r w x k zero = refl
handed-count p lax r w x k (suc s) = go (may_hand lax r w x k s) (handed-count p lax r w x k s)
  where
    go : (b : Bool) {n : ℕ} → count p (handed lax r w x k s) ≡ n →
        count p (cond b (record { frame = x.frame.number; station = s; bridge = x.at } ∷ handed lax r w x k s) (handed lax r w x k s)) ≡ one (b && p (record { frame = x.frame.number; station = s; bridge = x.at })) + n
    go true ih = omega arith
    go false ih = omega arith
