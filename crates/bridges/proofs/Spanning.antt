-- Where links that are up, both ways, join all bridges to bridge 0, there is a tree along them. It is grown from 0: while
-- a bridge is missing, some link leads from one in the part to one outside, which is added below it. Assumes nothing.
use Rattle.std.proofs.Common.{◌≡◌, ℕ, zero, suc, ◌+◌, ◌<◌, ◌≤◌, Bool, true, false, cond, eqb, ◌⊎◌, sym, refl, ap, ◌∙◌, inl, inr, arith}
use native.Mathlib.Decide.{ℕ_discrete}
use Rattle.std.proofs.lemmas.Bool.Decides.{nat_tests}
use Rattle.std.proofs.lemmas.Bool.{cases_Bool, both_ways}
use Rattle.trees.specs.Tree.{Tree, looks, joined, is_in}
use Rattle.bridges.specs.Net.{at}
use Rattle.bridges.specs.Promise.{top_way}

-- by links that are up both ways, a bridge can be come to from bridge 0
pub data Reached (n : ℕ) (up : ℕ → ℕ → Bool) : ℕ → Type 0 where
  zeroth : Reached n up 0
  over : {a b : ℕ} → Reached n up a → b < n → up a b ≡ true → up b a ≡ true → Reached n up b

-- a tree's shape along links that are up
pub record Spanning (n : ℕ) (up : ℕ → ℕ → Bool) : Type 0 where
  pub above : ℕ → ℕ
  pub far : ℕ → ℕ
  pub rooted : above 0 ≡ 0
  pub outside : (b : ℕ) → n ≤ b → above b ≡ b
  pub near : (b : ℕ) → b < n → far b ≤ n
  pub joins : (b : ℕ) → b < n → (b ≡ 0) ⊎ ((above b < n) × (far (above b) < far b) × (up b (above b) ≡ true) × (up (above b) b ≡ true))

-- how many of the first n pass a test
count : (ℕ → Bool) → ℕ → ℕ
count p zero = 0
count p (suc k) = cond (p k) 1 0 + count p k

count_none : (n : ℕ) → count (λ _. false) n ≡ 0
unfolding count
count_none zero = refl
count_none (suc n) = grind (arith, count_none n)

count_le : (p : ℕ → Bool) (n : ℕ) → count p n ≤ n
unfolding count
count_le p zero = omega arith
count_le p (suc n) = grind (arith, nat_tests, count_le p n)

count_full : (p : ℕ → Bool) (n : ℕ) → count p n ≡ n → (k : ℕ) → k < n → p k ≡ true
unfolding count
count_full p zero e k h = absurd (omega arith)
count_full p (suc n) e k h = elim (ℕ_discrete k n) [ yes q ↦ here q | no q ↦ count_full p n (rest) k (omega arith) ]
  where
    rest : count p n ≡ n
    rest = grind (arith, nat_tests, count_le p n)

    last : p n ≡ true
    last = grind (arith, nat_tests, count_le p n)

    here : k ≡ n → p k ≡ true
    here q = ap p q ∙ last

count_same : (p : ℕ → Bool) (b n : ℕ) → n ≤ b → count (at b true p) n ≡ count p n
unfolding count
count_same p b zero h = refl
count_same p b (suc n) h = grind (arith, nat_tests, count_same p b n (omega arith))

count_more : (p : ℕ → Bool) (b n : ℕ) → b < n → p b ≡ false → count (at b true p) n ≡ suc (count p n)
unfolding count
count_more p b zero h e = absurd (omega arith)
count_more p b (suc n) h e = elim (ℕ_discrete b n) [
  | yes q ↦ let f : p n ≡ false = sym (ap p q) ∙ e in grind (arith, nat_tests, count_same p b n (omega arith))
  | no q ↦ let ne : eqb n b ≡ false = grind (arith, nat_tests) in grind (arith, nat_tests, count_more p b n (omega arith) e)
]

missing : (p : ℕ → Bool) (n : ℕ) → count p n < n → (c : ℕ) × (c < n) × (p c ≡ false)
unfolding count
missing p zero h = absurd (omega arith)
missing p (suc n) h = go (p n) refl (λ g. missing p n g)
  where
    go : (v : Bool) → p n ≡ v → (count p n < n → (c : ℕ) × (c < n) × (p c ≡ false)) → (c : ℕ) × (c < suc n) × (p c ≡ false)
    go false e f = (n, omega arith, e)
    go true e f = let m : (c : ℕ) × (c < n) × (p c ≡ false) = f (grind (arith, nat_tests)) in (m.0, (let l : m.0 < n = m.1 in omega arith), m.2)

-- a part of the tree, of suc k bridges
record Part (n : ℕ) (up : ℕ → ℕ → Bool) (k : ℕ) : Type 0 where
  inn : ℕ → Bool
  above : ℕ → ℕ
  far : ℕ → ℕ
  size : count inn n ≡ suc k
  zeroth_in : inn 0 ≡ true
  rooted : above 0 ≡ 0
  outside : (b : ℕ) → inn b ≡ false → above b ≡ b
  below : (b : ℕ) → inn b ≡ true → (b < n) × (far b ≤ k)
  joins : (b : ℕ) → inn b ≡ true → (b ≡ 0) ⊎ ((inn (above b) ≡ true) × (far (above b) < far b) × (up b (above b) ≡ true) × (up (above b) b ≡ true))

-- a link from the part to outside
record Crossing (n : ℕ) (up : ℕ → ℕ → Bool) (p : ℕ → Bool) : Type 0 where
  a : ℕ
  b : ℕ
  a_in : p a ≡ true
  b_out : p b ≡ false
  b_below : b < n
  there : up a b ≡ true
  back : up b a ≡ true

crossing : (n : ℕ) (up : ℕ → ℕ → Bool) (p : ℕ → Bool) → p 0 ≡ true → {c : ℕ} → Reached n up c → p c ≡ false → Crossing n up p
crossing n up p z zeroth e = absurd (both_ways _ e z)
crossing n up p z (over {a} {b} l h u v) e = elim (cases_Bool (p a)) [
  | inl y ↦ record { a = a; b = b; a_in = y; b_out = e; b_below = h; there = u; back = v }
  | inr f ↦ crossing n up p z l f
]

module _ (n : ℕ) (up : ℕ → ℕ → Bool) where
  only_zero : 0 < n → Part n up 0
  only_zero h = record {
    inn = at 0 true (λ _. false);
    above = λ b. b;
    far = λ b. 0;
    size = count_more (λ _. false) 0 n h refl ∙ ap suc (count_none n);
    zeroth_in = refl;
    rooted = refl;
    outside = λ b e. refl;
    below = λ b e. grind (arith, nat_tests);
    joins = λ b e. inl (grind (arith, nat_tests));
  }

  more : (k : ℕ) (p : Part n up k) → Crossing n up p.inn → Part n up (suc k)
  more k p x = record {
    inn = at x.b true p.inn;
    above = at x.b x.a p.above;
    far = at x.b (suc k) p.far;
    size = count_more p.inn x.b n x.b_below x.b_out ∙ ap suc p.size;
    zeroth_in = grind (arith, nat_tests, p.zeroth_in);
    rooted = grind (arith, nat_tests, p.zeroth_in, p.rooted);
    outside = λ c e. grind (arith, nat_tests, p.outside c);
    below = λ c e. grind (arith, nat_tests, p.below c);
    joins = λ c e. grind (arith, nat_tests, p.joins c, p.below c, p.below (p.above c), p.below x.a);
  }

  next : (k : ℕ) → suc k < n → ((b : ℕ) → b < n → Reached n up b) → Part n up k → Part n up (suc k)
  next k h all p = more k p (crossing n up p.inn p.zeroth_in (all m.0 m.1) m.2)
    where
      m : (c : ℕ) × (c < n) × (p.inn c ≡ false)
      m = missing p.inn n (omega (arith, p.size))

  grow : ((b : ℕ) → b < n → Reached n up b) → (k : ℕ) → k < n → Part n up k
  grow all zero h = only_zero h
  grow all (suc k) h = next k h all (grow all k (omega arith))

-- the tree's shape, once the part has all bridges
pub spanning : (n : ℕ) (up : ℕ → ℕ → Bool) → 0 < n → ((b : ℕ) → b < n → Reached n up b) → Spanning n up
spanning zero up some all = absurd (omega arith)
spanning (suc m) up some all = record {
  above = p.above;
  far = p.far;
  rooted = p.rooted;
  outside = λ b h. p.outside b (grind (arith, nat_tests, p.below b));
  near = λ b h. grind (arith, p.below b, full b h);
  joins = λ b h. grind (arith, p.below (p.above b), p.joins b, full b h);
}
  where
    p : Part (suc m) up m
    p = grow (suc m) up all m (omega arith)

    full : (b : ℕ) → b < suc m → p.inn b ≡ true
    full b h = count_full p.inn (suc m) p.size b h

abbrev pub tree_by : {n : ℕ} {up : ℕ → ℕ → Bool} → ℕ → Spanning n up → Tree
tree_by number s = record { number = number; above = s.above; far = s.far }

module _ (n : ℕ) (up : ℕ → ℕ → Bool) (s : Spanning n up) (number : ℕ) where
  looks-upto : (k : ℕ) → k ≤ n → looks k (tree_by number s) ≡ true
  unfolding looks
  looks-upto zero h = refl
  looks-upto (suc k) h = grind (arith, nat_tests, looks-upto k (omega arith), s.joins k, s.rooted)

  pub spanning_looks : looks n (tree_by number s) ≡ true
  spanning_looks = looks-upto n (omega arith)

  pub spanning_links : (b c : ℕ) → b < n → c < n → joined (tree_by number s) b c ≡ true → up b c ≡ true
  spanning_links b c h k j = grind (arith, nat_tests, s.joins b, s.joins c, s.rooted)

  pub spanning_inside : (b : ℕ) → (b < n → s.above b < n) × (n ≤ b → s.above b ≡ b)
  spanning_inside b = (λ h. grind (arith, s.joins b, s.rooted), s.outside b)

  -- whoever is at most k far meets bridge 0 within k steps up
  climbs : (k b : ℕ) → b < n → s.far b ≤ k → is_in 0 (top_way k (tree_by number s) b) ≡ true
  unfolding is_in top_way
  climbs zero b h f = grind (arith, nat_tests, s.joins b)
  climbs (suc k) b h f = grind (arith, nat_tests, s.joins b, s.rooted, climbs k (s.above b))

  pub spanning_together : (b : ℕ) → b < n → is_in 0 (top_way n (tree_by number s) b) ≡ true
  spanning_together b h = climbs n b h (s.near b h)
