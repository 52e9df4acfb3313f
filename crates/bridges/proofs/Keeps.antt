-- What holds after any events: homes are bridges, trees that are held look like trees, what is learnt names bridges of
-- trees that were announced, and every copy is on a walk along its tree. Assumes nothing.
use Rattle.std.proofs.Common.{◌≡◌, ℕ, zero, suc, ◌<◌, Bool, true, cond, not, ◌&&◌, ◌||◌, eqb, ltb, ◌⊎◌, List, [], ◌∷◌, sym, refl, ap, ◌∙◌, subst, inl, inr, arith}
use mathlib.Core.List.Memᴰ
use mathlib.Core.List.{Memᴰ}
use native.Mathlib.Decide.{ℕ_discrete}
use Rattle.std.proofs.lemmas.Bool.Decides.{nat_tests}
use Rattle.std.proofs.lemmas.Bool.{cond_both, ne_eqb}
use Rattle.trees.specs.Tree.{Tree, looks, joined, Walk, here, first, on, is_in, all_below}
use Rattle.bridges.specs.Net.{Copy, Where, Unknown, Here, Behind, Got, Rules, World, NoTree, This, tree_of, came_by, not_back, copy_to, floods, toward, knows, learns, without, with_copies, two, send_by}
use Rattle.bridges.specs.Fabric.{Event, Send, Arrive, Lose, Believe, Announce, Adopt, Move, Forget, Crash, Turn, goes_by, may_hand, handed, forward, turned, happen, run}
use Rattle.trees.proofs.Simple.{below_2}
use Rattle.bridges.proofs.Changes.{at3-tells, forget_tells, crash_tells, goes_tells, not_back_is, floods-tells, toward-tells, pick_mem, without-mem, arrive_by, announce_by, adopt_by, send_by_lem}

pub record Known (r : Rules) (trees : List Tree) (n : ℕ) : Type 0 where
  pub t : Tree
  pub is : tree_of n trees ≡ This t
  pub good : looks r.bridges t ≡ true

-- a copy is on a walk along its tree, over bridges
pub record Walks (r : Rules) (trees : List Tree) (x : Copy) : Type 0 where
  pub t : Tree
  pub is : tree_of x.frame.tree trees ≡ This t
  pub good : looks r.bridges t ≡ true
  pub walk : Walk t (x.at ∷ x.trail)
  pub inside : 0 < r.bridges → all_below r.bridges (x.at ∷ x.trail) ≡ true
  pub still : r.bridges ≡ 0 → x.trail ≡ []

pub record KeepsOf (lax : Bool) (r : Rules) (home : ℕ → ℕ) (trees : List Tree) (holds : ℕ → List ℕ) (learned : ℕ → ℕ → ℕ → Where) (copies : List Copy) (got : List Got) (next : ℕ) : Type 0 where
  pub homes : lax ≡ true → (s : ℕ) → 0 < r.bridges → home s < r.bridges
  pub held : (b n : ℕ) → is_in n (holds b) ≡ true → Known r trees n
  pub behind : (b n s c : ℕ) → learned b n s ≡ Behind c → (c < r.bridges) ⊎ (c ≡ b)
  pub blank : (b n s : ℕ) → tree_of n trees ≡ NoTree → learned b n s ≡ Unknown
  pub walks : (x : Copy) → Memᴰ x copies → Walks r trees x
  pub fresh : (x : Copy) → Memᴰ x copies → x.frame.number < next
  pub old : (g : Got) → Memᴰ g got → g.frame < next

abbrev pub Keeps : Bool → Rules → World → Type 0
Keeps lax r w = KeepsOf lax r w.home w.trees w.holds w.learned w.copies w.got w.next

-- a copy that a bridge makes of one
pub record Onward (t : Tree) (up : ℕ → ℕ → Bool) (x : Copy) (k : Where) (n : ℕ) (y : Copy) : Type 0 where
  pub to : ℕ
  pub is : y ≡ copy_to x to
  pub by : joined t x.at to ≡ true
  pub open_link : up x.at to ≡ true
  pub forth : not_back x.trail to ≡ true
  pub place : (to < n) ⊎ (k ≡ Behind to)

onward : (t : Tree) (up : ℕ → ℕ → Bool) (x : Copy) (k : Where) (n c : ℕ) (y : Copy) → y ≡ copy_to x c → (c < n) ⊎ (k ≡ Behind c) →
    (joined t x.at c ≡ true) → (up x.at c ≡ true) → (not_back x.trail c ≡ true) → Onward t up x k n y
onward t up x k n c y e p j u b = record { to = c; is = e; by = j; open_link = u; forth = b; place = p }

wider : {t : Tree} {up : ℕ → ℕ → Bool} {x : Copy} {k : Where} {n : ℕ} {y : Copy} → Onward t up x k n y → Onward t up x k (suc n) y
wider {k} {n} o = record { to = o.to; is = o.is; by = o.by; open_link = o.open_link; forth = o.forth; place = go o.place }
  where
    go : (o.to < n) ⊎ (k ≡ Behind o.to) → (o.to < suc n) ⊎ (k ≡ Behind o.to)
    go (inl lt) = inl (omega arith)
    go (inr e) = inr e

one_more : (c : ℕ) → c < suc c
one_more c = omega arith

floods-mem : (n : ℕ) (t : Tree) (up : ℕ → ℕ → Bool) (x y : Copy) → Memᴰ y (floods n t up x) → Onward t up x Unknown n y
unfolding floods
floods-mem zero t up x y m = absurd (Memᴰ.not-nil m)
floods-mem (suc c) t up x y m = elim (floods-tells c t up x) [
  | inl e ↦ wider (floods-mem c t up x y (subst (Memᴰ y) e m))
  | inr h ↦ elim (Memᴰ.cases_cons (subst (Memᴰ y) h.0 m)) [ inl e ↦ onward t up x Unknown (suc c) c y e (inl (one_more c)) h.1 h.2 h.3 | inr m' ↦ wider (floods-mem c t up x y m') ]
]

pub toward-mem : (t : Tree) (up : ℕ → ℕ → Bool) (x : Copy) (k : Where) (n : ℕ) (y : Copy) → Memᴰ y (toward t up x k n) → Onward t up x k n y
toward-mem t up x Unknown n y m = floods-mem n t up x y m
toward-mem t up x Here n y m = absurd (Memᴰ.not-nil m)
toward-mem t up x (Behind c) n y m = elim (toward-tells t up x c n) [
  | inl e ↦ absurd (Memᴰ.not-nil (subst (Memᴰ y) e m))
  | inr h ↦ elim (Memᴰ.cases_cons (subst (Memᴰ y) h.0 m)) [ inl e ↦ onward t up x (Behind c) n c y e (inr refl) h.1 h.2 h.3 | inr m' ↦ absurd (Memᴰ.not-nil m') ]
]

-- what is handed to stations
pub handed-mem : (lax : Bool) (r : Rules) (w : World) (x : Copy) (k : Where) (n : ℕ) (g : Got) → Memᴰ g (handed lax r w x k n) →
    (s : ℕ) × (g ≡ record { frame = x.frame.number; station = s; bridge = x.at }) × (may_hand lax r w x k s ≡ true)
unfolding handed
handed-mem lax r w x k zero g m = absurd (Memᴰ.not-nil m)
handed-mem lax r w x k (suc s) g m =
    cond_both (may_hand lax r w x k s) _ _ (λ gs. Memᴰ g gs → (s : ℕ) × (g ≡ record { frame = x.frame.number; station = s; bridge = x.at }) × (may_hand lax r w x k s ≡ true))
    (λ h m. elim (Memᴰ.cases_cons m) [ inl e ↦ (s, e, h) | inr m' ↦ handed-mem lax r w x k s g m' ])
    (λ _ m. handed-mem lax r w x k s g m) m

-- going on from a walk
walk-on : (t : Tree) (b c : ℕ) (bs : List ℕ) → Walk t (b ∷ bs) → joined t b c ≡ true → not_back bs c ≡ true → Walk t (c ∷ (b ∷ bs))
walk-on t b c [] w j nb = first c j
walk-on t b c (a ∷ bs) w j nb = on c w j (not_back_is a bs c nb)

all_below_lem : (n c : ℕ) (bs : List ℕ) → c < n → all_below n bs ≡ true → all_below n (c ∷ bs) ≡ true
unfolding all_below
all_below_lem n c bs lt h = grind (arith, nat_tests)

came_behind : (r : Rules) (n b : ℕ) (bs : List ℕ) → (0 < n → all_below n (b ∷ bs) ≡ true) → (n ≡ 0 → bs ≡ []) → (c : ℕ) → came_by bs ≡ Behind c → c < n
came_behind r n b [] h z c e = absurd (grind arith)
came_behind r zero b (a ∷ bs) h z c e = absurd (let q = z refl in grind arith)
came_behind r (suc n) b (a ∷ bs) h z c e = let q = below_2 (suc n) b a bs (h (omega arith)) in grind arith

pub goes_behind : (lax : Bool) (r : Rules) (trees : List Tree) (x : Copy) (k : Where) → Walks r trees x → ((c : ℕ) → k ≡ Behind c → (c < r.bridges) ⊎ (c ≡ x.at)) →
    (c : ℕ) → goes_by lax x k ≡ Behind c → (c < r.bridges) ⊎ (c ≡ x.at)
goes_behind lax r trees x k o h c e = elim (goes_tells lax x k) [ inl q ↦ inl (came_behind r r.bridges x.at x.trail o.inside o.still c (sym q ∙ e)) | inr q ↦ h c (sym q ∙ e) ]

-- each copy that a bridge makes of one that is on a walk is on a walk
pub walks_on : (r : Rules) (trees : List Tree) (up : ℕ → ℕ → Bool) (x : Copy) (t : Tree) (k : Where) → tree_of x.frame.tree trees ≡ This t → Walks r trees x →
    ((c : ℕ) → k ≡ Behind c → (c < r.bridges) ⊎ (c ≡ x.at)) → (y : Copy) → Onward t up x k r.bridges y → Walks r trees y
walks_on r trees up x t k e o h y w = subst (λ z. Walks r trees z) (sym w.is) (go (place w.place))
  where
    c : ℕ
    c = w.to

    place : (c < r.bridges) ⊎ (k ≡ Behind c) → c < r.bridges
    place (inl lt) = lt
    place (inr e) = elim (h c e) [ inl lt ↦ lt | inr q ↦ absurd (off t x.at c w.by q) ]
      where
        off : (t : Tree) (b c : ℕ) → joined t b c ≡ true → c ≡ b → ⊥
        off t b c j q = grind (arith, nat_tests)

    same : o.t ≡ t
    same = let a = o.is in cc

    go : c < r.bridges → Walks r trees (copy_to x c)
    go lt = record {
      t = t;
      is = e;
      good = subst (λ u. looks r.bridges u ≡ true) same o.good;
      walk = walk-on t x.at c x.trail (subst (λ u. Walk u (x.at ∷ x.trail)) same o.walk) w.by w.forth;
      inside = λ p. all_below_lem r.bridges c (x.at ∷ x.trail) lt (o.inside p);
      still = λ p. absurd (omega arith);
    }

pub tree-stays : (t u : Tree) (n : ℕ) (ts : List Tree) → tree_of t.number ts ≡ NoTree → tree_of n ts ≡ This u → tree_of n (t ∷ ts) ≡ This u
unfolding tree_of
tree-stays t u n ts e h = elim (ℕ_discrete t.number n) [ yes q ↦ absurd (let z = subst (λ m. tree_of m ts ≡ NoTree) q e in grind arith) | no k ↦ rw (ne_eqb t.number n k) h ]

pub walks_stay : (r : Rules) (t : Tree) (ts : List Tree) → tree_of t.number ts ≡ NoTree → (x : Copy) → Walks r ts x → Walks r (t ∷ ts) x
walks_stay r t ts e x o = record { t = o.t; is = tree-stays t o.t x.frame.tree ts e o.is; good = o.good; walk = o.walk; inside = o.inside; still = o.still }

is_known : (r : Rules) (t : Tree) (ts : List Tree) → tree_of t.number ts ≡ NoTree → (n : ℕ) → Known r ts n → Known r (t ∷ ts) n
is_known r t ts e n k = record { t = k.t; is = tree-stays t k.t n ts e k.is; good = k.good }

in_two : (n m : ℕ) (hs : List ℕ) → is_in n (two (m ∷ hs)) ≡ true → (m ≡ n) ⊎ (is_in n hs ≡ true)
unfolding is_in two
in_two n m [] h = grind (arith, nat_tests)
in_two n m (x ∷ xs) h = grind (arith, nat_tests)

pub first_in : (n : ℕ) (ns : List ℕ) → is_in n (n ∷ ns) ≡ true
unfolding is_in
first_in n ns = grind (arith, nat_tests)

no_tree_before : (t : Tree) (n : ℕ) (ts : List Tree) → tree_of n (t ∷ ts) ≡ NoTree → tree_of n ts ≡ NoTree
unfolding tree_of
no_tree_before t n ts h = cond_both (eqb t.number n) (This t) (tree_of n ts) (λ f. f ≡ NoTree → tree_of n ts ≡ NoTree) (λ _ e. absurd (grind arith)) (λ _ e. e) h

module _ (lax : Bool) (r : Rules) where
  -- fewer copies
  keeps_less : (i : ℕ) (w : World) → Keeps lax r w → Keeps lax r (with_copies (without i w.copies) w)
  keeps_less i w k = record {
    homes = k.homes;
    held = k.held;
    behind = k.behind;
    blank = k.blank;
    walks = λ x m. k.walks x (without-mem i w.copies m);
    fresh = λ x m. k.fresh x (without-mem i w.copies m);
    old = k.old;
  }

  keeps_forward : (x : Copy) (t : Tree) (w : World) → Keeps lax r w → Walks r w.trees x → x.frame.number < w.next → tree_of x.frame.tree w.trees ≡ This t → Keeps lax r (forward lax r x t w)
  keeps_forward x t w k o lt e = record {
    homes = k.homes;
    held = k.held;
    behind = λ b n s c q. elim (heard b n s) [ inl h ↦ inl (came_behind r r.bridges x.at x.trail o.inside o.still c (sym h.3 ∙ q)) | inr h ↦ k.behind b n s c (sym h ∙ q) ];
    blank = λ b n s z. elim (heard b n s) [ inl h ↦ absurd (no_such h.1 z) | inr h ↦ h ∙ k.blank b n s z ];
    walks = λ y m. elim (Memᴰ.append_cases (toward t w.up x known r.bridges) m) [ inl m' ↦ walks_on r w.trees w.up x t known e o by y (toward-mem t w.up x known r.bridges y m') | inr m' ↦ k.walks y m' ];
    fresh = λ y m. elim (Memᴰ.append_cases (toward t w.up x known r.bridges) m) [ inl m' ↦ new_fresh y (toward-mem t w.up x known r.bridges y m') | inr m' ↦ k.fresh y m' ];
    old = λ g m. elim (Memᴰ.append_cases (handed lax r w x known r.stations) m) [ inl m' ↦ new_old g (handed-mem lax r w x known r.stations g m') | inr m' ↦ k.old g m' ];
  }
    where
      known : Where
      known = goes_by lax x (knows w x)

      by : (c : ℕ) → known ≡ Behind c → (c < r.bridges) ⊎ (c ≡ x.at)
      by c q = goes_behind lax r w.trees x (knows w x) o (λ d. k.behind x.at x.frame.tree x.frame.to d) c q

      heard : (b n s : ℕ) → ((b ≡ x.at) × (n ≡ x.frame.tree) × (s ≡ x.frame.from) × (learns x w.learned b n s ≡ came_by x.trail)) ⊎ (learns x w.learned b n s ≡ w.learned b n s)
      heard b n s = at3-tells x.at x.frame.tree x.frame.from (came_by x.trail) w.learned b n s

      no_such : {n : ℕ} → n ≡ x.frame.tree → tree_of n w.trees ≡ NoTree → ⊥
      no_such q z = let y = subst (λ m. tree_of m w.trees ≡ NoTree) q z in grind arith

      new_fresh : (y : Copy) → Onward t w.up x known r.bridges y → y.frame.number < w.next
      new_fresh y o' = subst (λ z. z.frame.number < w.next) (sym o'.is) lt

      new_old : (g : Got) → (s : ℕ) × (g ≡ record { frame = x.frame.number; station = s; bridge = x.at }) × (may_hand lax r w x known s ≡ true) → g.frame < w.next
      new_old g h = subst (λ z. z.frame < w.next) (sym h.1) lt

  keeps_send : (s d n : ℕ) (ns : List ℕ) (w : World) → Keeps lax r w → w.holds (w.home s) ≡ n ∷ ns → (lax || ltb (w.home s) r.bridges) ≡ true → Keeps lax r (send_by r s d (n ∷ ns) w)
  unfolding send_by
  keeps_send s d n ns w k e on-net = record {
    homes = k.homes;
    held = k.held;
    behind = k.behind;
    blank = k.blank;
    walks = λ y m. elim (Memᴰ.cases_cons m) [ inl q ↦ subst (λ z. Walks r w.trees z) (sym q) (new (k.held (w.home s) n (subst (λ hs. is_in n hs ≡ true) (sym e) (first_in n ns)))) | inr m' ↦ k.walks y m' ];
    fresh = λ y m. elim (Memᴰ.cases_cons m) [ inl q ↦ subst (λ z. z.frame.number < (send_by r s d (n ∷ ns) w).next) (sym q) newest | inr m' ↦ up_one y.frame.number (k.fresh y m') ];
    old = λ g m. up_one g.frame (k.old g m);
  }
    where
      newest : w.next < (send_by r s d (n ∷ ns) w).next
      newest = omega arith

      up_one : (a : ℕ) → a < w.next → a < (send_by r s d (n ∷ ns) w).next
      up_one a h = omega arith

      new : Known r w.trees n → Walks r w.trees (record { frame = record { number = w.next; from = s; to = d; colour = r.colour s; tree = n }; at = w.home s; trail = [] })
      new h = record { t = h.t; is = h.is; good = h.good; walk = here (w.home s); inside = λ p. all_below_lem r.bridges (w.home s) [] (inside p) nothing; still = λ _. refl }
        where
          nothing : all_below r.bridges [] ≡ true
          nothing = unfold all_below in refl

          either : (x : Bool) (a b : ℕ) → (x || ltb a b) ≡ true → (x ≡ true) ⊎ (a < b)
          either x a b h = grind (arith, nat_tests)

          inside : 0 < r.bridges → w.home s < r.bridges
          inside p = elim (either lax (w.home s) r.bridges on-net) [ inl l ↦ k.homes l s p | inr lt ↦ lt ]

  keeps_step : (e : Event) (w : World) → Keeps lax r w → Keeps lax r (happen lax r e w)
  keeps_step (Send s d) w k = send_by_lem lax r (Keeps lax r) s d w k (λ n ns h c _ _. keeps_send s d n ns w k h c)
  keeps_step (Arrive i) w k = let less = keeps_less i w k in arrive_by lax r (Keeps lax r) i w.copies (with_copies (without i w.copies) w) (λ _. less) (λ _ _ _. less)
      (λ x t p e _. keeps_forward x t (with_copies (without i w.copies) w) less (k.walks x (pick_mem p)) (k.fresh x (pick_mem p)) e)
  keeps_step (Lose i) w k = keeps_less i w k
  keeps_step (Believe a b c) w k = k
  keeps_step (Announce t) w k = announce_by lax r (Keeps lax r) t w k (λ e. record {
    homes = k.homes;
    held = λ b n h. is_known r t w.trees e n (k.held b n h);
    behind = k.behind;
    blank = λ b n s h. k.blank b n s (no_tree_before t n w.trees h);
    walks = λ x m. walks_stay r t w.trees e x (k.walks x m);
    fresh = k.fresh;
    old = k.old;
  })
  keeps_step (Adopt b n) w k = adopt_by lax r (Keeps lax r) b n w k (λ t e l. record {
    homes = k.homes;
    held = λ p m. cond_both (eqb p b) (two (n ∷ w.holds b)) (w.holds p) (λ hs. is_in m hs ≡ true → Known r w.trees m)
        (λ _ h. elim (in_two m n (w.holds b) h) [ inl q ↦ subst (λ z. Known r w.trees z) q (record { t = t; is = e; good = l }) | inr h' ↦ k.held b m h' ]) (λ _ h. k.held p m h);
    behind = k.behind;
    blank = k.blank;
    walks = k.walks;
    fresh = k.fresh;
    old = k.old;
  })
  keeps_step (Move s b) w k = cond_both (not lax || ltb b r.bridges) _ w (Keeps lax r) (λ h. record {
    homes = λ l q p. cond_both (eqb q s) b (w.home q) (λ c. c < r.bridges) (λ _. there lax b r.bridges h l) (λ _. k.homes l q p);
    held = k.held;
    behind = k.behind;
    blank = k.blank;
    walks = k.walks;
    fresh = k.fresh;
    old = k.old;
  }) (λ _. k)
    where
      there : (x : Bool) (a b : ℕ) → (not x || ltb a b) ≡ true → x ≡ true → a < b
      there x a b h l = grind (arith, nat_tests)
  keeps_step (Forget b n s) w k = record {
    homes = k.homes;
    held = k.held;
    behind = λ p m q c e. elim (forget_tells lax r b n s w p m q) [ inl h ↦ absurd (unknown (sym h ∙ e)) | inr h ↦ k.behind p m q c (sym h ∙ e) ];
    blank = λ p m q z. elim (forget_tells lax r b n s w p m q) [ inl h ↦ h | inr h ↦ h ∙ k.blank p m q z ];
    walks = k.walks;
    fresh = k.fresh;
    old = k.old;
  }
    where
      unknown : {c : ℕ} → Unknown ≡ Behind c → ⊥
      unknown e = grind arith
  keeps_step (Crash b) w k = record {
    homes = k.homes;
    held = λ p m. cond_both (eqb p b) [] (w.holds p) (λ hs. is_in m hs ≡ true → Known r w.trees m) (λ _ h. absurd (nothing m h)) (λ _ h. k.held p m h);
    behind = λ p m q c e. elim (crash_tells lax r b w p m q) [ inl h ↦ absurd (unknown (sym h ∙ e)) | inr h ↦ k.behind p m q c (sym h ∙ e) ];
    blank = λ p m q z. elim (crash_tells lax r b w p m q) [ inl h ↦ h | inr h ↦ h ∙ k.blank p m q z ];
    walks = k.walks;
    fresh = k.fresh;
    old = k.old;
  }
    where
      unknown : {c : ℕ} → Unknown ≡ Behind c → ⊥
      unknown e = grind arith

      nothing : (m : ℕ) → is_in m [] ≡ true → ⊥
      nothing m e = unfold is_in in grind arith
  keeps_step (Turn b n s ok) w k = record {
    homes = k.homes;
    held = k.held;
    behind = λ p m q c. cond_both (eqb p b && (eqb m n && eqb q s)) (turned b ok (w.learned p m q)) (w.learned p m q) (λ v. v ≡ Behind c → (c < r.bridges) ⊎ (c ≡ p))
        (λ h e. turned-behind p b c ok r.bridges (w.learned p m q) (bridge_is p b _ h) (k.behind p m q c) e) (λ _ e. k.behind p m q c e);
    blank = λ p m q z. cond_both (eqb p b && (eqb m n && eqb q s)) (turned b ok (w.learned p m q)) (w.learned p m q) (λ v. v ≡ Unknown) (λ _. ap (turned b ok) (k.blank p m q z)) (λ _. k.blank p m q z);
    walks = k.walks;
    fresh = k.fresh;
    old = k.old;
  }
    where
      bridge_is : (p b : ℕ) (x : Bool) → (eqb p b && x) ≡ true → p ≡ b
      bridge_is p b x h = grind (arith, nat_tests)

      turned-behind : (p b c : ℕ) (ok : Bool) (n : ℕ) (v : Where) → p ≡ b → (v ≡ Behind c → (c < n) ⊎ (c ≡ p)) → turned b ok v ≡ Behind c → (c < n) ⊎ (c ≡ p)
      turned-behind p b c ok n Unknown q h e = absurd (grind arith)
      turned-behind p b c ok n Here q h e = grind arith
      turned-behind p b c ok n (Behind d) q h e = grind arith

  pub keeps : (es : List Event) → Keeps lax r (run lax r es)
  unfolding run
  keeps [] = record {
    homes = λ l s p. subst (λ x. cond x 0 r.bridges < r.bridges) (sym l) p;
    held = λ b n h. absurd (nothing n h);
    behind = λ b n s c e. absurd (unknown e);
    blank = λ b n s z. refl;
    walks = λ x m. absurd (Memᴰ.not-nil m);
    fresh = λ x m. absurd (Memᴰ.not-nil m);
    old = λ g m. absurd (Memᴰ.not-nil m);
  }
    where
      unknown : {c : ℕ} → Unknown ≡ Behind c → ⊥
      unknown e = grind arith

      nothing : (m : ℕ) → is_in m [] ≡ true → ⊥
      nothing m e = unfold is_in in grind arith
  keeps (e ∷ es) = keeps_step e (run lax r es) (keeps es)
