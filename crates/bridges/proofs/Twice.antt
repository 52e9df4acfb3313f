-- No bridge hands a frame to a station twice, and a station that stays gets it at most once: of the copies of a frame
-- that are under way at most one has a given bridge ahead of it, and none once the frame was handed over there.
-- Assumes nothing.
use Rattle.std.proofs.Common.{◌≡◌, ℕ, zero, suc, ◌+◌, ◌<◌, ◌≤◌, Bool, true, false, cond, not, ◌&&◌, ◌||◌, eqb, ltb, ◌⊎◌, List, [], ◌∷◌, ◌++◌, sym, refl, ap, ◌∙◌, subst, inl, inr, arith}
use native.Mathlib.Decide.{ℕ_discrete}
use Rattle.std.proofs.lemmas.Bool.Decides.{nat_tests}
use Rattle.std.proofs.lemmas.Bool.{cond_both, and_parts, and_from, not-true, eqb-false, eq-eqb, ne_eqb}
use Rattle.trees.specs.Tree.{Tree, looks, joined, Walk, first, on, all_below}
use Rattle.bridges.specs.Net.{Copy, Where, Unknown, Here, Behind, Got, Rules, World, Found, NoTree, This, tree_of, not_back, copy_to, toward, knows, without, with_copies, send_by}
use Rattle.bridges.specs.Fabric.{Event, Send, Arrive, Lose, Believe, Announce, Adopt, Move, Forget, Crash, Turn, goes_by, may_hand, handed, forward, happen, run}
use Rattle.trees.proofs.Simple.{below_1, below_2, joined-apart}
use Rattle.trees.proofs.Ahead.{Leads, leads, leads-is, is_leads, leads_one, leads-within, leads-off, leads-here}
use Rattle.bridges.specs.Promise.{count_got}
use Rattle.bridges.specs.Guarantee.{count_all, moves, stays}
use Rattle.bridges.proofs.Changes.{not_back_is, Pick, pick_mem, arrive_by, announce_by, adopt_by, send_by_lem}
use Rattle.bridges.proofs.Keeps.{Walks, Keeps, keeps, goes_behind, tree-stays, Onward, toward-mem}
use Rattle.bridges.proofs.Counts.{one, one_same, count, count-append, count-pick, count_less, count_none, count_same, below_some, below_one, floods-count, handed-count}

-- is bridge h ahead of a copy at b, that went by bs, along a tree over n bridges
abbrev pub reach : ℕ → Found → ℕ → ℕ → List ℕ → Bool
reach n NoTree h b bs = false
reach n (This t) h b [] = true
reach n (This t) h b (a ∷ bs) = leads n t a b h

-- is it a copy of frame f that has bridge h ahead of it
abbrev pub ahead : ℕ → ℕ → List Tree → ℕ → Copy → Bool
ahead n f trees h x = eqb x.frame.number f && reach n (tree_of x.frame.tree trees) h x.at x.trail

pub walk_joined : {t : Tree} {c b : ℕ} {bs : List ℕ} → Walk t (c ∷ (b ∷ bs)) → joined t b c ≡ true
walk_joined (first c j) = j
walk_joined (on c w j nb) = j

-- where a copy comes to is ahead of it
reach_here : (n : ℕ) (t : Tree) (b : ℕ) (bs : List ℕ) → looks n t ≡ true → Walk t (b ∷ bs) → (0 < n → all_below n (b ∷ bs) ≡ true) → (n ≡ 0 → bs ≡ []) → reach n (This t) b b bs ≡ true
reach_here n t b [] l w h z = refl
reach_here zero t b (a ∷ bs) l w h z = absurd (let e = z refl in grind arith)
reach_here (suc m) t b (a ∷ bs) l w h z =
    let g = h (omega arith) in let la = below_2 (suc m) b a bs g in let lb = below_1 (suc m) b (a ∷ bs) g in
    is_leads (suc m) t l a b b la lb (walk_joined w) (leads-here (suc m) t l la lb (walk_joined w))

-- what is ahead of a copy that was made of it was ahead of it
reach-before : (n : ℕ) (t : Tree) (h b c : ℕ) (bs : List ℕ) → looks n t ≡ true → Walk t (b ∷ bs) → all_below n (b ∷ bs) ≡ true → c < n → joined t b c ≡ true → not_back bs c ≡ true →
    leads n t b c h ≡ true → reach n (This t) h b bs ≡ true
reach-before n t h b c [] l w g lc j nb e = refl
reach-before n t h b c (a ∷ bs) l w g lc j nb e =
    let la = below_2 n b a bs g in let lb = below_1 n b (a ∷ bs) g in
    is_leads n t l a b h la lb (walk_joined w) (leads-within n t l la lb lc (walk_joined w) (eqb-false c a (not_back_is a bs c nb)) (leads-is n t l b c h lb lc j e))

-- what one copy leads to counts no more than it does itself
module _ (n f h : ℕ) (trees : List Tree) (up : ℕ → ℕ → Bool) (x : Copy) (t : Tree) (e : tree_of x.frame.tree trees ≡ This t) (l : looks n t ≡ true) (w : Walk t (x.at ∷ x.trail))
    (g : all_below n (x.at ∷ x.trail) ≡ true) where
  unfoldable pub passes : ℕ → Bool
  passes c = (joined t x.at c && (up x.at c && not_back x.trail c)) && ahead n f trees h (copy_to x c)

  record Passed (c : ℕ) : Type 0 where
    by : joined t x.at c ≡ true
    forth : not_back x.trail c ≡ true
    same : eqb x.frame.number f ≡ true
    lead : leads n t x.at c h ≡ true

  passed : (c : ℕ) → passes c ≡ true → Passed c
  unfolding passes
  passed c p = record { by = q.0; forth = q.1; same = q.2; lead = subst (λ u. reach n u h c (x.at ∷ x.trail) ≡ true) e q.3 }
    where
      five : (a b c d e : Bool) → ((a && (b && c)) && (d && e)) ≡ true → (a ≡ true) × (c ≡ true) × (d ≡ true) × (e ≡ true)
      five a b c d e h = grind arith

      q : (joined t x.at c ≡ true) × (not_back x.trail c ≡ true) × (eqb x.frame.number f ≡ true) × (reach n (tree_of x.frame.tree trees) h c (x.at ∷ x.trail) ≡ true)
      q = five _ (up x.at c) _ _ _ p

  at_below : x.at < n
  at_below = below_1 n x.at x.trail g

  pub pass_leads : (c : ℕ) → c < n → passes c ≡ true → Leads n t x.at c h
  pass_leads c lc p = let q = passed c p in leads-is n t l x.at c h at_below lc q.by q.lead

  pub pass_one : (c d : ℕ) → c < n → d < n → passes c ≡ true → passes d ≡ true → c ≡ d
  pass_one c d lc ld p q = leads_one n t l lc ld (pass_leads c lc p) (pass_leads d ld q)

  pub pass_off : (c : ℕ) → c < n → passes c ≡ true → x.at ≡ h → ⊥
  pass_off c lc p q = leads-off n t l (subst (λ y. Leads n t x.at c y) (sym q) (pass_leads c lc p))

  pub pass_before : (c : ℕ) → c < n → passes c ≡ true → ahead n f trees h x ≡ true
  pass_before c lc p = let q = passed c p in
      and_from _ _ q.same (subst (λ u. reach n u h x.at x.trail ≡ true) (sym e) (reach-before n t h x.at c x.trail l w g lc q.by q.forth q.lead))

  -- wherever it goes: at most one copy of it has h ahead, and that to a bridge
  pub toward-some : (k : Where) → ((c : ℕ) → k ≡ Behind c → (c < n) ⊎ (c ≡ x.at)) →
      (count (ahead n f trees h) (toward t up x k n) ≡ 0) ⊎ ((c : ℕ) × (c < n) × (passes c ≡ true) × (count (ahead n f trees h) (toward t up x k n) ≤ 1))
  unfolding passes count
  toward-some Unknown b = elim (below_some n passes) [
    | inl z ↦ inl (floods-count (ahead n f trees h) n t up x ∙ z)
    | inr s ↦ inr (s.0, s.1, s.2, subst (λ m. m ≤ 1) (sym (floods-count (ahead n f trees h) n t up x)) (below_one n passes pass_one))
  ]
  toward-some Here b = inl refl
  toward-some (Behind c) b = go (joined t x.at c && (up x.at c && not_back x.trail c)) (ahead n f trees h (copy_to x c)) refl refl
    where
      D : ℕ → Type 0
      D m = (m ≡ 0) ⊎ ((c : ℕ) × (c < n) × (passes c ≡ true) × (m ≤ 1))

      off : joined t x.at c && (up x.at c && not_back x.trail c) ≡ true → (c < n) ⊎ (c ≡ x.at) → c < n
      off j (inl lt) = lt
      off j (inr q) = absurd (joined-apart t x.at c (and_parts _ _ j).0 (sym q))

      go : (p q : Bool) → joined t x.at c && (up x.at c && not_back x.trail c) ≡ p → ahead n f trees h (copy_to x c) ≡ q →
          D (count (ahead n f trees h) (cond p (copy_to x c ∷ []) []))
      go false q e1 e2 = inl refl
      go true false e1 e2 = inl (let y = one_same (ahead n f trees h (copy_to x c)) false e2 in omega arith)
      go true true e1 e2 = inr (c, off e1 (b c refl), and_from _ _ e1 e2, let y = one_same (ahead n f trees h (copy_to x c)) true e2 in omega arith)

  pub toward-count : (k : Where) → ((c : ℕ) → k ≡ Behind c → (c < n) ⊎ (c ≡ x.at)) → count (ahead n f trees h) (toward t up x k n) ≤ one (ahead n f trees h x)
  toward-count k b = go (toward-some k b)
    where
      m : ℕ
      m = count (ahead n f trees h) (toward t up x k n)

      go : (m ≡ 0) ⊎ ((c : ℕ) × (c < n) × (passes c ≡ true) × (m ≤ 1)) → m ≤ one (ahead n f trees h x)
      go (inl z) = omega arith
      go (inr s) = let y = one_same (ahead n f trees h x) true (pass_before s.0 s.1 s.2) in let u = s.3 in omega arith

  pub toward-off : (k : Where) → ((c : ℕ) → k ≡ Behind c → (c < n) ⊎ (c ≡ x.at)) → x.at ≡ h → count (ahead n f trees h) (toward t up x k n) ≡ 0
  toward-off k b q = elim (toward-some k b) [ inl z ↦ z | inr s ↦ absurd (pass_off s.0 s.1 s.2 q) ]

-- what is ahead of a copy hangs on its own tree alone
pub ahead-stays : (r : Rules) (f h : ℕ) (t : Tree) (ts : List Tree) → tree_of t.number ts ≡ NoTree → (x : Copy) → Walks r ts x → ahead r.bridges f ts h x ≡ ahead r.bridges f (t ∷ ts) h x
ahead-stays r f h t ts e x o = ap (λ u. eqb x.frame.number f && reach r.bridges u h x.at x.trail) (o.is ∙ sym (tree-stays t o.t x.frame.tree ts e o.is))

-- whoever is handed a frame is at home there
pub may_home : (lax : Bool) (r : Rules) (w : World) (x : Copy) (k : Where) (s : ℕ) → may_hand lax r w x k s ≡ true → w.home s ≡ x.at
may_home lax r w x Unknown s h = grind (arith, nat_tests)
may_home lax r w x Here s h = grind (arith, nat_tests)
may_home lax r w x (Behind c) s h = grind (arith, nat_tests)

-- what is counted of what was handed over: of frame f, to station s
pub record Tallied (f s : ℕ) (p : Got → Bool) : Type 0 where
  pub of-frame : (g : Got) → p g ≡ true → g.frame ≡ f
  pub of-station : (g : Got) → p g ≡ true → g.station ≡ s

-- it was handed over at home, and that is at h
abbrev pub Placed : (ℕ → ℕ) → ℕ → (Got → Bool) → Type 0
Placed home h p = (g : Got) → p g ≡ true → home g.station ≡ g.bridge → g.bridge ≡ h

module _ (lax : Bool) (r : Rules) (f s h : ℕ) (p : Got → Bool) (tal : Tallied f s p) where
  handed-some : (w : World) (x : Copy) (k : Where) → Placed w.home h p → (m : ℕ) →
      (count p (handed lax r w x k m) ≡ 0) ⊎ ((x.frame.number ≡ f) × (x.at ≡ h) × (count p (handed lax r w x k m) ≤ 1))
  handed-some w x k pl m = subst D (sym (handed-count p lax r w x k m)) (elim (below_some m q) [ inl z ↦ inl z | inr c ↦ inr (frame_is c.0 c.2, place_is c.0 c.2, below_one m q (λ c d _ _ u v. station_is c u ∙ sym (station_is d v))) ])
    where
      D : ℕ → Type 0
      D m = (m ≡ 0) ⊎ ((x.frame.number ≡ f) × (x.at ≡ h) × (m ≤ 1))

      q : ℕ → Bool
      q c = may_hand lax r w x k c && p (record { frame = x.frame.number; station = c; bridge = x.at })

      frame_is : (c : ℕ) → q c ≡ true → x.frame.number ≡ f
      frame_is c u = tal.of-frame _ (and_parts (may_hand lax r w x k c) _ u).1

      station_is : (c : ℕ) → q c ≡ true → c ≡ s
      station_is c u = tal.of-station _ (and_parts (may_hand lax r w x k c) _ u).1

      place_is : (c : ℕ) → q c ≡ true → x.at ≡ h
      place_is c u = pl _ (and_parts (may_hand lax r w x k c) _ u).1 (may_home lax r w x k c (and_parts (may_hand lax r w x k c) _ u).0)

  -- where a copy comes to, it counts
  here_counts : (n : ℕ) (trees : List Tree) (x : Copy) (t : Tree) → tree_of x.frame.tree trees ≡ This t → looks n t ≡ true → Walk t (x.at ∷ x.trail) →
      (0 < n → all_below n (x.at ∷ x.trail) ≡ true) → (n ≡ 0 → x.trail ≡ []) → x.frame.number ≡ f → x.at ≡ h → ahead n f trees h x ≡ true
  here_counts n trees x t e l wk g z ef eh = and_from _ _ (eq-eqb _ _ ef) (subst (λ u. reach n u h x.at x.trail ≡ true) (sym e) (subst (λ y. reach n (This t) y x.at x.trail ≡ true) eh (reach_here n t x.at x.trail l wk g z)))

  -- what a copy leads to, and what is handed over where it comes, counts no more than it
  forward-count : (n : ℕ) (w : World) (x : Copy) (t : Tree) (k : Where) (m : ℕ) → Placed w.home h p → tree_of x.frame.tree w.trees ≡ This t → looks n t ≡ true → Walk t (x.at ∷ x.trail) →
      (0 < n → all_below n (x.at ∷ x.trail) ≡ true) → (n ≡ 0 → x.trail ≡ []) → ((c : ℕ) → k ≡ Behind c → (c < n) ⊎ (c ≡ x.at)) →
      count (ahead n f w.trees h) (toward t w.up x k n) + count p (handed lax r w x k m) ≤ one (ahead n f w.trees h x)
  forward-count n w x t k m pl e l wk g z b = elim (handed-some w x k pl m) [
    | inl hz ↦ nothing _ _ _ hz (leads-less n e l g b)
    | inr hs ↦ something _ _ _ hs.2 (leads-nowhere n e l g b hs.1) (here_counts n w.trees x t e l wk g z hs.0 hs.1)
  ]
    where
      nothing : (a b c : ℕ) → b ≡ 0 → a ≤ c → a + b ≤ c
      nothing a b c p q = omega arith

      something : (a b : ℕ) (c : Bool) → b ≤ 1 → a ≡ 0 → c ≡ true → a + b ≤ one c
      something a b c p q u = let y = one_same c true u in omega arith

      no_bridge : (b : (c : ℕ) → k ≡ Behind c → (c < 0) ⊎ (c ≡ x.at)) → (q : Copy → Bool) → count q (toward t w.up x k 0) ≡ 0
      no_bridge b q = count_none q _ (λ y o. absurd (no_one y (toward-mem t w.up x k 0 y o)))
        where
          no_one : (y : Copy) → Onward t w.up x k 0 y → ⊥
          no_one y o = elim o.place [ inl lt ↦ nil o.to lt | inr q ↦ elim (b o.to q) [ inl lt ↦ nil o.to lt | inr q2 ↦ joined-apart t x.at o.to o.by (sym q2) ] ]
            where
              nil : (a : ℕ) → a < 0 → ⊥
              nil a lt = omega arith

      leads-less : (n : ℕ) → tree_of x.frame.tree w.trees ≡ This t → looks n t ≡ true → (0 < n → all_below n (x.at ∷ x.trail) ≡ true) → ((c : ℕ) → k ≡ Behind c → (c < n) ⊎ (c ≡ x.at)) →
          count (ahead n f w.trees h) (toward t w.up x k n) ≤ one (ahead n f w.trees h x)
      leads-less zero e l g b = let y = no_bridge b (ahead 0 f w.trees h) in omega arith
      leads-less (suc n) e l g b = toward-count (suc n) f h w.trees w.up x t e l wk (g (omega arith)) k b

      leads-nowhere : (n : ℕ) → tree_of x.frame.tree w.trees ≡ This t → looks n t ≡ true → (0 < n → all_below n (x.at ∷ x.trail) ≡ true) → ((c : ℕ) → k ≡ Behind c → (c < n) ⊎ (c ≡ x.at)) → x.at ≡ h →
          count (ahead n f w.trees h) (toward t w.up x k n) ≡ 0
      leads-nowhere zero e l g b q = no_bridge b (ahead 0 f w.trees h)
      leads-nowhere (suc n) e l g b q = toward-off (suc n) f h w.trees w.up x t e l wk (g (omega arith)) k b q

  -- what counts: copies of f that have h ahead, and what was handed over
  abbrev pub tally : World → ℕ
  tally w = count (ahead r.bridges f w.trees h) w.copies + count p w.got

  -- of a frame that wasn't sent yet, nothing
  pub tally-none : (w : World) → Keeps lax r w → w.next ≤ f → tally w ≡ 0
  tally-none w k le = sum _ _ (count_none _ w.copies (λ x m. not_yet x.frame.number _ (k.fresh x m))) (count_none p w.got (λ g m. not-got g (p g) refl (k.old g m)))
    where
      sum : (a b : ℕ) → a ≡ 0 → b ≡ 0 → a + b ≡ 0
      sum a b p q = omega arith

      not_yet : (a : ℕ) (b : Bool) → a < w.next → (eqb a f && b) ≡ false
      not_yet a b lt = grind (arith, nat_tests)

      not-got : (g : Got) (b : Bool) → p g ≡ b → g.frame < w.next → p g ≡ false
      not-got g true e lt = let q = tal.of-frame g e in absurd (omega arith)
      not-got g false e lt = e

  tally-forward : (i : ℕ) (w : World) (x : Copy) (t : Tree) → Keeps lax r w → Placed w.home h p → Pick x i w.copies → tree_of x.frame.tree w.trees ≡ This t → tally w ≤ 1 →
      tally (forward lax r x t (with_copies (without i w.copies) w)) ≤ 1
  tally-forward i w x t k pl pk e le =
      sums _ _ _ _ _ _ _ _ (forward-count r.bridges w' x t known r.stations pl e (subst (λ u. looks r.bridges u ≡ true) same o.good) (subst (λ u. Walk u (x.at ∷ x.trail)) same o.walk) o.inside o.still by)
      (count-pick (ahead r.bridges f w.trees h) x i w.copies pk)
      (count-append (ahead r.bridges f w.trees h) (toward t w.up x known r.bridges) (without i w.copies))
      (count-append p (handed lax r w' x known r.stations) w.got) le
    where
      w' : World
      w' = with_copies (without i w.copies) w

      known : Where
      known = goes_by lax x (knows w' x)

      o : Walks r w.trees x
      o = k.walks x (pick_mem pk)

      same : o.t ≡ t
      same = let a = o.is in cc

      by : (c : ℕ) → known ≡ Behind c → (c < r.bridges) ⊎ (c ≡ x.at)
      by c q = goes_behind lax r w.trees x (knows w x) o (λ d. k.behind x.at x.frame.tree x.frame.to d) c q

      sums : (t h x a b l g g' : ℕ) → t + h ≤ x → a ≡ x + b → l ≡ t + b → g' ≡ h + g → a + g ≤ 1 → l + g' ≤ 1
      sums t h x a b l g g' p q u v z = omega arith

  pub tally-step : (e : Event) (w : World) → Keeps lax r w → Placed w.home h p → tally w ≤ 1 → tally (happen lax r e w) ≤ 1
  unfolding send_by count
  tally-step (Send a d) w k pl le = send_by_lem lax r (λ v. tally v ≤ 1) a d w le (λ n ns _ _ _ _. one_more n)
    where
      one_more : (n : ℕ) → tally (send_by r a d (n ∷ []) w) ≤ 1
      one_more n = elim (ℕ_discrete w.next f) [
        | yes q ↦ sums _ _ _ (tally-none w k (same_le q)) (at_most_one _)
        | no ne ↦ others _ _ _ (one_same (ahead r.bridges f w.trees h (fresh_copy n)) false (other ne _)) le
      ]
        where
          fresh_copy : ℕ → Copy
          fresh_copy n = record { frame = record { number = w.next; from = a; to = d; colour = r.colour a; tree = n }; at = w.home a; trail = [] }

          same_le : {a b : ℕ} → a ≡ b → a ≤ b
          same_le e = omega arith

          at_most_one : (b : Bool) → one b ≤ 1
          at_most_one true = omega arith
          at_most_one false = omega arith

          other : (w.next ≡ f → ⊥) → (b : Bool) → (eqb w.next f && b) ≡ false
          other ne b = ap (λ c. c && b) (ne_eqb _ _ ne)

          sums : (x c g : ℕ) → c + g ≡ 0 → x ≤ 1 → (x + c) + g ≤ 1
          sums x c g p q = omega arith

          others : (x c g : ℕ) → x ≡ 0 → c + g ≤ 1 → (x + c) + g ≤ 1
          others x c g p q = omega arith
  tally-step (Arrive i) w k pl le =
      let less : tally (with_copies (without i w.copies) w) ≤ 1 = (let q = count_less (ahead r.bridges f w.trees h) i w.copies in omega arith) in
      arrive_by lax r (λ v. tally v ≤ 1) i w.copies (with_copies (without i w.copies) w) (λ _. less) (λ _ _ _. less) (λ x t pk e _. tally-forward i w x t k pl pk e le)
  tally-step (Lose i) w k pl le = let q = count_less (ahead r.bridges f w.trees h) i w.copies in omega arith
  tally-step (Believe a b c) w k pl le = le
  tally-step (Announce t) w k pl le = announce_by lax r (λ v. tally v ≤ 1) t w le (λ e. subst (λ m. m + count p w.got ≤ 1) (count_same _ _ w.copies (λ x m. ahead-stays r f h t w.trees e x (k.walks x m))) le)
  tally-step (Adopt b n) w k pl le = adopt_by lax r (λ v. tally v ≤ 1) b n w le (λ _ _ _. le)
  tally-step (Move a b) w k pl le = cond_both (not lax || ltb b r.bridges) _ w (λ v. tally v ≤ 1) (λ _. le) (λ _. le)
  tally-step (Forget b n a) w k pl le = le
  tally-step (Crash b) w k pl le = le
  tally-step (Turn b n a ok) w k pl le = le

-- of a frame, to a station, at a bridge
abbrev pub at_bridge : ℕ → ℕ → ℕ → Got → Bool
at_bridge f s b g = eqb g.frame f && (eqb g.station s && eqb g.bridge b)

-- of a frame, to a station, wherever
abbrev pub anywhere : ℕ → ℕ → Got → Bool
anywhere f s g = eqb g.frame f && eqb g.station s

pub count-got : (f s b : ℕ) (gs : List Got) → count_got f s b gs ≡ count (at_bridge f s b) gs
unfolding count_got count
count-got f s b [] = refl
count-got f s b (g ∷ gs) = ap (λ n. one (at_bridge f s b g) + n) (count-got f s b gs)

pub count-all : (f s : ℕ) (gs : List Got) → count_all f s gs ≡ count (anywhere f s) gs
unfolding count_all count
count-all f s [] = refl
count-all f s (g ∷ gs) = ap (λ n. one (anywhere f s g) + n) (count-all f s gs)

pub tallied_at : (f s b : ℕ) → Tallied f s (at_bridge f s b)
tallied_at f s b = record { of-frame = λ g h. frame_is g.frame g.station g.bridge h; of-station = λ g h. station_is g.frame g.station g.bridge h }
  where
    frame_is : (x y z : ℕ) → (eqb x f && (eqb y s && eqb z b)) ≡ true → x ≡ f
    frame_is x y z h = grind (arith, nat_tests)

    station_is : (x y z : ℕ) → (eqb x f && (eqb y s && eqb z b)) ≡ true → y ≡ s
    station_is x y z h = grind (arith, nat_tests)

pub tallied : (f s : ℕ) → Tallied f s (anywhere f s)
tallied f s = record { of-frame = λ g h. frame_is g.frame g.station h; of-station = λ g h. station_is g.frame g.station h }
  where
    frame_is : (x y : ℕ) → (eqb x f && eqb y s) ≡ true → x ≡ f
    frame_is x y h = grind (arith, nat_tests)

    station_is : (x y : ℕ) → (eqb x f && eqb y s) ≡ true → y ≡ s
    station_is x y h = grind (arith, nat_tests)

-- a station that stays is where it was
pub stays-home : (lax : Bool) (r : Rules) (s : ℕ) (e : Event) (w : World) → moves s e ≡ false → (happen lax r e w).home s ≡ w.home s
unfolding send_by
stays-home lax r s e w h = go e w h
  where
    P : ℕ → World → Type 0
    P b v = v.home s ≡ b

    go : (e : Event) (w : World) → moves s e ≡ false → (happen lax r e w).home s ≡ w.home s
    go (Send a d) w h = send_by_lem lax r (P (w.home s)) a d w refl (λ _ _ _ _ _ _. refl)
    go (Arrive i) w h = arrive_by lax r (P (w.home s)) i w.copies (with_copies (without i w.copies) w) (λ _. refl) (λ _ _ _. refl) (λ _ _ _ _ _. refl)
    go (Lose i) w h = refl
    go (Believe a b c) w h = refl
    go (Announce t) w h = announce_by lax r (P (w.home s)) t w refl (λ _. refl)
    go (Adopt b n) w h = adopt_by lax r (P (w.home s)) b n w refl (λ _ _ _. refl)
    go (Move a b) w h = cond_both (not lax || ltb b r.bridges) _ w (P (w.home s)) (λ _. ap (λ x. cond x b (w.home s)) (other a s h)) (λ _. refl)
      where
        other : (a s : ℕ) → eqb a s ≡ false → eqb s a ≡ false
        other a s h = grind (arith, nat_tests)
    go (Forget b n a) w h = refl
    go (Crash b) w h = refl
    go (Turn b n a ok) w h = refl

module _ (lax : Bool) (r : Rules) where
  tally-all : (f s b : ℕ) (es : List Event) → tally lax r f s b (at_bridge f s b) (tallied_at f s b) (run lax r es) ≤ 1
  unfolding run count
  tally-all f s b [] = omega arith
  tally-all f s b (e ∷ es) = tally-step lax r f s b (at_bridge f s b) (tallied_at f s b) e (run lax r es) (keeps lax r es) (λ g h _. bridge_is g.frame g.station g.bridge h) (tally-all f s b es)
    where
      bridge_is : (x y z : ℕ) → (eqb x f && (eqb y s && eqb z b)) ≡ true → z ≡ b
      bridge_is x y z h = grind (arith, nat_tests)

  pub not_twice : (es : List Event) (f s b : ℕ) → count_got f s b (run lax r es).got ≤ 1
  not_twice es f s b = least _ _ _ (count-got f s b (run lax r es).got) (tally-all f s b es)
    where
      least : (a b c : ℕ) → a ≡ b → c + b ≤ 1 → a ≤ 1
      least a b c p q = omega arith

  -- from a moment on
  tally-since : (f s : ℕ) (later before : List Event) → (run lax r before).next ≤ f → stays s later ≡ true →
      (tally lax r f s ((run lax r before).home s) (anywhere f s) (tallied f s) (run lax r (later ++ before)) ≤ 1) × ((run lax r (later ++ before)).home s ≡ (run lax r before).home s)
  unfolding run stays
  tally-since f s [] before le h = (let z = tally-none lax r f s ((run lax r before).home s) (anywhere f s) (tallied f s) (run lax r before) (keeps lax r before) le in omega arith, refl)
  tally-since f s (e ∷ later) before le h =
      let ih = tally-since f s later before le (and_parts (not (moves s e)) _ h).1 in (
        tally-step lax r f s ((run lax r before).home s) (anywhere f s) (tallied f s) e (run lax r (later ++ before)) (keeps lax r (later ++ before))
            (λ g p q. sym q ∙ ap (run lax r (later ++ before)).home ((tallied f s).of-station g p) ∙ ih.1) ih.0,
        stays-home lax r s e (run lax r (later ++ before)) (not-true _ (and_parts (not (moves s e)) _ h).0) ∙ ih.1,
      )

  pub once_if_still : (es later before : List Event) → es ≡ later ++ before → (s : ℕ) → stays s later ≡ true → (f : ℕ) → (run lax r before).next ≤ f → count_all f s (run lax r es).got ≤ 1
  once_if_still es later before e s h f le =
      subst (λ fs. count_all f s (run lax r fs).got ≤ 1) (sym e) (least _ _ _ (count-all f s (run lax r (later ++ before)).got) (tally-since f s later before le h).0)
    where
      least : (a b c : ℕ) → a ≡ b → c + b ≤ 1 → a ≤ 1
      least a b c p q = omega arith
