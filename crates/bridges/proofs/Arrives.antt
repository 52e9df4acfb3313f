-- At rest along a tree, a frame to a station of which nothing wrong is known arrives there once, whatever else goes on
-- quietly: one copy of it has the station's bridge ahead, until it was handed over there. Assumes nothing.
use Rattle.std.proofs.Common.{◌≡◌, ℕ, suc, ◌+◌, ◌<◌, ◌≤◌, Bool, true, false, cond, not, ◌&&◌, ◌||◌, eqb, ltb, ◌⊎◌, List, [], ◌∷◌, ◌++◌, sym, refl, ap, ◌∙◌, subst, inl, inr, arith}
use mathlib.Core.List.Memᴰ
use mathlib.Core.List.{Memᴰ}
use native.Mathlib.Decide.{ℕ_discrete, dec_lt}
use Rattle.std.proofs.lemmas.Bool.Decides.{nat_tests}
use Rattle.std.proofs.lemmas.Bool.{cond_both, and_parts, and_from, and_left, not-true, eqb-true, eq-eqb, ne_eqb, both_ways}
use Rattle.trees.specs.Tree.{Tree, looks, joined, Walk, is_in, all_below}
use Rattle.bridges.specs.Net.{Frame, Copy, Where, Unknown, Here, Behind, Got, Rules, World, NoTree, This, tree_of, not_back, copy_to, toward, knows, without, with_copies, send_by}
use Rattle.bridges.specs.Fabric.{Event, Send, Arrive, Lose, Believe, Announce, Adopt, Move, Forget, Crash, Turn, goes_by, may_hand, handed, forward, happen, run}
use Rattle.trees.proofs.Under.{Under}
use Rattle.trees.proofs.Simple.{below_1, below_2}
use Rattle.trees.proofs.Ahead.{Leads, is_leads, leads-is, leads-on, leads-not-back}
use Rattle.bridges.specs.Promise.{top_way, NotWrong, Rests, count_got, none_of}
use Rattle.bridges.specs.Guarantee.{count_all, origin, quiet, quietly, remembered}
use Rattle.bridges.proofs.Changes.{goes_is, Pick, pick_mem, Refused, arrive_by, announce_by, adopt_by, send_by_lem}
use Rattle.bridges.proofs.Keeps.{Walks, Keeps, keeps, first_in}
use Rattle.bridges.proofs.Counts.{one, one_same, count, count-append, count-pick, count_none, count_same, below_has, floods-count, handed-count}
use Rattle.bridges.proofs.Vlan.{carried_step, next_grows}
use Rattle.bridges.proofs.Twice.{reach, ahead, walk_joined, ahead-stays, may_home, tally, tally-none, tally-step, anywhere, at_bridge, tallied, count-got, count-all, stays-home}
use Rattle.bridges.proofs.TopWays.{top_alone, way_to_under, on_way_is}
use Rattle.bridges.proofs.Learnt.{Right, not-wrong-right, Learnt, learnt_step}
use Rattle.bridges.proofs.Quiet.{quiet-stays, quiet-holds, Open, quiet-open, AllKnow, quiet-known, given_step, count-lost, count-no-pick}

-- if a bridge knows nothing of the station, or that it is here, it hands it its frame where the station is
hands-over : (lax : Bool) (r : Rules) (v : World) (x : Copy) (k : Where) (d : ℕ) → (k ≡ Unknown) ⊎ (k ≡ Here) → v.home d ≡ x.at → d ≡ x.frame.to → (d ≡ x.frame.from → ⊥) → r.colour d ≡ x.frame.colour → may_hand lax r v x k d ≡ true
hands-over lax r v x Unknown d h e q ne c = grind (arith, nat_tests)
hands-over lax r v x Here d h e q ne c = grind (arith, nat_tests)
hands-over lax r v x (Behind b) d (inl z) e q ne c = absurd (grind arith)
hands-over lax r v x (Behind b) d (inr z) e q ne c = absurd (grind arith)

-- of a tree that hangs together
pub record Whole (n : ℕ) (t : Tree) : Type 0 where
  pub good : looks n t ≡ true
  pub inside : (b : ℕ) → (b < n → t.above b < n) × (n ≤ b → t.above b ≡ b)
  pub top : ℕ
  pub together : (b : ℕ) → b < n → is_in top (top_way n t b) ≡ true

module _ (n : ℕ) (t : Tree) (hw : Whole n t) where
  out : (b : ℕ) → n ≤ b → t.above b ≡ b
  out b = (hw.inside b).1

  top_over : (b h : ℕ) → b < n → h < n → t.above b ≡ b → Under n t b h
  top_over b h lb lh e =
      let ub = way_to_under n t hw.good out hw.top b (hw.together b lb) in
      let uh = way_to_under n t hw.good out hw.top h (hw.together h lh) in
      subst (λ c. Under n t c h) (sym (top_alone n t hw.good b e ub)) uh

  neighbour_below : (b c : ℕ) → b < n → joined t b c ≡ true → c < n
  neighbour_below b c lb j = elim (dec_lt c n) [ yes lt ↦ lt | no ge ↦ absurd (far_off (omega arith)) ]
    where
      far_off : n ≤ c → ⊥
      far_off ge = let o = out c ge in let i = (hw.inside b).0 lb in grind (arith, nat_tests)

  -- the way on to h from b, for a copy that has h ahead
  not_back_lem : (h b c : ℕ) (bs : List ℕ) → Walk t (b ∷ bs) → all_below n (b ∷ bs) ≡ true → reach n (This t) h b bs ≡ true → Leads n t b c h → not_back bs c ≡ true
  not_back_lem h b c [] w g re le = refl
  not_back_lem h b c (a ∷ bs) w g re le = turn a c (λ e. leads-not-back n t hw.good (leads-is n t hw.good a b h (below_2 n b a bs g) (below_1 n b (a ∷ bs) g) (walk_joined w) re) (subst (λ z. Leads n t b z h) e le))
    where
      turn : (a c : ℕ) → (c ≡ a → ⊥) → not (eqb a c) ≡ true
      turn a c h = grind (arith, nat_tests)

  module _ (lax : Bool) (r : Rules) (f d h : ℕ) (lh : h < n) (ld : d < r.stations) (v : World) (open_up : Open n t v.up) (x : Copy) (e : tree_of x.frame.tree v.trees ≡ This t) (w : Walk t (x.at ∷ x.trail))
      (g : all_below n (x.at ∷ x.trail) ≡ true) (ef : x.frame.number ≡ f) (eh : v.home d ≡ h) (et : d ≡ x.frame.to) (nf : d ≡ x.frame.from → ⊥) (ec : r.colour d ≡ x.frame.colour)
      (re : reach n (This t) h x.at x.trail ≡ true) where
    at_below : x.at < n
    at_below = below_1 n x.at x.trail g

    -- a copy to the next bridge on the way has h ahead
    pass_on : (c : ℕ) → c < n → joined t x.at c ≡ true → Leads n t x.at c h → ((joined t x.at c && (v.up x.at c && not_back x.trail c)) ≡ true) × (ahead n f v.trees h (copy_to x c) ≡ true)
    pass_on c lc j le = (
      and_from _ _ j (and_from _ _ (open_up x.at c at_below lc j) (not_back_lem h x.at c x.trail w g re le)),
      and_from _ _ (eq-eqb _ _ ef) (subst (λ u. reach n u h c (x.at ∷ x.trail) ≡ true) (sym e) (is_leads n t hw.good x.at c h at_below lc j le)),
    )

    handed-here : (k : Where) → (k ≡ Unknown) ⊎ (k ≡ Here) → x.at ≡ h → 1 ≤ count (anywhere f d) (handed lax r v x k r.stations)
    handed-here k q ah = subst (λ m. 1 ≤ m) (sym (handed-count (anywhere f d) lax r v x k r.stations)) (below_has r.stations _ d ld (and_from _ _ (hands-over lax r v x k d q (eh ∙ sym ah) et nf ec) (and_from _ _ (eq-eqb _ _ ef) (eq-eqb d d refl))))

    -- handed over, or sent on along the way
    pub still_one : (k : Where) → Right n t h x.at k → 1 ≤ count (ahead n f v.trees h) (toward t v.up x k n) + count (anywhere f d) (handed lax r v x k r.stations)
    unfolding count
    still_one Unknown rk = elim (ℕ_discrete x.at h) [
      | yes q ↦ second _ _ (handed-here Unknown (inl refl) q)
      | no ne ↦ (let c = leads-on n t hw.good x.at h at_below ((hw.inside x.at).0 at_below) ne (top_over x.at h at_below lh) in
          let p = pass_on c.0 c.1 c.2 c.3 in
          first_of _ _ (subst (λ m. 1 ≤ m) (sym (floods-count (ahead n f v.trees h) n t v.up x)) (below_has n _ c.0 c.1 (and_from _ _ p.0 p.1))))
    ]
      where
        second : (a b : ℕ) → 1 ≤ b → 1 ≤ a + b
        second a b h = omega arith

        first_of : (a b : ℕ) → 1 ≤ a → 1 ≤ a + b
        first_of a b h = omega arith
    still_one Here rk = second _ _ (handed-here Here (inr refl) (sym rk))
      where
        second : (a b : ℕ) → 1 ≤ b → 1 ≤ a + b
        second a b h = omega arith
    still_one (Behind c) rk =
        let o = and_parts _ _ (sym (on_way_is n t hw.good out x.at h c) ∙ rk) in
        let lc = neighbour_below x.at c at_below o.0 in
        let p = pass_on c lc o.0 (leads-is n t hw.good x.at c h at_below lc o.0 o.1) in
        first_of _ _ (cond_both (joined t x.at c && (v.up x.at c && not_back x.trail c)) (copy_to x c ∷ []) [] (λ ys. 1 ≤ count (ahead n f v.trees h) ys)
        (λ _. one-there (ahead n f v.trees h (copy_to x c)) p.1) (λ z. absurd (both_ways _ z p.0)))
      where
        first_of : (a b : ℕ) → 1 ≤ a → 1 ≤ a + b
        first_of a b h = omega arith

        one-there : (a : Bool) → a ≡ true → 1 ≤ one a + 0
        one-there a q = let y = one_same a true q in omega arith

abbrev frame_of : Rules → ℕ → ℕ → ℕ → ℕ → Frame
frame_of r f s d n = record { number = f; from = s; to = d; colour = r.colour s; tree = n }

frame-tree : (r : Rules) (f s d n : ℕ) {x : Frame} → x ≡ frame_of r f s d n → x.tree ≡ n
frame-tree r f s d n e = ap (λ y. y.tree) e

-- who is handed a frame to a station that is known
known_only : (lax : Bool) (r : Rules) (v : World) (x : Copy) (k : Where) (s : ℕ) → (k ≡ Unknown → ⊥) → may_hand lax r v x k s ≡ true → s ≡ x.frame.to
known_only lax r v x Unknown s ne h = absurd (ne refl)
known_only lax r v x Here s ne h = grind (arith, nat_tests)
known_only lax r v x (Behind c) s ne h = grind (arith, nat_tests)

-- a frame f from s to d, that is at h, under way along tree t
module _ (lax : Bool) (r : Rules) (t : Tree) (f s d h : ℕ) (hw : Whole r.bridges t) (lh : h < r.bridges) (ld : d < r.stations) (sd : s ≡ d → ⊥) (same-vlan : r.colour s ≡ r.colour d) where
  abbrev total : World → ℕ
  total w = tally lax r f d h (anywhere f d) (tallied f d) w

  record UnderWay (w : World) : Type 0 where
    newest : (b : ℕ) → b < r.bridges → (ns : List ℕ) × (w.holds b ≡ t.number ∷ ns)
    links : Open r.bridges t w.up
    home_is : w.home d ≡ h
    learnt : Learnt r t d w
    frames : (x : Copy) → Memᴰ x w.copies → x.frame.number ≡ f → x.frame ≡ frame_of r f s d t.number
    sent : f < w.next
    at_home : (g : Got) → Memᴰ g w.got → g.frame ≡ f → g.station ≡ d → g.bridge ≡ h
    least : 1 ≤ total w
    most : total w ≤ 1

  some_bridge : 0 < r.bridges
  some_bridge = omega arith

  -- a copy of f is never dropped
  taken : (w : World) (x : Copy) → UnderWay w → Walks r w.trees x → x.frame ≡ frame_of r f s d t.number → Refused w x → ⊥
  taken w x u o e (inl z) = let q = subst (λ m. tree_of m w.trees ≡ NoTree) (frame-tree r f s d t.number e) z in let p = u.learnt.is in grind arith
  taken w x u o e (inr z) = both_ways _ z (subst (λ m. is_in m (w.holds x.at) ≡ true) (sym (frame-tree r f s d t.number e))
      (subst (λ hs. is_in t.number hs ≡ true) (sym hd.1) (first_in t.number hd.0)))
    where
      hd : (ns : List ℕ) × (w.holds x.at ≡ t.number ∷ ns)
      hd = u.newest x.at (below_1 r.bridges x.at x.trail (o.inside some_bridge))

  -- it goes by what is known of d
  knows-right : (w : World) (x : Copy) → UnderWay w → Walks r w.trees x → x.frame ≡ frame_of r f s d t.number → Right r.bridges t h x.at (goes_by lax x (knows w x))
  knows-right w x u o e = subst (Right r.bridges t h x.at) (sym (goes_is lax x (knows w x) (λ q. sd (sym (ap (λ y. y.from) e) ∙ q ∙ ap (λ y. y.to) e))))
      (subst (λ m. Right r.bridges t h x.at (w.learned x.at m x.frame.to)) (sym (frame-tree r f s d t.number e))
      (subst (λ m. Right r.bridges t h x.at (w.learned x.at t.number m)) (sym (ap (λ y. y.to) e))
      (subst (λ b. Right r.bridges t b x.at (w.learned x.at t.number d)) u.home_is (u.learnt.right x.at (below_1 r.bridges x.at x.trail (o.inside some_bridge))))))

  least_forward : (i : ℕ) (w : World) (x : Copy) (v : Tree) → Keeps lax r w → UnderWay w → Pick x i w.copies → tree_of x.frame.tree w.trees ≡ This v → 1 ≤ total (forward lax r x v (with_copies (without i w.copies) w))
  least_forward i w x v k u pk e = go (ahead r.bridges f w.trees h x) refl
    where
      w' : World
      w' = with_copies (without i w.copies) w

      known : Where
      known = goes_by lax x (knows w' x)

      p : Copy → Bool
      p = ahead r.bridges f w.trees h

      o : Walks r w.trees x
      o = k.walks x (pick_mem pk)

      c1 : count p w.copies ≡ one (p x) + count p (without i w.copies)
      c1 = count-pick p x i w.copies pk

      c2 : count p (toward v w.up x known r.bridges ++ without i w.copies) ≡ count p (toward v w.up x known r.bridges) + count p (without i w.copies)
      c2 = count-append p (toward v w.up x known r.bridges) (without i w.copies)

      c3 : count (anywhere f d) (handed lax r w' x known r.stations ++ w.got) ≡ count (anywhere f d) (handed lax r w' x known r.stations) + count (anywhere f d) w.got
      c3 = count-append (anywhere f d) (handed lax r w' x known r.stations) w.got

      idle : (a b c g y z g' q : ℕ) → 1 ≤ a + g → a ≡ q + b → q ≡ 0 → z ≡ c + b → g' ≡ y + g → 1 ≤ z + g'
      idle a b c g y z g' q h1 h2 h3 h4 h5 = omega arith

      moving : (b c g y z g' : ℕ) → 1 ≤ c + y → z ≡ c + b → g' ≡ y + g → 1 ≤ z + g'
      moving b c g y z g' h1 h2 h3 = omega arith

      go : (b : Bool) → p x ≡ b → 1 ≤ total (forward lax r x v w')
      go false q = idle _ _ _ _ _ _ _ _ u.least c1 (one_same (p x) false q) c2 c3
      go true q = moving _ _ _ _ _ _ (subst (λ v'. 1 ≤ count p (toward v' w.up x known r.bridges) + count (anywhere f d) (handed lax r w' x known r.stations)) same_tree
          (still_one r.bridges t hw lax r f d h lh ld w' u.links x is_tree (subst (λ v'. Walk v' (x.at ∷ x.trail)) walk_tree o.walk) (o.inside some_bridge) nf u.home_is
          (sym (ap (λ y. y.to) fe)) (λ z. sd (sym (z ∙ ap (λ y. y.from) fe))) (sym same-vlan ∙ sym (ap (λ y. y.colour) fe)) (subst (λ z. reach r.bridges z h x.at x.trail ≡ true) is_tree (and_parts _ _ q).1) known (knows-right w x u o fe))) c2 c3
        where
          nf : x.frame.number ≡ f
          nf = eqb-true _ _ (and_parts _ _ q).0

          fe : x.frame ≡ frame_of r f s d t.number
          fe = u.frames x (pick_mem pk) nf

          is_tree : tree_of x.frame.tree w.trees ≡ This t
          is_tree = subst (λ m. tree_of m w.trees ≡ This t) (sym (frame-tree r f s d t.number fe)) u.learnt.is

          same_tree : t ≡ v
          same_tree = let a = is_tree in let b = e in cc

          walk_tree : o.t ≡ t
          walk_tree = let a = is_tree in let b = o.is in cc

  least_step : (e : Event) (w : World) → Keeps lax r w → UnderWay w → quiet t f d w e ≡ true → 1 ≤ total (happen lax r e w)
  unfolding send_by count
  least_step (Send a b) w k u q = send_by_lem lax r (λ v. 1 ≤ total v) a b w u.least (λ n ns _ _ _ _. let y = u.least in grows _ _ _ y)
    where
      grows : (a b c : ℕ) → 1 ≤ b + c → 1 ≤ (a + b) + c
      grows a b c h = omega arith
  least_step (Arrive i) w k u q = arrive_by lax r (λ v. 1 ≤ total v) i w.copies (with_copies (without i w.copies) w)
      (λ no_pick. subst (λ m. 1 ≤ m + count (anywhere f d) w.got) (sym (count-no-pick (ahead r.bridges f w.trees h) i w.copies no_pick)) u.least)
      (λ x pk z. other_lost x pk (λ nf. taken w x u (k.walks x (pick_mem pk)) (u.frames x (pick_mem pk) nf) z))
      (λ x v pk e _. least_forward i w x v k u pk e)
    where
      other_lost : (x : Copy) → Pick x i w.copies → (x.frame.number ≡ f → ⊥) → 1 ≤ count (ahead r.bridges f w.trees h) (without i w.copies) + count (anywhere f d) w.got
      other_lost x pk ne = less _ _ _ _ u.least (count-pick (ahead r.bridges f w.trees h) x i w.copies pk) (one_same (ahead r.bridges f w.trees h x) false (and_left (eqb x.frame.number f) (reach r.bridges (tree_of x.frame.tree w.trees) h x.at x.trail) (ne_eqb _ _ ne)))
        where
          less : (a b c g : ℕ) → 1 ≤ a + g → a ≡ c + b → c ≡ 0 → 1 ≤ b + g
          less a b c g h1 h2 h3 = omega arith
  least_step (Lose i) w k u q = subst (λ m. 1 ≤ m + count (anywhere f d) w.got) (sym (count-lost (ahead r.bridges f w.trees h) f i w.copies (λ x z. eqb-true _ _ (and_parts _ _ z).0) (not-true _ q))) u.least
  least_step (Believe a b c) w k u q = u.least
  least_step (Announce v) w k u q = announce_by lax r (λ y. 1 ≤ total y) v w u.least
      (λ e. subst (λ m. 1 ≤ m + count (anywhere f d) w.got) (count_same _ _ w.copies (λ x m. ahead-stays r f h v w.trees e x (k.walks x m))) u.least)
  least_step (Adopt b n) w k u q = adopt_by lax r (λ y. 1 ≤ total y) b n w u.least (λ _ _ _. u.least)
  least_step (Move a b) w k u q = cond_both (not lax || ltb b r.bridges) _ w (λ y. 1 ≤ total y) (λ _. u.least) (λ _. u.least)
  least_step (Forget b n a) w k u q = u.least
  least_step (Crash b) w k u q = u.least
  least_step (Turn b n a ok) w k u q = u.least

  under_way_step : (e : Event) (w : World) → Keeps lax r w → UnderWay w → quiet t f d w e ≡ true → UnderWay (happen lax r e w)
  under_way_step e w k u q = record {
    newest = λ b lb. subst (λ hs. (ns : List ℕ) × (hs b ≡ t.number ∷ ns)) (sym (quiet-holds lax r t f d e w q)) (u.newest b lb);
    links = quiet-open lax r t f d e w q u.links;
    home_is = stays-home lax r d e w (quiet-stays t f d w e q) ∙ u.home_is;
    learnt = learnt_step lax r t d (λ b. (hw.inside b).1) e w k (quiet-stays t f d w e q) u.learnt;
    frames = (carried_step Of (λ _. Unit {0}) lax r (λ _ _ _ _ _ _. tt) e w (λ a b n ns _ _ _ _ _ z. absurd (newer z)) (record { frames = u.frames; given = λ _ _. tt })).frames;
    sent = grown (next_grows lax r e w);
    at_home = given_step lax r (λ g. g.frame ≡ f → g.station ≡ d → g.bridge ≡ h) e w
        (λ x v a _ hv m _ z. sym (may_home lax r v x (goes_by lax x (knows w x)) a m) ∙ ap v.home z ∙ ap (λ y. y d) hv ∙ u.home_is) u.at_home;
    least = least_step e w k u q;
    most = tally-step lax r f d h (anywhere f d) (tallied f d) e w k (λ g p z. sym z ∙ ap w.home ((tallied f d).of-station g p) ∙ u.home_is) u.most;
  }
    where
      Of : Frame → Type 0
      Of y = y.number ≡ f → y ≡ frame_of r f s d t.number

      newer : w.next ≡ f → ⊥
      newer z = let a = u.sent in omega arith

      grown : w.next ≤ (happen lax r e w).next → f < (happen lax r e w).next
      grown z = let a = u.sent in grown_by _ _ _ a z
        where
          grown_by : (a b c : ℕ) → a < b → b ≤ c → a < c
          grown_by a b c p q = omega arith

  -- nobody else gets it, where all know the station
  abbrev ForD : World → Type 0
  ForD w = (g : Got) → Memᴰ g w.got → g.frame ≡ f → g.station ≡ d

  for_d_step : (e : Event) (w : World) → Keeps lax r w → UnderWay w → AllKnow r.bridges t.number d w.learned → ForD w → ForD (happen lax r e w)
  for_d_step e w k u al fd = given_step lax r (λ g. g.frame ≡ f → g.station ≡ d) e w (λ x v a m _ h nf. only x v a m h (u.frames x m nf)) fd
    where
      only : (x : Copy) (v : World) (a : ℕ) → Memᴰ x w.copies → may_hand lax r v x (goes_by lax x (knows w x)) a ≡ true → x.frame ≡ frame_of r f s d t.number → a ≡ d
      only x v a m h e = known_only lax r v x (goes_by lax x (knows w x)) a known h ∙ ap (λ y. y.to) e
        where
          known : goes_by lax x (knows w x) ≡ Unknown → ⊥
          known z = al x.at (below_1 r.bridges x.at x.trail ((k.walks x m).inside some_bridge))
              (subst (λ n. w.learned x.at n d ≡ Unknown) (frame-tree r f s d t.number e) (subst (λ n. w.learned x.at x.frame.tree n ≡ Unknown) (ap (λ y. y.to) e)
              (sym (goes_is lax x (knows w x) (λ q. sd (sym (ap (λ y. y.from) e) ∙ q ∙ ap (λ y. y.to) e))) ∙ z)))

  module _ (es : List Event) (begins : UnderWay (run lax r es)) where
    under_way : (fs : List Event) → quietly lax r t f d es fs ≡ true → UnderWay (run lax r (fs ++ es))
    unfolding quietly run
    under_way [] q = begins
    under_way (e ∷ fs) q = under_way_step e (run lax r (fs ++ es)) (keeps lax r (fs ++ es)) (under_way fs (and_parts _ _ q).1) (and_parts _ _ q).0

    nobody_else : AllKnow r.bridges t.number d (run lax r es).learned → ForD (run lax r es) → (fs : List Event) → quietly lax r t f d es fs ≡ true → remembered t.number d fs ≡ true →
        AllKnow r.bridges t.number d (run lax r (fs ++ es)).learned × ForD (run lax r (fs ++ es))
    unfolding quietly run remembered
    nobody_else al fd [] q m = (al, fd)
    nobody_else al fd (e ∷ fs) q m =
        let ih = nobody_else al fd fs (and_parts _ _ q).1 (and_parts _ _ m).1 in
        (quiet-known lax r t f d e (run lax r (fs ++ es)) (and_parts _ _ q).0 (not-true _ (and_parts _ _ m).0) ih.0, for_d_step e (run lax r (fs ++ es)) (keeps lax r (fs ++ es)) (under_way fs (and_parts _ _ q).1) ih.0 ih.1)

none_of_lem : (f : ℕ) (xs : List Copy) → none_of f xs ≡ true → (x : Copy) → Memᴰ x xs → eqb x.frame.number f ≡ false
unfolding none_of
none_of_lem f [] h x m = absurd (Memᴰ.not-nil m)
none_of_lem f (y ∷ ys) h x m = elim (Memᴰ.cases_cons m) [ inl e ↦ subst (λ z. eqb z.frame.number f ≡ false) (sym e) (not-true _ (and_parts _ _ h).0) | inr m' ↦ none_of_lem f ys (and_parts _ _ h).1 x m' ]

may_send : (a : Bool) (b n m s d : ℕ) → b < n → s < m → d < m → ((a || ltb b n) && (ltb s m && ltb d m)) ≡ true
may_send a b n m s d p q z = grind (arith, nat_tests)

same_count : (f d h a b c : ℕ) → (a ≡ f → b ≡ d → c ≡ h) → (eqb a f && (eqb b d && eqb c h)) ≡ (eqb a f && eqb b d)
same_count f d h a b c z = elim (ℕ_discrete a f) [ yes e1 ↦ elim (ℕ_discrete b d) [ yes e2 ↦ (let e3 = z e1 e2 in grind (arith, nat_tests)) | no n2 ↦ grind (arith, nat_tests) ] | no n1 ↦ grind (arith, nat_tests) ]

not-for : (f d p a b : ℕ) → (p ≡ d → ⊥) → (a ≡ f → b ≡ d) → (eqb a f && eqb b p) ≡ false
not-for f d p a b ne z = elim (ℕ_discrete a f) [ yes e1 ↦ (let e2 = z e1 in grind (arith, nat_tests)) | no n1 ↦ grind (arith, nat_tests) ]

module _ (lax : Bool) (r : Rules) (es : List Event) (t : Tree) (l : looks r.bridges t ≡ true) (rest : Rests r (run lax r es) t) (s d : ℕ) (ls : s < r.stations) (ld : d < r.stations) (sd : s ≡ d → ⊥)
    (same-vlan : r.colour s ≡ r.colour d) (hs : (run lax r es).home s < r.bridges) (hd : (run lax r es).home d < r.bridges)
    (nothing-wrong : (b : ℕ) → b < r.bridges → NotWrong r (run lax r es) t b d ((run lax r es).learned b t.number d))
    (begun : (x : Copy) → Memᴰ x (run lax r es).copies → x.frame.from ≡ d → x.frame.tree ≡ t.number → origin x.at x.trail ≡ (run lax r es).home d) where
  abbrev w0 : World
  w0 = run lax r es

  whole : Whole r.bridges t
  whole = record { good = l; inside = rest.inside; top = rest.top; together = rest.together }

  first_copy : Copy
  first_copy = record { frame = frame_of r w0.next s d t.number; at = w0.home s; trail = [] }

  sent_is : happen lax r (Send s d) w0 ≡ send_by r s d (t.number ∷ (rest.newest (w0.home s) hs).0) w0
  sent_is = ap (λ b. cond b (send_by r s d (w0.holds (w0.home s)) w0) w0) (may_send lax (w0.home s) r.bridges r.stations s d hs ls ld) ∙ ap (λ ns. send_by r s d ns w0) (rest.newest (w0.home s) hs).1

  older : {a : ℕ} → a < w0.next → a ≡ w0.next → ⊥
  older p q = omega arith

  sent_under_way : UnderWay lax r t w0.next s d (w0.home d) whole hd ld sd same-vlan (happen lax r (Send s d) w0)
  unfolding send_by count first_copy
  sent_under_way = subst (UnderWay lax r t w0.next s d (w0.home d) whole hd ld sd same-vlan) (sym sent_is) (record {
    newest = rest.newest;
    links = rest.links;
    home_is = refl;
    learnt = record {
      is = rest.there;
      begun = λ x m. elim (Memᴰ.cases_cons m) [ inl q ↦ (λ e _. absurd (sd (sym (ap (λ y. y.frame.from) q) ∙ e))) | inr m' ↦ begun x m' ];
      right = λ b lb. not-wrong-right r w0 t b d (w0.learned b t.number d) (nothing-wrong b lb);
    };
    frames = λ x m e. elim (Memᴰ.cases_cons m) [ inl q ↦ ap (λ y. y.frame) q | inr m' ↦ absurd (older ((keeps lax r es).fresh x m') e) ];
    sent = one_more w0.next;
    at_home = λ g m e. absurd (older ((keeps lax r es).old g m) e);
    least = counted _ _ _ (and_from _ _ (eq-eqb w0.next w0.next refl) (subst (λ u. reach r.bridges u (w0.home d) (w0.home s) [] ≡ true) (sym rest.there) refl));
    most = subst (λ v. tally lax r w0.next d (w0.home d) (anywhere w0.next d) (tallied w0.next d) v ≤ 1) sent_is
        (tally-step lax r w0.next d (w0.home d) (anywhere w0.next d) (tallied w0.next d) (Send s d) w0 (keeps lax r es) (λ g p z. sym z ∙ ap w0.home ((tallied w0.next d).of-station g p))
        (none (tally-none lax r w0.next d (w0.home d) (anywhere w0.next d) (tallied w0.next d) w0 (keeps lax r es) (itself w0.next))));
  })
    where
      one_more : (n : ℕ) → n < suc n
      one_more n = omega arith

      itself : (n : ℕ) → n ≤ n
      itself n = omega arith

      none : {n : ℕ} → n ≡ 0 → n ≤ 1
      none e = omega arith

      counted : (a : Bool) (b c : ℕ) → a ≡ true → 1 ≤ (one a + b) + c
      counted a b c e = let y = one_same a true e in omega arith

  pub arrives_once : (fs : List Event) → quietly lax r t w0.next d (Send s d ∷ es) fs ≡ true → none_of w0.next (run lax r (fs ++ (Send s d ∷ es))).copies ≡ true →
      (count_got w0.next d (w0.home d) (run lax r (fs ++ (Send s d ∷ es))).got ≡ 1) ×
      (count_all w0.next d (run lax r (fs ++ (Send s d ∷ es))).got ≡ 1) ×
      (((b : ℕ) → b < r.bridges → w0.learned b t.number d ≡ Unknown → ⊥) → remembered t.number d fs ≡ true →
      (q : ℕ) → (q ≡ d → ⊥) → count_all w0.next q (run lax r (fs ++ (Send s d ∷ es))).got ≡ 0)
  unfolding run
  arrives_once fs q none = (count-got f d h end.got ∙ here-all ∙ once, count-all f d end.got ∙ once, nobody)
    where
      f : ℕ
      f = w0.next

      h : ℕ
      h = w0.home d

      end : World
      end = run lax r (fs ++ (Send s d ∷ es))

      u : UnderWay lax r t f s d h whole hd ld sd same-vlan end
      u = under_way lax r t f s d h whole hd ld sd same-vlan (Send s d ∷ es) sent_under_way fs q

      none_left : count (ahead r.bridges f end.trees h) end.copies ≡ 0
      none_left = count_none _ end.copies (λ x m. ap (λ b. b && reach r.bridges (tree_of x.frame.tree end.trees) h x.at x.trail) (none_of_lem f end.copies none x m))

      once : count (anywhere f d) end.got ≡ 1
      once = exactly _ _ u.least u.most none_left
        where
          exactly : (a b : ℕ) → 1 ≤ a + b → a + b ≤ 1 → a ≡ 0 → b ≡ 1
          exactly a b p q z = omega arith

      here-all : count (at_bridge f d h) end.got ≡ count (anywhere f d) end.got
      here-all = count_same _ _ end.got (λ g m. same_count f d h g.frame g.station g.bridge (u.at_home g m))

      nobody : ((b : ℕ) → b < r.bridges → w0.learned b t.number d ≡ Unknown → ⊥) → remembered t.number d fs ≡ true → (q : ℕ) → (q ≡ d → ⊥) → count_all f q end.got ≡ 0
      nobody al rem p ne = count-all f p end.got ∙ count_none _ end.got (λ g m. not-for f d p g.frame g.station ne (all_d.1 g m))
        where
          all_d : AllKnow r.bridges t.number d end.learned × ((g : Got) → Memᴰ g end.got → g.frame ≡ f → g.station ≡ d)
          all_d = nobody_else lax r t f s d h whole hd ld sd same-vlan (Send s d ∷ es) sent_under_way
              (subst (λ v. AllKnow r.bridges t.number d v.learned) (sym sent_is) (unfold send_by in al)) (subst (λ v. (g : Got) → Memᴰ g v.got → g.frame ≡ f → g.station ≡ d) (sym sent_is) (unfold send_by in λ g m e. absurd (older ((keeps lax r es).old g m) e))) fs q rem
