-- A bridge handles a frame along a tree: it learns the sender, the frame goes on, stations get it, and who had to go for want of room is forgotten.
use Rattle.std.proofs.Common.{◌≡◌, ℕ, ◌^◌, ◌<◌, ◌≤◌, Bool, true, false, cond, not, ◌&&◌, eqb, List, ◌++◌, sym, refl, ap, ◌∙◌, subst, inl, arith}
use native.Mathlib.Decide.{ℕ_discrete}
use Rattle.std.proofs.lemmas.Bool.Decides.{nat_tests}
use Rattle.std.proofs.lemmas.Bool.{eq-eqb, ne_eqb}
use Rattle.trees.specs.Tree.{Tree}
use Rattle.bridges.specs.Net.{Copy, World, Found, This, came_by, not_back, toward, knows}
use Rattle.bridges.specs.Fabric.{Event, handed, goes_by, forward}
use Rattle.fdb.specs.declared.entry.Entry.{Entry}
use Rattle.fdb.specs.Entries.{put}
use Rattle.fdb.specs.Contents.{Contents, next}
use Rattle.ports.specs.Ports.{ports_of}
use Rattle.ports.specs.Places.{Place, Nowhere, Came, ByPort, ByBridge, sender, place_at, not_to_bridge}
use Rattle.ports.specs.Outward.{out_by}
use Rattle.forwarding.specs.State.{Slot, State, is_tree, look_in, heard_in, goes_out}
use Rattle.forwarding.specs.Replies.{Way, Newest, Older, after, goes}
use Rattle.network.specs.Network.{Network, rules, sent_on, getters, locate, handled}
use Rattle.network.specs.Simulation.{place_in, where_is, home_of, Simulates}
use Rattle.network.proofs.Tests.{by_test}
use Rattle.network.proofs.Tables.{look, look-put, learned-fades, learned-keeps}
use Rattle.network.proofs.Worlds.{follow}
use Rattle.network.proofs.Onward.{none_beyond, sent_so}
use Rattle.network.proofs.Handing.{getters-so}
use Rattle.network.proofs.Standing.{Stands, stands, with_bridge, bridge_same, whole, homes_stay}
use Rattle.network.proofs.Learning.{with_tables, forgetting}

pub place_came : (came : Came) → place_at (locate came) ≡ sender came
place_came (ByPort p) = refl
place_came (ByBridge b) = refl

module _ (n : Network) (w : World) (x : Copy) (t : Tree) (came : Came) (inside : x.at < 128) (i : Simulates n w)
    (back : (c : ℕ) → not_to_bridge came c ≡ not_back x.trail c) (from_so : where_is x.at (n.plug x.frame.from) (sender came) ≡ came_by x.trail) where
  abbrev me : State
  me = n.bridge x.at

  -- the net once copies have gone on and stations have got the frame, by the ports of an answer
  abbrev gone_on : (ℕ → Bool) → Place → Network
  gone_on out k = record {
    bridge = n.bridge;
    plug = n.plug;
    trees = n.trees;
    flying = sent_on out (ports_of me.ports) x 128 ++ n.flying;
    got = getters n out came k x (2 ^ 60) ++ n.got;
    next = n.next;
  }

  -- what is known of the one that it is for, once the sender is learnt
  known_so : (k : Place) → k ≡ cond (eqb x.frame.to x.frame.from) (sender came) (place_in me x.frame.tree x.frame.to) →
      where_is x.at (n.plug x.frame.to) k ≡ goes_by false x (knows w x)
  known_so k e = ap (where_is x.at (n.plug x.frame.to)) e ∙ (elim (ℕ_discrete x.frame.to x.frame.from) [
    | yes h ↦ rw (eq-eqb x.frame.to x.frame.from h, eq-eqb x.frame.from x.frame.to (sym h)) (subst (λ q. where_is x.at (n.plug q) (sender came) ≡ came_by x.trail) (sym h) from_so)
    | no k ↦ rw (ne_eqb x.frame.to x.frame.from k, ne_eqb x.frame.from x.frame.to (λ h. k (sym h))) (i.learned_so x.at x.frame.tree x.frame.to inside)
  ])

  forwarding : (c d : Contents) (k : Place) (out : ℕ → Bool) →
      ((u q : ℕ) → place_in (with_tables me c d) u q ≡ cond (eqb u x.frame.tree && eqb q x.frame.from) (sender came) (place_in me u q)) →
      k ≡ cond (eqb x.frame.to x.frame.from) (sender came) (place_in me x.frame.tree x.frame.to) →
      ((p : ℕ) → out p ≡ out_by (ports_of me.ports) x.at t x.frame.colour came k p) → Simulates (with_bridge (gone_on out k) x.at (with_tables me c d)) (forward false rules x t w)
  forwarding c d k out place known outs = whole (gone_on out k) x.at (with_tables me c d) (forward false rules x t w) (record {
    here = record {
      holds_so = old.holds_so;
      held_so = old.held_so;
      learned_so = λ u q. rw (eq-eqb x.at x.at refl, place u q) (by_test (eqb u x.frame.tree && eqb q x.frame.from)
          (λ v. where_is x.at (n.plug q) (cond v (sender came) (place_in me u q)) ≡ cond v (came_by x.trail) (w.learned x.at u q))
          (λ e. subst (λ q. where_is x.at (n.plug q) (sender came) ≡ came_by x.trail) (sym (same u q e)) from_so) (λ _. old.learned_so u q));
      links_so = old.links_so;
    };
    others = λ e l h. let o = stands n w i e l in
        record { holds_so = o.holds_so; held_so = o.held_so; learned_so = λ u q. rw (ne_eqb e x.at h) (o.learned_so u q); links_so = o.links_so };
    home_so = λ q. homes_stay n x.at me (with_tables me c d) (λ p u. refl) q ∙ (ap (λ m. home_of m q) (bridge_same n x.at) ∙ i.home_so q);
    trees_so = i.trees_so;
    flying_so = λ j. (sent_so (ports_of me.ports) t w.up x x.frame.colour came out back old.links_so beyond k (n.plug x.frame.to) outs ∙
        ap (λ v. toward t w.up x v 128) (known_so k known)) j ++ i.flying_so j;
    got_so = λ j. (getters-so n w x t came out inside i.home_so k outs (2 ^ 60) ∙ ap (λ v. handed false rules w x v (2 ^ 60)) (known_so k known)) j ++ i.got_so j;
    next_so = i.next_so;
  })
    where
      old : Stands n.plug x.at me w
      old = stands n w i x.at inside

      same : (u q : ℕ) → (eqb u x.frame.tree && eqb q x.frame.from) ≡ true → q ≡ x.frame.from
      same u q e = grind (arith, nat_tests)

      beyond : (c : ℕ) → 128 ≤ c → w.up x.at c ≡ false
      beyond c ge = sym (old.links_so c) ∙ ap not (none_beyond me.ports c 16 ge)

-- what was learnt along the newest tree, or along the older one
heard-newest : (m e f : Bool) (s p r : Place) → m ≡ e → cond m (cond f s p) r ≡ cond (e && f) s (cond m p r)
heard-newest true e f s p r h = subst (λ e. cond f s p ≡ cond (e && f) s p) h refl
heard-newest false e f s p r h = subst (λ e. r ≡ cond (e && f) s r) h refl

heard-older : (m o e f : Bool) (s p r : Place) → o ≡ e → (e ≡ true → m ≡ false) → cond m p (cond o (cond f s r) Nowhere) ≡ cond (e && f) s (cond m p (cond o r Nowhere))
heard-older m true true f s p r h k = rw (k refl) refl
heard-older m true false f s p r h k = absurd (grind arith)
heard-older m false true f s p r h k = absurd (grind arith)
heard-older m false false f s p r h k = refl

pub is_tree_lem : (u : ℕ) (tree : Found) (t : Tree) → tree ≡ This t → is_tree u tree ≡ eqb u t.number
is_tree_lem u tree t h = subst (λ f. is_tree u f ≡ eqb u t.number) (sym h) (flip t.number u)
  where
    flip : (a b : ℕ) → eqb a b ≡ eqb b a
    flip a b = grind (arith, nat_tests)

-- what a bridge knows once it has noted whence a sender's frame came, before anybody goes for want of room
module _ (from to tick : ℕ) (came : Came) where
  abbrev pub entry : Slot → Entry
  entry slot = record { station = from; location = locate came; tick = tick; order = slot.table.heard }

  abbrev pub noted : Slot → Contents
  noted slot = record { entries = put (entry slot) slot.table.entries; heard = next slot.table.heard }

  noted-look : (slot : Slot) (q : ℕ) → look (put (entry slot) slot.table.entries) q ≡ cond (eqb q from) (sender came) (look_in slot q)
  noted-look slot q = look-put (entry slot) slot.table.entries q ∙ ap (λ p. cond (eqb q from) p (look_in slot q)) (place_came came)

  heard-look : (slot : Slot) → look_in (heard_in (locate came) from to tick slot) to ≡ cond (eqb to from) (sender came) (look_in slot to)
  heard-look slot = learned-keeps (entry slot) to slot.table.entries ∙ ap (λ p. cond (eqb to from) p (look_in slot to)) (place_came came)

  -- along its newest tree, and along its older one
  pub noted-newest : (s : State) (tree : ℕ) → ((u : ℕ) → is_tree u s.newest.tree ≡ eqb u tree) →
      (u q : ℕ) → place_in (with_tables s (noted s.newest) s.older.table) u q ≡ cond (eqb u tree && eqb q from) (sender came) (place_in s u q)
  noted-newest s tree h u q = ap (λ p. cond (is_tree u s.newest.tree) p (cond (is_tree u s.older.tree) (look_in s.older q) Nowhere)) (noted-look s.newest q) ∙
      heard-newest (is_tree u s.newest.tree) (eqb u tree) (eqb q from) (sender came) (look_in s.newest q) (cond (is_tree u s.older.tree) (look_in s.older q) Nowhere) (h u)

  pub noted-older : (s : State) (tree : ℕ) → ((u : ℕ) → is_tree u s.older.tree ≡ eqb u tree) → is_tree tree s.newest.tree ≡ false →
      (u q : ℕ) → place_in (with_tables s s.newest.table (noted s.older)) u q ≡ cond (eqb u tree && eqb q from) (sender came) (place_in s u q)
  noted-older s tree h d u q = ap (λ p. cond (is_tree u s.newest.tree) (look_in s.newest q) (cond (is_tree u s.older.tree) p Nowhere)) (noted-look s.older q) ∙
      heard-older (is_tree u s.newest.tree) (is_tree u s.older.tree) (eqb u tree) (eqb q from) (sender came) (look_in s.newest q) (look_in s.older q) (h u) other
    where
      other : eqb u tree ≡ true → is_tree u s.newest.tree ≡ false
      other e = let q : u ≡ tree = grind (arith, nat_tests) in subst (λ v. is_tree v s.newest.tree ≡ false) (sym q) d

module _ (n : Network) (w : World) (x : Copy) (t : Tree) (came : Came) (tick : ℕ) (inside : x.at < 128) (i : Simulates n w) (numbered : (n.bridge x.at).number ≡ x.at) (along : t.number ≡ x.frame.tree)
    (back : (c : ℕ) → not_to_bridge came c ≡ not_back x.trail c) (from_so : where_is x.at (n.plug x.frame.from) (sender came) ≡ came_by x.trail) where
  abbrev bridge : State
  bridge = n.bridge x.at

  is_its : (u : ℕ) (tree : Found) → tree ≡ This t → is_tree u tree ≡ eqb u x.frame.tree
  is_its u tree h = is_tree_lem u tree t h ∙ ap (eqb u) along

  its : (tree : Found) → tree ≡ This t → is_tree x.frame.tree tree ≡ true
  its tree h = is_its x.frame.tree tree h ∙ eq-eqb x.frame.tree x.frame.tree refl

  outs : (tree : Found) → tree ≡ This t → (k : Place) (p : ℕ) →
      goes_out (ports_of bridge.ports) bridge.number tree x.frame.colour came k p ≡ out_by (ports_of bridge.ports) x.at t x.frame.colour came k p
  outs tree h k p = ap (λ f. goes_out (ports_of bridge.ports) bridge.number f x.frame.colour came k p) h ∙ ap (λ b. out_by (ports_of bridge.ports) b t x.frame.colour came k p) numbered

  abbrev out : Way → ℕ → Bool
  out way = goes way (after way (locate came) x.frame.from x.frame.to tick bridge) x.frame.colour came x.frame.to

  abbrev heard : Slot → Slot
  heard slot = heard_in (locate came) x.frame.from x.frame.to tick slot

  abbrev note : Slot → Contents
  note slot = noted x.frame.from x.frame.to tick came slot

  -- along the newest tree
  pub along_newest : bridge.newest.tree ≡ This t → (fs : List Event) × Simulates (handled n Newest came x tick n.flying n.next) (follow fs (forward false rules x t w))
  along_newest h = forgetting (gone_on n w x t came inside i back from_so (out Newest) (look_in (heard bridge.newest) x.frame.to)) x.at (with_tables bridge (note bridge.newest) bridge.older.table) (heard bridge.newest).table bridge.older.table
      (forward false rules x t w) inside (λ q. learned-fades (entry x.frame.from x.frame.to tick came bridge.newest) x.frame.to bridge.newest.table.entries q) (λ q. inl refl)
      (forwarding n w x t came inside i back from_so (note bridge.newest) bridge.older.table (look_in (heard bridge.newest) x.frame.to) (out Newest)
      (noted-newest x.frame.from x.frame.to tick came bridge x.frame.tree (λ u. is_its u bridge.newest.tree h))
      (heard-look x.frame.from x.frame.to tick came bridge.newest ∙ rw (its bridge.newest.tree h))
      (outs bridge.newest.tree h (look_in (heard bridge.newest) x.frame.to)))

  -- along the older one
  pub along_older : is_tree x.frame.tree bridge.newest.tree ≡ false → bridge.older.tree ≡ This t → (fs : List Event) × Simulates (handled n Older came x tick n.flying n.next) (follow fs (forward false rules x t w))
  along_older d h = forgetting (gone_on n w x t came inside i back from_so (out Older) (look_in (heard bridge.older) x.frame.to)) x.at (with_tables bridge bridge.newest.table (note bridge.older)) bridge.newest.table (heard bridge.older).table
      (forward false rules x t w) inside (λ q. inl refl) (λ q. learned-fades (entry x.frame.from x.frame.to tick came bridge.older) x.frame.to bridge.older.table.entries q)
      (forwarding n w x t came inside i back from_so bridge.newest.table (note bridge.older) (look_in (heard bridge.older) x.frame.to) (out Older)
      (noted-older x.frame.from x.frame.to tick came bridge x.frame.tree (λ u. is_its u bridge.older.tree h) d)
      (heard-look x.frame.from x.frame.to tick came bridge.older ∙ rw (d, its bridge.older.tree h))
      (outs bridge.older.tree h (look_in (heard bridge.older) x.frame.to)))
