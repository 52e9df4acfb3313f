-- A station sends a frame, and a copy arrives.
use Rattle.std.proofs.Common.{◌≡◌, ℕ, zero, suc, ◌^◌, ◌<◌, true, false, ◌||◌, List, [], ◌∷◌, ◌++◌, sym, refl, ap, ◌∙◌, subst, arith}
use mathlib.Core.List.Memᴰ
use mathlib.Core.List.{Memᴰ}
use Rattle.std.proofs.lemmas.Bool.Decides.{nat_tests}
use Rattle.std.proofs.lemmas.Bool.{eq-eqb, lt-ltb, or_left, or_right, or_from, cond_both}
use Rattle.trees.specs.Tree.{Tree, is_in}
use Rattle.bridges.specs.Net.{Copy, World, Found, NoTree, This, tree_of, came_by, not_back, without, with_copies, send_by}
use Rattle.bridges.specs.Fabric.{Event, Send, Arrive, happen, forward, receive, arrives}
use Rattle.ports.specs.Ports.{ports_of}
use Rattle.ports.specs.Places.{Came, ByPort, ByBridge, sender, not_to_bridge}
use Rattle.forwarding.specs.State.{is_tree}
use Rattle.forwarding.specs.declared.fault.Fault.{Fault}
use Rattle.forwarding.specs.declared.fault.Fault.TheVariants as fault
use Rattle.forwarding.specs.Replies.{Way, Refuse, Newest, Older, none, after, goes}
use Rattle.network.specs.Network.{Network, rules, vlan_of, is_here, handled, known_on, locate, track_of, came_from, first_copy, number_of_newest, One, pick}
use Rattle.network.specs.Simulation.{tree_in, numbers, where_is, Simulates}
use Rattle.network.proofs.Worlds.{follow, follow-append}
use Rattle.network.proofs.Onward.{sent_refused}
use Rattle.network.proofs.Handing.{none_get, getters-same}
use Rattle.network.proofs.Standing.{bridge_same}
use Rattle.network.proofs.Frames.{along_newest, along_older}
use Rattle.network.proofs.Steady.{Flies, Steady}

-- the copy at a place
arrives-pick : (i : ℕ) (xs : List Copy) (x : Copy) (w : World) → pick i xs ≡ One x → arrives false rules i xs w ≡ receive false rules x (tree_of x.frame.tree w.trees) w
unfolding arrives pick
arrives-pick zero [] x w e = absurd (grind arith)
arrives-pick (suc i) [] x w e = absurd (grind arith)
arrives-pick zero (y ∷ ys) x w e = let q : y ≡ x = cc in subst (λ z. receive false rules y (tree_of y.frame.tree w.trees) w ≡ receive false rules z (tree_of z.frame.tree w.trees) w) q refl
arrives-pick (suc i) (y ∷ ys) x w e = arrives-pick i ys x w e

pub pick_mem : (i : ℕ) (xs : List Copy) (x : Copy) → pick i xs ≡ One x → Memᴰ x xs
unfolding pick
pick_mem zero [] x e = absurd (grind arith)
pick_mem (suc i) [] x e = absurd (grind arith)
pick_mem zero (y ∷ ys) x e = let q : x ≡ y = cc in Memᴰ.head q
pick_mem (suc i) (y ∷ ys) x e = Memᴰ.tail (pick_mem i ys x e)

-- a bridge holds the trees of its two slots
pub holds_either : (u : ℕ) (newest older : Found) → is_in u (numbers (tree_in newest ++ tree_in older)) ≡ (is_tree u newest || is_tree u older)
unfolding numbers is_in
holds_either u NoTree NoTree = refl
holds_either u NoTree (This t) = grind (arith, nat_tests)
holds_either u (This t) NoTree = grind (arith, nat_tests)
holds_either u (This t) (This v) = grind (arith, nat_tests)

pub tree_of_lem : (u : ℕ) (tree : Found) → is_tree u tree ≡ true → (t : Tree) × (tree ≡ This t) × (t.number ≡ u)
tree_of_lem u NoTree e = absurd (grind arith)
tree_of_lem u (This t) e = let q : t.number ≡ u = grind (arith, nat_tests) in (t, refl, q)

pub has_tree : (tree : Found) → none tree ≡ false → (t : Tree) × (tree ≡ This t)
has_tree NoTree e = absurd (grind arith)
has_tree (This t) e = (t, refl)

-- what is held is announced
announced_newest : (n : Network) (w : World) (b : ℕ) (t : Tree) → b < 128 → Simulates n w → (n.bridge b).newest.tree ≡ This t → tree_of t.number w.trees ≡ This t
announced_newest n w b t lt i e = i.held_so b t lt (Memᴰ.append_left (tree_in (n.bridge b).older.tree) (subst (λ f. Memᴰ t (tree_in f)) (sym e) (Memᴰ.head refl)))

announced_older : (n : Network) (w : World) (b : ℕ) (t : Tree) → b < 128 → Simulates n w → (n.bridge b).older.tree ≡ This t → tree_of t.number w.trees ≡ This t
announced_older n w b t lt i e = i.held_so b t lt (Memᴰ.append_right (tree_in (n.bridge b).newest.tree) (subst (λ f. Memᴰ t (tree_in f)) (sym e) (Memᴰ.head refl)))

-- whence it came, in the words of both nets
back_so : (trail : List ℕ) (c : ℕ) → not_to_bridge (came_from trail) c ≡ not_back trail c
back_so [] c = refl
back_so (b ∷ bs) c = refl

receive-held : (x : Copy) (t : Tree) (w : World) → tree_of x.frame.tree w.trees ≡ This t → is_in x.frame.tree (w.holds x.at) ≡ true →
    receive false rules x (tree_of x.frame.tree w.trees) w ≡ forward false rules x t w
receive-held x t w e h = subst (λ f. receive false rules x f w ≡ forward false rules x t w) (sym e) (rw h refl)

receive-refused : (x : Copy) (f : Found) (w : World) → is_in x.frame.tree (w.holds x.at) ≡ false → receive false rules x f w ≡ w
receive-refused x NoTree w h = refl
receive-refused x (This t) w h = rw h refl

-- a net with other copies under way
abbrev with_flying : List Copy → ℕ → Network → Network
with_flying flying next n = record { bridge = n.bridge; plug = n.plug; trees = n.trees; flying = flying; got = n.got; next = next }

handled-same : (n : Network) (way : Way) (came : Came) (x : Copy) (tick : ℕ) (flying : List Copy) (next : ℕ) → handled (with_flying flying next n) way came x tick flying next ≡ handled n way came x tick flying next
handled-same n way came x tick flying next = λ j. record {
  bridge = m.bridge;
  plug = m.plug;
  trees = m.trees;
  flying = m.flying;
  got = getters-same n flying next (goes way (after way (locate came) x.frame.from x.frame.to tick (n.bridge x.at)) x.frame.colour came x.frame.to) came
      (known_on way (after way (locate came) x.frame.from x.frame.to tick (n.bridge x.at)) x.frame.to) x (2 ^ 60) j ++ n.got;
  next = next;
}
  where
    m : Network
    m = handled n way came x tick flying next

-- what a bridge refuses changes nothing
refused : (n : Network) (f : Fault) (b : ℕ) (x : Copy) (tick : ℕ) (flying : List Copy) (next : ℕ) → handled n (Refuse f) (ByBridge b) x tick flying next ≡ with_flying flying next n
refused n f b x tick flying next = λ j. record {
  bridge = (bridge_same n x.at j).bridge;
  plug = n.plug;
  trees = n.trees;
  flying = sent_refused (goes (Refuse f) (n.bridge x.at) x.frame.colour (ByBridge b) x.frame.to) (ports_of (n.bridge x.at).ports) x (λ p. refl) 128 j ++ flying;
  got = none_get n x b (goes (Refuse f) (n.bridge x.at) x.frame.colour (ByBridge b) x.frame.to) (λ p. refl) (2 ^ 60) j ++ n.got;
  next = next;
}

-- a copy arrives
module _ (n : Network) (w : World) (j tick : ℕ) (x : Copy) (i : Simulates n w) (k : Steady n) (e : pick j n.flying ≡ One x) where
  fl : Flies x
  fl = k.flies x (pick_mem j n.flying x e)

  abbrev n₀ : Network
  n₀ = with_flying (without j n.flying) n.next n

  abbrev w₀ : World
  w₀ = with_copies (without j w.copies) w

  i₀ : Simulates n₀ w₀
  i₀ = record {
    holds_so = i.holds_so;
    held_so = i.held_so;
    learned_so = i.learned_so;
    links_so = i.links_so;
    home_so = i.home_so;
    trees_so = i.trees_so;
    flying_so = ap (without j) i.flying_so;
    got_so = i.got_so;
    next_so = i.next_so;
  }

  arrive_so : happen false rules (Arrive j) w ≡ receive false rules x (tree_of x.frame.tree w.trees) w₀
  arrive_so = arrives-pick j w.copies x w₀ (subst (λ ys. pick j ys ≡ One x) i.flying_so e)

  held_so : is_in x.frame.tree (w.holds x.at) ≡ (is_tree x.frame.tree (n.bridge x.at).newest.tree || is_tree x.frame.tree (n.bridge x.at).older.tree)
  held_so = ap (is_in x.frame.tree) (sym (i.holds_so x.at fl.inside)) ∙ holds_either x.frame.tree (n.bridge x.at).newest.tree (n.bridge x.at).older.tree

  from_so : where_is x.at (n.plug x.frame.from) (sender (came_from x.trail)) ≡ came_by x.trail
  from_so = subst (λ bs. where_is x.at (n.plug x.frame.from) (sender (came_from bs)) ≡ came_by bs) (sym fl.is) refl

  abbrev ComesTo : Way → Type 0
  ComesTo way = (fs : List Event) × Simulates (handled n way (came_from x.trail) x tick (without j n.flying) n.next) (follow fs w)

  -- it is handled along a tree
  taken : (way : Way) (t : Tree) → tree_of x.frame.tree w.trees ≡ This t → is_in x.frame.tree (w.holds x.at) ≡ true →
      (fs : List Event) × Simulates (handled n₀ way (came_from x.trail) x tick n₀.flying n₀.next) (follow fs (forward false rules x t w₀)) → ComesTo way
  unfolding follow
  taken way t known held s = (
    s.0 ++ (Arrive j ∷ []),
    subst (λ u. Simulates (handled n way (came_from x.trail) x tick (without j n.flying) n.next) u)
        (sym (follow-append s.0 (Arrive j ∷ []) w ∙ ap (follow s.0) (arrive_so ∙ receive-held x t w₀ known held)))
        (subst (λ m. Simulates m (follow s.0 (forward false rules x t w₀))) (handled-same n way (came_from x.trail) x tick (without j n.flying) n.next) s.1),
  )

  -- it is refused
  dropped : (f : Fault) → is_in x.frame.tree (w.holds x.at) ≡ false → ComesTo (Refuse f)
  unfolding follow
  dropped f h = (
    Arrive j ∷ [],
    subst (λ u. Simulates (handled n (Refuse f) (came_from x.trail) x tick (without j n.flying) n.next) u)
        (sym (arrive_so ∙ receive-refused x (tree_of x.frame.tree w.trees) w₀ h))
        (subst (λ bs. Simulates (handled n (Refuse f) (came_from bs) x tick (without j n.flying) n.next) w₀) (sym fl.is)
        (subst (λ m. Simulates m w₀) (sym (refused n f fl.last x tick (without j n.flying) n.next)) i₀)),
  )

  pub coming : ComesTo (track_of (n.bridge x.at) x.frame.tree)
  coming = cond_both (none (n.bridge x.at).newest.tree) _ _ ComesTo (λ h. dropped fault.NoTree (held_so ∙ nothing (n.bridge x.at).newest.tree (n.bridge x.at).older.tree h ((k.kept x.at).older-last h)))
      (λ _. cond_both (is_tree x.frame.tree (n.bridge x.at).newest.tree) _ _ ComesTo (λ h. newest h (tree_of_lem x.frame.tree (n.bridge x.at).newest.tree h))
      (λ d. cond_both (is_tree x.frame.tree (n.bridge x.at).older.tree) _ _ ComesTo (λ h. older d h (tree_of_lem x.frame.tree (n.bridge x.at).older.tree h))
      (λ h. dropped fault.UnknownTree (held_so ∙ or_from _ _ d h))))
    where
      nothing : (a b : Found) → none a ≡ true → none b ≡ true → (is_tree x.frame.tree a || is_tree x.frame.tree b) ≡ false
      nothing NoTree NoTree h o = refl
      nothing NoTree (This t) h o = absurd (grind arith)
      nothing (This t) b h o = absurd (grind arith)

      newest : is_tree x.frame.tree (n.bridge x.at).newest.tree ≡ true → (t : Tree) × ((n.bridge x.at).newest.tree ≡ This t) × (t.number ≡ x.frame.tree) → ComesTo Newest
      newest h a = taken Newest a.0 (subst (λ u. tree_of u w.trees ≡ This a.0) a.2 (announced_newest n w x.at a.0 fl.inside i a.1)) (held_so ∙ or_left _ _ h)
          (along_newest n₀ w₀ x a.0 (came_from x.trail) tick fl.inside i₀ (k.kept x.at).numbered a.2 (back_so x.trail) from_so a.1)

      older : is_tree x.frame.tree (n.bridge x.at).newest.tree ≡ false → is_tree x.frame.tree (n.bridge x.at).older.tree ≡ true → (t : Tree) × ((n.bridge x.at).older.tree ≡ This t) × (t.number ≡ x.frame.tree) → ComesTo Older
      older d h a = taken Older a.0 (subst (λ u. tree_of u w.trees ≡ This a.0) a.2 (announced_older n w x.at a.0 fl.inside i a.1)) (held_so ∙ or_right _ _ h)
          (along_older n₀ w₀ x a.0 (came_from x.trail) tick fl.inside i₀ (k.kept x.at).numbered a.2 (back_so x.trail) from_so d a.1)

-- a station's frame is a new copy at its bridge
abbrev first_of : World → ℕ → ℕ → ℕ → ℕ → Copy
first_of w q to b t = record { frame = record { number = w.next; from = q; to = to; colour = vlan_of q; tree = t }; at = b; trail = [] }

abbrev with_new : Copy → World → World
with_new x w = record { home = w.home; up = w.up; trees = w.trees; holds = w.holds; learned = w.learned; copies = x ∷ w.copies; got = w.got; next = suc w.next }

send_made : (w : World) (q to b t : ℕ) (ns : List ℕ) → w.home q ≡ b → b < 128 → q < 2 ^ 60 → to < 2 ^ 60 → w.holds b ≡ t ∷ ns → happen false rules (Send q to) w ≡ with_new (first_of w q to b t) w
unfolding send_by
send_made w q to b t ns home lb lq lto holds = rw (home, lt-ltb b 128 lb, lt-ltb q (2 ^ 60) lq, lt-ltb to (2 ^ 60) lto, holds)
    (ap (λ c. with_new (first_of w q to c t) w) home)

module _ (n : Network) (w : World) (q to tick : ℕ) (i : Simulates n w) (k : Steady n) (inside : (n.plug q).bridge < 128) (here : is_here n (n.plug q).bridge q ≡ true) (lq : q < 2 ^ 60) (lto : to < 2 ^ 60)
    (t : Tree) (its : (n.bridge (n.plug q).bridge).newest.tree ≡ This t) where
  abbrev b : ℕ
  b = (n.plug q).bridge

  abbrev x : Copy
  x = first_copy n b q to

  abbrev n₁ : Network
  n₁ = with_flying n.flying (suc n.next) n

  abbrev w₁ : World
  w₁ = record { home = w.home; up = w.up; trees = w.trees; holds = w.holds; learned = w.learned; copies = w.copies; got = w.got; next = suc w.next }

  i₁ : Simulates n₁ w₁
  i₁ = record {
    holds_so = i.holds_so;
    held_so = i.held_so;
    learned_so = i.learned_so;
    links_so = i.links_so;
    home_so = i.home_so;
    trees_so = i.trees_so;
    flying_so = i.flying_so;
    got_so = i.got_so;
    next_so = ap suc i.next_so;
  }

  home_so : w.home q ≡ b
  home_so = sym (i.home_so q) ∙ rw (lt-ltb b 128 inside, here)

  along_it : t.number ≡ x.frame.tree
  along_it = sym (ap number_of_newest its)

  its_first : (tree : Found) → tree ≡ This t → (older : Found) → numbers (tree_in tree ++ tree_in older) ≡ t.number ∷ numbers (tree_in older)
  unfolding numbers
  its_first tree h older = subst (λ f. numbers (tree_in f ++ tree_in older) ≡ t.number ∷ numbers (tree_in older)) (sym h) refl

  holds_so : w.holds b ≡ t.number ∷ numbers (tree_in (n.bridge b).older.tree)
  holds_so = sym (i.holds_so b inside) ∙ its_first (n.bridge b).newest.tree its (n.bridge b).older.tree

  number_so : w.next ≡ n.next
  number_so = sym i.next_so

  sent : happen false rules (Send q to) w ≡ with_new x w
  sent = send_made w q to b t.number (numbers (tree_in (n.bridge b).older.tree)) home_so inside lq lto holds_so ∙
      (λ j. with_new (record { frame = record { number = number_so j; from = q; to = to; colour = vlan_of q; tree = along_it j }; at = b; trail = [] }) w)

  known : tree_of x.frame.tree w.trees ≡ This t
  known = subst (λ u. tree_of u w.trees ≡ This t) along_it (announced_newest n w b t inside i its)

  held : is_in x.frame.tree (w.holds b) ≡ true
  unfolding is_in
  held = rw holds_so (or_left _ _ (eq-eqb t.number x.frame.tree along_it))

  arrived : happen false rules (Arrive 0) (with_new x w) ≡ forward false rules x t w₁
  unfolding arrives without
  arrived = receive-held x t w₁ known held

  pub sending : (fs : List Event) × Simulates (handled n Newest (ByPort (n.plug q).port) x tick n.flying (suc n.next)) (follow fs w)
  unfolding follow
  sending = (
    s.0 ++ (Arrive 0 ∷ Send q to ∷ []),
    subst (λ u. Simulates (handled n Newest (ByPort (n.plug q).port) x tick n.flying (suc n.next)) u)
        (sym (follow-append s.0 (Arrive 0 ∷ Send q to ∷ []) w ∙ ap (follow s.0) (ap (happen false rules (Arrive 0)) sent ∙ arrived)))
        (subst (λ m. Simulates m (follow s.0 (forward false rules x t w₁))) (handled-same n Newest (ByPort (n.plug q).port) x tick n.flying (suc n.next)) s.1),
  )
    where
      s : (fs : List Event) × Simulates (handled n₁ Newest (ByPort (n.plug q).port) x tick n₁.flying n₁.next) (follow fs (forward false rules x t w₁))
      s = along_newest n₁ w₁ x t (ByPort (n.plug q).port) tick inside i₁ (k.kept b).numbered along_it (λ c. refl) (rw (eq-eqb b b refl, eq-eqb (n.plug q).port (n.plug q).port refl)) its
