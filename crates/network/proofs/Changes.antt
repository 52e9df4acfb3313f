-- A tree is announced or adopted, a bridge crashes, or comes to believe something of a link.
use Rattle.std.proofs.Common.{◌≡◌, ℕ, ◌<◌, ◌≤◌, Bool, true, false, cond, not, ◌&&◌, eqb, ltb, List, [], ◌∷◌, ◌++◌, length, get_or, set, Some, None, Option, sym, refl, ap, ◌∙◌, subst, inl, inr, arith, get_or-set_other, get_or-set_same}
use mathlib.Core.List.Memᴰ
use native.Mathlib.Decide.{ℕ_discrete, dec_lt}
use lib.Seq.{set_out}
use Rattle.std.proofs.lemmas.Bool.Decides.{nat_tests}
use Rattle.std.proofs.lemmas.Bool.{eq-eqb, ne_eqb, ltb-false}
use Rattle.trees.specs.Tree.{Tree, looks}
use Rattle.bridges.specs.Net.{World, Found, NoTree, This, tree_of, two, announce_if}
use Rattle.bridges.specs.Fabric.{Event, Announce, Adopt, Crash, is_newest, adopt_if}
use Rattle.bridges.proofs.Keeps.{tree-stays}
use Rattle.fdb.specs.Entries.{find}
use Rattle.fdb.specs.Contents.{empty}
use Rattle.ports.specs.declared.port.Port.{Port}
use Rattle.ports.specs.declared.port.Port.TheVariants.{Unused, Access, Trunk}
use Rattle.ports.specs.declared.port.Link.{Link}
use Rattle.ports.specs.Ports.{kind_of, ports_of, none_below}
use Rattle.ports.specs.Places.{Place, Nowhere}
use Rattle.ports.specs.Outward.{serves}
use Rattle.forwarding.specs.State.{State, is_tree, look_in, is_access, link_port, crashed}
use Rattle.forwarding.specs.Replies.{none, may_link, relinked}
use Rattle.network.specs.Network.{Network, rules}
use Rattle.network.specs.Simulation.{tree_in, numbers, where_is, Simulates}
use Rattle.network.proofs.Tests.{by_test}
use Rattle.network.proofs.Onward.{none_beyond}
use Rattle.network.proofs.Worlds.{follow, believes_all, believes_so}
use Rattle.network.proofs.Standing.{with_bridge, View, view, whole, homes_stay}
use Rattle.network.proofs.Learning.{with_tables}

-- a tree is announced: those that are held stay announced
pub announcing : (n : Network) (w : World) (t : Tree) → tree_of t.number n.trees ≡ NoTree → Simulates n w →
    Simulates (record { bridge = n.bridge; plug = n.plug; trees = t ∷ n.trees; flying = n.flying; got = n.got; next = n.next }) (follow (Announce t ∷ []) w)
unfolding follow
announcing n w t e i = subst (λ f. Simulates m (announce_if t f w)) (sym new) (record {
  holds_so = i.holds_so;
  held_so = λ b u lt k. tree-stays t u u.number w.trees new (i.held_so b u lt k);
  learned_so = i.learned_so;
  links_so = i.links_so;
  home_so = i.home_so;
  trees_so = ap (λ ts. t ∷ ts) i.trees_so;
  flying_so = i.flying_so;
  got_so = i.got_so;
  next_so = i.next_so;
})
  where
    m : Network
    m = record { bridge = n.bridge; plug = n.plug; trees = t ∷ n.trees; flying = n.flying; got = n.got; next = n.next }

    new : tree_of t.number w.trees ≡ NoTree
    new = subst (λ ts. tree_of t.number ts ≡ NoTree) i.trees_so e

-- a bridge crashes
pub crashing : (n : Network) (b : ℕ) (s : State) (w : World) → b < 128 → Simulates (with_bridge n b s) w → Simulates (with_bridge n b (crashed s)) (follow (Crash b ∷ []) w)
unfolding follow numbers find
crashing n b s w lt i = whole n b (crashed s) _ (record {
  here = record {
    holds_so = rw (eq-eqb b b refl);
    held_so = λ t m. absurd (Memᴰ.not-nil m);
    learned_so = λ t q. rw (eq-eqb b b refl);
    links_so = v.here.links_so;
  };
  others = λ c l k. record {
    holds_so = rw (ne_eqb c b k) (v.others c l k).holds_so;
    held_so = (v.others c l k).held_so;
    learned_so = λ t q. rw (ne_eqb c b k) ((v.others c l k).learned_so t q);
    links_so = (v.others c l k).links_so;
  };
  home_so = λ q. homes_stay n b s (crashed s) (λ p u. refl) q ∙ v.home_so q;
  trees_so = v.trees_so;
  flying_so = v.flying_so;
  got_so = v.got_so;
  next_so = v.next_so;
})
  where
    v : View n b s w
    v = view n b s w lt i

-- the tree that is adopted comes first, then the one that was the newest
pub adopts_holds : (t : Tree) (newest older : Found) → (none newest ≡ true → none older ≡ true) → numbers ((t ∷ []) ++ tree_in newest) ≡ two (t.number ∷ numbers (tree_in newest ++ tree_in older))
unfolding numbers two
adopts_holds t NoTree NoTree h = refl
adopts_holds t NoTree (This u) h = absurd (let q = h refl in grind arith)
adopts_holds t (This u) NoTree h = refl
adopts_holds t (This u) (This v) h = refl

not-newest : (t : Tree) (newest older : Found) → (none newest ≡ true → none older ≡ true) → is_tree t.number newest ≡ false → is_newest t.number (numbers (tree_in newest ++ tree_in older)) ≡ false
unfolding numbers
not-newest t NoTree NoTree h e = refl
not-newest t NoTree (This u) h e = absurd (let q = h refl in grind arith)
not-newest t (This u) NoTree h e = e
not-newest t (This u) (This v) h e = e

-- along the tree that is adopted nothing is known yet
adopts_place : (e m o : Bool) (p : Place) → (e ≡ true → m ≡ false) → cond e Nowhere (cond m p Nowhere) ≡ cond m p (cond o Nowhere Nowhere)
adopts_place true m o p h = let q = h refl in grind (arith, nat_tests)
adopts_place false m o p h = grind (arith, nat_tests)

same_number : (t : Tree) (n : ℕ) (tree : Found) → is_tree t.number tree ≡ false → eqb t.number n ≡ true → is_tree n tree ≡ false
same_number t n NoTree h e = refl
same_number t n (This u) h e = grind (arith, nat_tests)

-- a bridge adopts a tree, once all is forgotten along the one that it drops
pub adopting : (n : Network) (b : ℕ) (s : State) (t : Tree) (w : World) → b < 128 → (none s.newest.tree ≡ true → none s.older.tree ≡ true) → is_tree t.number s.newest.tree ≡ false →
    tree_of t.number n.trees ≡ This t → looks 128 t ≡ true → Simulates (with_bridge n b (with_tables s s.newest.table empty)) w →
    Simulates (with_bridge n b (record { number = s.number; ports = s.ports; newest = record { tree = This t; table = empty }; older = s.newest })) (follow (Adopt b t.number ∷ []) w)
unfolding follow find
adopting n b s t w lt o d known good i = subst (λ f. Simulates m (adopt_if false rules b t.number f w)) (sym there)
    (rw (good, newer) (whole n b s' _ (record {
      here = record {
        holds_so = rw (eq-eqb b b refl, ← v.here.holds_so) (adopts_holds t s.newest.tree s.older.tree o);
        held_so = λ u k. elim (Memᴰ.append_cases (t ∷ []) k) [
          | inl h ↦ elim (Memᴰ.cases_cons h) [ inl e ↦ subst (λ u. tree_of u.number w.trees ≡ This u) (sym e) there | inr h' ↦ absurd (Memᴰ.not-nil h') ]
          | inr h ↦ v.here.held_so u (Memᴰ.append_left (tree_in s.older.tree) h)
        ];
        learned_so = λ u q. ap (where_is b (n.plug q)) (adopts_place (eqb t.number u) (is_tree u s.newest.tree) (is_tree u s.older.tree) (look_in s.newest q) (same_number t u s.newest.tree d)) ∙ v.here.learned_so u q;
        links_so = v.here.links_so;
      };
      others = λ c l k. record {
        holds_so = rw (ne_eqb c b k) (v.others c l k).holds_so;
        held_so = (v.others c l k).held_so;
        learned_so = (v.others c l k).learned_so;
        links_so = (v.others c l k).links_so;
      };
      home_so = λ q. homes_stay n b s₀ s' (λ p u. refl) q ∙ v.home_so q;
      trees_so = v.trees_so;
      flying_so = v.flying_so;
      got_so = v.got_so;
      next_so = v.next_so;
    })))
  where
    s₀ : State
    s₀ = with_tables s s.newest.table empty

    s' : State
    s' = record { number = s.number; ports = s.ports; newest = record { tree = This t; table = empty }; older = s.newest }

    m : Network
    m = with_bridge n b s'

    v : View n b s₀ w
    v = view n b s₀ w lt i

    there : tree_of t.number w.trees ≡ This t
    there = subst (λ ts. tree_of t.number ts ≡ This t) v.trees_so known

    newer : is_newest t.number (w.holds b) ≡ false
    newer = subst (λ hs. is_newest t.number hs ≡ false) v.here.holds_so (not-newest t s.newest.tree s.older.tree o d)

-- a bridge with other ports
abbrev with_ports : State → List Port → State
with_ports s ps = record { number = s.number; ports = ps; newest = s.newest; older = s.older }

relinked-ports : (v : Bool) (s : State) (ps : List Port) → cond v (with_ports s ps) s ≡ with_ports s (cond v ps s.ports)
relinked-ports true s ps = refl
relinked-ports false s ps = refl

-- a link's port serves no station, before and after
serves-none : (k : Port) (v : ℕ) → is_access k ≡ false → serves (kind_of k) v ≡ false
serves-none Unused v h = refl
serves-none (Access u) v h = absurd (grind arith)
serves-none (Trunk l) v h = refl

not-access : (l : Option Link) → is_access (link_port l) ≡ false
not-access None = refl
not-access (Some l) = refl

link_serves : (ps : List Port) (p : ℕ) (l : Option Link) (i v : ℕ) → is_access (get_or ps p Unused) ≡ false → serves (ports_of (set ps p (link_port l)) i) v ≡ serves (ports_of ps i) v
link_serves ps p l i v h = elim (ℕ_discrete i p) [
  | yes e ↦ subst (λ i. serves (ports_of (set ps p (link_port l)) i) v ≡ serves (ports_of ps i) v) (sym e) (elim (dec_lt p (length ps)) [
    | yes lt ↦ ap (λ k. serves (kind_of k) v) (get_or-set_same ps p (link_port l) Unused lt) ∙ (serves-none (link_port l) v (not-access l) ∙ sym (serves-none (get_or ps p Unused) v h))
    | no ge ↦ ap (λ qs. serves (ports_of qs p) v) (set_out ps p (link_port l) (omega arith))
  ])
  | no k ↦ ap (λ e. serves (kind_of e) v) (get_or-set_other ps p i (link_port l) Unused k)
]

relink_serves : (s : State) (p : ℕ) (l : Option Link) (i v : ℕ) → serves (ports_of (cond (may_link p s) (set s.ports p (link_port l)) s.ports) i) v ≡ serves (ports_of s.ports i) v
relink_serves s p l i v = by_test (may_link p s) (λ e. serves (ports_of (cond e (set s.ports p (link_port l)) s.ports) i) v ≡ serves (ports_of s.ports i) v)
    (λ e. link_serves s.ports p l i v (free (ltb p 16) (is_access (get_or s.ports p Unused)) e)) (λ _. refl)
  where
    free : (a b : Bool) → (a && not b) ≡ true → b ≡ false
    free a b h = grind arith

-- a bridge believes something of its links
believing : (n : Network) (b : ℕ) (s : State) (ps : List Port) (w : World) → b < 128 → ((i v : ℕ) → serves (ports_of ps i) v ≡ serves (ports_of s.ports i) v) → Simulates (with_bridge n b s) w →
    Simulates (with_bridge n b (with_ports s ps)) (follow (believes_all b (λ c. not (none_below (ports_of ps) c 16)) 128) w)
believing n b s ps w lt h i = subst (λ u. Simulates (with_bridge n b (with_ports s ps)) u) (sym (believes_so b (λ c. not (none_below (ports_of ps) c 16)) 128 w)) (whole n b (with_ports s ps) _ (record {
  here = record {
    holds_so = v.here.holds_so;
    held_so = v.here.held_so;
    learned_so = v.here.learned_so;
    links_so = λ c. rw (eq-eqb b b refl) (by_test (ltb c 128) (λ e. not (none_below (ports_of ps) c 16) ≡ cond e (not (none_below (ports_of ps) c 16)) (w.up b c)) (λ _. refl)
        (λ e. beyond c (ltb-false c 128 e)));
  };
  others = λ c l k. record {
    holds_so = (v.others c l k).holds_so;
    held_so = (v.others c l k).held_so;
    learned_so = (v.others c l k).learned_so;
    links_so = λ d. rw (ne_eqb c b k) ((v.others c l k).links_so d);
  };
  home_so = λ q. homes_stay n b s (with_ports s ps) h q ∙ v.home_so q;
  trees_so = v.trees_so;
  flying_so = v.flying_so;
  got_so = v.got_so;
  next_so = v.next_so;
}))
  where
    v : View n b s w
    v = view n b s w lt i

    beyond : (c : ℕ) → 128 ≤ c → not (none_below (ports_of ps) c 16) ≡ w.up b c
    beyond c ge = ap not (none_beyond ps c 16 ge ∙ sym (none_beyond s.ports c 16 ge)) ∙ v.here.links_so c

pub linking : (n : Network) (b p : ℕ) (l : Option Link) (s : State) (w : World) → b < 128 → Simulates (with_bridge n b s) w → (fs : List Event) × Simulates (with_bridge n b (relinked p l s)) (follow fs w)
linking n b p l s w lt i = (
  _,
  subst (λ u. Simulates (with_bridge n b u) (follow (believes_all b (λ c. not (none_below (ports_of (cond (may_link p s) (set s.ports p (link_port l)) s.ports)) c 16)) 128) w))
      (sym (relinked-ports (may_link p s) s (set s.ports p (link_port l)))) (believing n b s (cond (may_link p s) (set s.ports p (link_port l)) s.ports) w lt (relink_serves s p l) i),
)
