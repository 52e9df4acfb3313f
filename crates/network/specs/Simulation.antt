-- That a net of bridges that do what the code's contracts say is a run of the net of the promise. Assumes nothing.
use Rattle.std.specs.Prelude.{◌≡◌, ℕ, ◌<◌, ◌≤◌, true, false, cond, not, ◌&&◌, List, [], ◌∷◌, ◌++◌, ◌==◌, nat_lt}
use mathlib.Core.List.{Memᴰ}
use Rattle.trees.specs.Tree.{Tree, different}
use Rattle.bridges.specs.Net.{Copy, Where, Unknown, Here, Behind, Got, World, Found, NoTree, This, tree_of}
use Rattle.bridges.specs.Promise.{count_got}
use Rattle.bridges.specs.Fabric.{Event, run}
use Rattle.bridges.specs.Guarantee.{Assured}
use Rattle.ports.specs.declared.port.Port.{Port}
use Rattle.ports.specs.Ports.{ports_of, none_below}
use Rattle.ports.specs.Places.{Place, Nowhere, AtPort, Toward}
use Rattle.forwarding.specs.State.{State, is_tree, look_in}
use Rattle.network.specs.Network.{Network, Plug, rules, vlan_of, is_here, Steps, Reached}

-- the trees that a bridge holds, the newest first
abbrev pub tree_in : Found → List Tree
tree_in NoTree = []
tree_in (This t) = t ∷ []

abbrev pub held_by : State → List Tree
held_by s = tree_in s.newest.tree ++ tree_in s.older.tree

unfoldable pub numbers : List Tree → List ℕ
numbers [] = []
numbers (t ∷ ts) = t.number ∷ numbers ts

-- where a bridge knows a station to be, along the tree with a number
abbrev pub place_in : State → ℕ → ℕ → Place
place_in s n q = cond (is_tree n s.newest.tree) (look_in s.newest q) (cond (is_tree n s.older.tree) (look_in s.older q) Nowhere)

-- the same in the words of the net: at a port is here, if that is where the station is plugged in, and else a dead end
abbrev pub where_is : ℕ → Plug → Place → Where
where_is b w Nowhere = Unknown
where_is b w (AtPort i) = cond (w.bridge == b && w.port == i) Here (Behind b)
where_is b w (Toward c) = Behind c

-- the bridge at which a station is: none if it isn't plugged into a port of its VLAN
abbrev pub home_of : Network → ℕ → ℕ
home_of n q = cond (nat_lt (n.plug q).bridge 128 && is_here n (n.plug q).bridge q) (n.plug q).bridge 128

-- a net stands for a world: bridges hold, have learnt and believe the same, stations are at the same bridges, and the same copies are under way and the same were got
pub record Simulates (n : Network) (w : World) : Type 0 where
  pub holds_so : (b : ℕ) → b < 128 → numbers (held_by (n.bridge b)) ≡ w.holds b
  pub held_so : (b : ℕ) (t : Tree) → b < 128 → Memᴰ t (held_by (n.bridge b)) → tree_of t.number w.trees ≡ This t
  pub learned_so : (b t q : ℕ) → b < 128 → where_is b (n.plug q) (place_in (n.bridge b) t q) ≡ w.learned b t q
  pub links_so : (b c : ℕ) → b < 128 → not (none_below (ports_of (n.bridge b).ports) c 16) ≡ w.up b c
  pub home_so : (q : ℕ) → home_of n q ≡ w.home q
  pub trees_so : n.trees ≡ w.trees
  pub flying_so : n.flying ≡ w.copies
  pub got_so : n.got ≡ w.got
  pub next_so : n.next ≡ w.next

-- Whatever a net of bridges comes to, by whatever happens to it, is a world of the net of the promise; so all that is promised there holds of it.
abbrev pub RunsAsNet : Type 0
RunsAsNet = (ports : ℕ → List Port) (n : Network) → Reached ports n → (es : List Event) × Simulates n (run false rules es) × Assured false rules es

-- And it goes on as that world does: whatever happens to the net next is some events more.
abbrev pub GoesOnAsNet : Type 0
GoesOnAsNet =
    (ports : ℕ → List Port) (n m : Network) → Reached ports n → Steps n m →
    (es : List Event) → Simulates n (run false rules es) → (fs : List Event) × Simulates m (run false rules (fs ++ es))

-- In the net's own words, of all that bridges and stations can come to: no copy is where it was, no bridge hands a frame to a station twice, and nobody gets a frame of another VLAN.
pub record Safe (n : Network) : Type 0 where
  pub no_round : (x : Copy) → Memᴰ x n.flying → different (x.at ∷ x.trail) ≡ true
  pub not_twice : (f s b : ℕ) → count_got f s b n.got ≤ 1
  pub own_vlan : (f : ℕ) (g h : Got) → Memᴰ g n.got → Memᴰ h n.got → g.frame ≡ f → h.frame ≡ f → vlan_of g.station ≡ vlan_of h.station

abbrev pub AlwaysSafe : Type 0
AlwaysSafe = (ports : ℕ → List Port) (n : Network) → Reached ports n → Safe n
