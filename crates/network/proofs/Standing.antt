-- That a net stands for a world, taken apart by bridges: what one bridge does leaves all others as they were.
use Rattle.std.proofs.Common.{◌≡◌, ℕ, ◌<◌, Bool, cond, not, ◌&&◌, eqb, ltb, List, refl, ap, subst}
use mathlib.Core.List.{Memᴰ}
use Rattle.std.proofs.lemmas.Bool.{eq-eqb, ne_eqb}
use Rattle.trees.specs.Tree.{Tree}
use Rattle.bridges.specs.Net.{Where, World, This, tree_of, at}
use Rattle.ports.specs.Ports.{ports_of, none_below}
use Rattle.ports.specs.Outward.{serves}
use Rattle.forwarding.specs.State.{State}
use Rattle.network.specs.Network.{Network, Plug, vlan_of}
use Rattle.network.specs.Simulation.{held_by, numbers, place_in, where_is, home_of, Simulates}
use Rattle.network.proofs.Tests.{by_eq}

-- a bridge's state stands for its part of a world
pub record StandsOf (plug : ℕ → Plug) (b : ℕ) (s : State) (trees : List Tree) (holds : List ℕ) (learned : ℕ → ℕ → Where) (up : ℕ → Bool) : Type 0 where
  pub holds_so : numbers (held_by s) ≡ holds
  pub held_so : (t : Tree) → Memᴰ t (held_by s) → tree_of t.number trees ≡ This t
  pub learned_so : (t q : ℕ) → where_is b (plug q) (place_in s t q) ≡ learned t q
  pub links_so : (c : ℕ) → not (none_below (ports_of s.ports) c 16) ≡ up c

abbrev pub Stands : (ℕ → Plug) → ℕ → State → World → Type 0
Stands plug b s w = StandsOf plug b s w.trees (w.holds b) (w.learned b) (w.up b)

-- a net in which one bridge is in a state of its own
abbrev pub with_bridge : Network → ℕ → State → Network
with_bridge n b s = record { bridge = at b s n.bridge; plug = n.plug; trees = n.trees; flying = n.flying; got = n.got; next = n.next }

pub bridge_same : (n : Network) (b : ℕ) → with_bridge n b (n.bridge b) ≡ n
bridge_same n b = λ i. record { bridge = λ c. same c i; plug = n.plug; trees = n.trees; flying = n.flying; got = n.got; next = n.next }
  where
    same : (c : ℕ) → at b (n.bridge b) n.bridge c ≡ n.bridge c
    same c = by_eq c b (λ c v. cond v (n.bridge b) (n.bridge c) ≡ n.bridge c) refl (λ _. refl)

-- one bridge, all others, and the rest
pub record View (n : Network) (b : ℕ) (s : State) (w : World) : Type 0 where
  pub here : Stands n.plug b s w
  pub others : (c : ℕ) → c < 128 → (c ≡ b → ⊥) → Stands n.plug c (n.bridge c) w
  pub home_so : (q : ℕ) → home_of (with_bridge n b s) q ≡ w.home q
  pub trees_so : n.trees ≡ w.trees
  pub flying_so : n.flying ≡ w.copies
  pub got_so : n.got ≡ w.got
  pub next_so : n.next ≡ w.next

pub stands : (n : Network) (w : World) → Simulates n w → (b : ℕ) → b < 128 → Stands n.plug b (n.bridge b) w
stands n w i b lt = record { holds_so = i.holds_so b lt; held_so = λ t. i.held_so b t lt; learned_so = λ t q. i.learned_so b t q lt; links_so = λ c. i.links_so b c lt }

pub simulates : (n : Network) (w : World) → ((b : ℕ) → b < 128 → Stands n.plug b (n.bridge b) w) → ((q : ℕ) → home_of n q ≡ w.home q) →
    n.trees ≡ w.trees → n.flying ≡ w.copies → n.got ≡ w.got → n.next ≡ w.next → Simulates n w
simulates n w i h t f g x = record {
  holds_so = λ b lt. (i b lt).holds_so;
  held_so = λ b u lt. (i b lt).held_so u;
  learned_so = λ b u q lt. (i b lt).learned_so u q;
  links_so = λ b c lt. (i b lt).links_so c;
  home_so = h;
  trees_so = t;
  flying_so = f;
  got_so = g;
  next_so = x;
}

pub view : (n : Network) (b : ℕ) (s : State) (w : World) → b < 128 → Simulates (with_bridge n b s) w → View n b s w
view n b s w lt i = record {
  here = subst (λ v. Stands n.plug b (cond v s (n.bridge b)) w) (eq-eqb b b refl) (stands (with_bridge n b s) w i b lt);
  others = λ c l k. subst (λ v. Stands n.plug c (cond v s (n.bridge c)) w) (ne_eqb c b k) (stands (with_bridge n b s) w i c l);
  home_so = i.home_so;
  trees_so = i.trees_so;
  flying_so = i.flying_so;
  got_so = i.got_so;
  next_so = i.next_so;
}

pub whole : (n : Network) (b : ℕ) (s : State) (w : World) → View n b s w → Simulates (with_bridge n b s) w
whole n b s w v = simulates (with_bridge n b s) w
    (λ c l. by_eq c b (λ c e. c < 128 → Stands n.plug c (cond e s (n.bridge c)) w) (λ _. v.here) (λ k l. v.others c l k) l)
    v.home_so v.trees_so v.flying_so v.got_so v.next_so

-- stations are where they were as long as each port serves the same VLANs
pub homes_stay : (n : Network) (b : ℕ) (s s' : State) → ((p v : ℕ) → serves (ports_of s'.ports p) v ≡ serves (ports_of s.ports p) v) →
    (q : ℕ) → home_of (with_bridge n b s') q ≡ home_of (with_bridge n b s) q
homes_stay n b s s' h q = ap (λ e. cond (ltb (n.plug q).bridge 128 && (eqb (n.plug q).bridge (n.plug q).bridge && e)) (n.plug q).bridge 128)
    (by_eq (n.plug q).bridge b (λ c e. serves (ports_of (cond e s' (n.bridge c)).ports (n.plug q).port) (vlan_of q) ≡ serves (ports_of (cond e s (n.bridge c)).ports (n.plug q).port) (vlan_of q))
    (h (n.plug q).port (vlan_of q)) (λ _. refl))
