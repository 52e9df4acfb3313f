-- A net of bridges, each of which does what the code's contracts say, with stations plugged into their ports and copies of frames under way between them; and everything that can happen to it. Assumes nothing.
use Rattle.std.specs.Prelude.{◌≡◌, ℕ, zero, suc, ◌%◌, ◌^◌, ◌<◌, Bool, true, false, cond, not, ◌&&◌, ◌||◌, List, [], ◌∷◌, ◌++◌, Option, ◌==◌}
use Rattle.trees.specs.Tree.{Tree, looks}
use Rattle.bridges.specs.Net.{Copy, Got, Rules, Found, NoTree, This, tree_of, without, copy_to, at}
use Rattle.fdb.specs.declared.entry.Location.{Location}
use Rattle.fdb.specs.declared.entry.Location.TheVariants as location
use Rattle.ports.specs.declared.port.Port.{Port}
use Rattle.ports.specs.declared.port.Link.{Link}
use Rattle.ports.specs.Ports.{Kind, ports_of, leads_to}
use Rattle.ports.specs.Places.{Place, Nowhere, AtPort, Toward, Came, ByPort, ByBridge}
use Rattle.ports.specs.Outward.{serves}
use Rattle.forwarding.specs.State.{State, is_tree, look_in, started, adopted, aged_state, crashed}
use Rattle.forwarding.specs.Replies.{Way, Refuse, Newest, Older, none, after, goes, relinked}
use Rattle.forwarding.specs.declared.fault.Fault.TheVariants as fault

-- the VLAN of a station, by its number
abbrev pub vlan_of : ℕ → ℕ
vlan_of q = q % 4096

-- 128 bridges, and all stations of six bytes of address and twelve bits of VLAN
abbrev pub rules : Rules
rules = record { bridges = 128; stations = 2 ^ 60; colour = vlan_of }

-- where a station is plugged in: a port of a bridge; nowhere, if there is no such bridge
pub record Plug : Type 0 where
  pub bridge : ℕ
  pub port : ℕ

-- bridge: the state of each bridge. plug: where each station is plugged in. trees: all that were announced. flying: copies under way, each to its bridge. got: who got which frame, where. next: the number of the next frame
pub record Network : Type 0 where
  pub bridge : ℕ → State
  pub plug : ℕ → Plug
  pub trees : List Tree
  pub flying : List Copy
  pub got : List Got
  pub next : ℕ

-- is a station here: plugged into a port of the bridge that leads to stations of its VLAN
abbrev pub is_here : Network → ℕ → ℕ → Bool
is_here n b q = (n.plug q).bridge == b && serves (ports_of (n.bridge b).ports (n.plug q).port) (vlan_of q)

-- does a frame that goes out by some ports go on to a neighbour: by a port that leads there
unfoldable pub passes : (ℕ → Bool) → (ℕ → Kind) → ℕ → ℕ → Bool
passes out port c zero = false
passes out port c (suc p) = (out p && leads_to (port p) c) || passes out port c p

-- the copies that go on, to the first k bridges
unfoldable pub sent_on : (ℕ → Bool) → (ℕ → Kind) → Copy → ℕ → List Copy
sent_on out port x zero = []
sent_on out port x (suc c) = cond (passes out port c 16) (copy_to x c ∷ sent_on out port x c) (sent_on out port x c)

-- did it come by that port
abbrev pub came_by_port : Came → ℕ → Bool
came_by_port (ByPort q) p = q == p
came_by_port (ByBridge c) p = false

-- does a station behind port p get a frame that goes out by some ports, given where the one that it is for is known to be: it goes out by its port, or came by it (it was heard below the link), and it is for all, or for this one
abbrev pub reaches : (ℕ → Bool) → Came → Place → ℕ → ℕ → ℕ → Bool
reaches out came Nowhere to q p = out p || came_by_port came p
reaches out came (AtPort i) to q p = q == to && (out p || (came_by_port came p && i == p))
reaches out came (Toward c) to q p = false

-- who of the first k stations gets it at a bridge: those that are here, of its VLAN, that it reaches, but not its sender
unfoldable pub getters : Network → (ℕ → Bool) → Came → Place → Copy → ℕ → List Got
getters n out came k x zero = []
getters n out came k x (suc q) =
    cond (is_here n x.at q && (vlan_of q == x.frame.colour && (not (q == x.frame.from) && reaches out came k x.frame.to q (n.plug q).port)))
    (record { frame = x.frame.number; station = q; bridge = x.at } ∷ getters n out came k x q) (getters n out came k x q)

-- where the bridge knows the station to be along the way that a frame goes
abbrev pub known_on : Way → State → ℕ → Place
known_on (Refuse f) s q = Nowhere
known_on Newest s q = look_in s.newest q
known_on Older s q = look_in s.older q

abbrev pub is_refused : Way → Bool
is_refused (Refuse f) = true
is_refused Newest = false
is_refused Older = false

abbrev pub locate : Came → Location
locate (ByPort p) = location.Here p
locate (ByBridge c) = location.Behind c

-- a copy is handled by its bridge, along a way: the bridge is then as its contract says, copies go on by the ports that its answer has, and stations there get it. `flying` are the copies under way without this one
abbrev pub handled : Network → Way → Came → Copy → ℕ → List Copy → ℕ → Network
handled n way came x tick flying next = record {
  bridge = at x.at (after way (locate came) x.frame.from x.frame.to tick (n.bridge x.at)) n.bridge;
  plug = n.plug;
  trees = n.trees;
  flying = sent_on (goes way (after way (locate came) x.frame.from x.frame.to tick (n.bridge x.at)) x.frame.colour came x.frame.to) (ports_of (n.bridge x.at).ports) x 128 ++ flying;
  got = getters n (goes way (after way (locate came) x.frame.from x.frame.to tick (n.bridge x.at)) x.frame.colour came x.frame.to) came
      (known_on way (after way (locate came) x.frame.from x.frame.to tick (n.bridge x.at)) x.frame.to) x (2 ^ 60) ++ n.got;
  next = next;
}

-- along which of its trees a bridge takes a frame that is for it
abbrev pub track_of : State → ℕ → Way
track_of s tree =
    cond (none s.newest.tree) (Refuse fault.NoTree)
    (cond (is_tree tree s.newest.tree) Newest (cond (is_tree tree s.older.tree) Older (Refuse fault.UnknownTree)))

abbrev pub number_of_newest : Found → ℕ
number_of_newest NoTree = 0
number_of_newest (This t) = t.number

-- the copy that a station's frame begins as, at the bridge where it is plugged in
abbrev pub first_copy : Network → ℕ → ℕ → ℕ → Copy
first_copy n b from to = record {
  frame = record { number = n.next; from = from; to = to; colour = vlan_of from; tree = number_of_newest (n.bridge b).newest.tree };
  at = b;
  trail = [];
}

-- the copy under way at a place, if there is one
pub data Pick : Type 0 where
  NoCopy : Pick
  One : Copy → Pick

unfoldable pub pick : ℕ → List Copy → Pick
pick i [] = NoCopy
pick zero (x ∷ xs) = One x
pick (suc i) (x ∷ xs) = pick i xs

abbrev pub came_from : List ℕ → Came
came_from [] = ByPort 16
came_from (b ∷ bs) = ByBridge b

-- each bridge by itself: it adopts a tree that was announced; a link of its is believed to be up, down or gone; it forgets with age; it crashes. A tree is announced, with a number that none has had. A station is plugged in somewhere, or pulled. A station's
-- frame comes in by its port, and is refused or handled. A copy under way comes to its bridge, or is lost
pub data Steps (n : Network) : Network → Type 0 where
  announces : (t : Tree) → tree_of t.number n.trees ≡ NoTree →
      Steps n (record { bridge = n.bridge; plug = n.plug; trees = t ∷ n.trees; flying = n.flying; got = n.got; next = n.next })
  adopts : (b : ℕ) (t : Tree) → b < 128 → tree_of t.number n.trees ≡ This t → looks 128 t ≡ true →
      Steps n (record { bridge = at b (adopted t (n.bridge b)) n.bridge; plug = n.plug; trees = n.trees; flying = n.flying; got = n.got; next = n.next })
  links : (b p : ℕ) (l : Option Link) → b < 128 →
      Steps n (record { bridge = at b (relinked p l (n.bridge b)) n.bridge; plug = n.plug; trees = n.trees; flying = n.flying; got = n.got; next = n.next })
  ages : (b tick : ℕ) → b < 128 →
      Steps n (record { bridge = at b (aged_state tick (n.bridge b)) n.bridge; plug = n.plug; trees = n.trees; flying = n.flying; got = n.got; next = n.next })
  crashes : (b : ℕ) → b < 128 →
      Steps n (record { bridge = at b (crashed (n.bridge b)) n.bridge; plug = n.plug; trees = n.trees; flying = n.flying; got = n.got; next = n.next })
  plugs : (q : ℕ) (w : Plug) →
      Steps n (record { bridge = n.bridge; plug = at q w n.plug; trees = n.trees; flying = n.flying; got = n.got; next = n.next })
  sends : (q to tick : ℕ) → (n.plug q).bridge < 128 → is_here n (n.plug q).bridge q ≡ true → q < 2 ^ 60 → to < 2 ^ 60 → vlan_of to ≡ vlan_of q → none (n.bridge (n.plug q).bridge).newest.tree ≡ false →
      Steps n (handled n Newest (ByPort (n.plug q).port) (first_copy n (n.plug q).bridge q to) tick n.flying (suc n.next))
  comes : (i tick : ℕ) (x : Copy) → pick i n.flying ≡ One x →
      Steps n (handled n (track_of (n.bridge x.at) x.frame.tree) (came_from x.trail) x tick (without i n.flying) n.next)
  loses : (i : ℕ) →
      Steps n (record { bridge = n.bridge; plug = n.plug; trees = n.trees; flying = without i n.flying; got = n.got; next = n.next })

-- at first: each bridge with nothing but its number and its sixteen ports, nobody plugged in, nothing under way
abbrev pub begins : (ℕ → List Port) → Network
begins ports = record { bridge = λ b. started b (ports b); plug = λ q. record { bridge = 128; port = 0 }; trees = []; flying = []; got = []; next = 1 }

-- what a net can come to
pub data Reached (ports : ℕ → List Port) : Network → Type 0 where
  first : Reached ports (begins ports)
  then : {n m : Network} → Reached ports n → Steps n m → Reached ports m
