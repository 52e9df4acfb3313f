-- What a bridge answers to a frame. Assumes nothing.
use Rattle.std.specs.Prelude.{◌≡◌, ℕ, Bool, true, false, cond, not, ◌&&◌, List, Some, None, Ok, Err, Option, Result, ◌==◌, nat_lt, slice_index_or}
use Rattle.bridges.specs.Net.{Found, NoTree, This}
use Rattle.fdb.specs.declared.entry.Location.{Location}
use Rattle.fdb.specs.declared.entry.Location.TheVariants.{Here, Behind}
use Rattle.fdb.specs.Address.{group_address, station_number}
use Rattle.forwarding.specs.declared.fault.Fault.{Fault}
use Rattle.forwarding.specs.declared.fault.Fault.TheVariants as fault
use Rattle.ports.specs.declared.port.Port.TheVariants as port
use Rattle.ports.specs.declared.port.Link.{Link}
use Rattle.ports.specs.Flags.{Flags}
use Rattle.ports.specs.Ports.{Kind, Idle, ToStations, ToBridge, ports_of}
use Rattle.ports.specs.Places.{Came, ByPort, ByBridge}
use Rattle.forwarding.specs.State.{Slot, State, is_tree, heard_in, look_in, goes_out, is_access, linked}

-- it is refused; it goes along the newest tree, or along the older one
pub data Way : Type 0 where
  Refuse : Fault → Way
  Newest : Way
  Older : Way

abbrev pub none : Found → Bool
none NoTree = true
none (This t) = false

-- the VLAN of the stations behind a port; 0 if it leads to none
abbrev pub vlan_at : Kind → ℕ
vlan_at Idle = 0
vlan_at (ToStations v) = v
vlan_at (ToBridge c up) = 0

-- a frame from a station at a port goes along the newest tree; without one, or by a port with no VLAN, it is dropped
abbrev pub station_way : State → ℕ → List ℕ → Way
station_way s port from =
    cond (group_address from) (Refuse fault.GroupSender)
    (cond (not (nat_lt port 16)) (Refuse fault.NoSuchPort)
    (cond (vlan_at (ports_of s.ports port) == 0) (Refuse fault.NoVlan)
    (cond (none s.newest.tree) (Refuse fault.NoTree) Newest)))

-- a frame from a neighbour goes along the tree that it names; without any tree, or if it is for another bridge, or along a tree that isn't held, it is dropped
abbrev pub neighbour_way : State → ℕ → ℕ → List ℕ → Way
neighbour_way s for tree from =
    cond (group_address from) (Refuse fault.GroupSender)
    (cond (none s.newest.tree) (Refuse fault.NoTree)
    (cond (not (for == s.number)) (Refuse fault.NotForUs)
    (cond (is_tree tree s.newest.tree) Newest
    (cond (is_tree tree s.older.tree) Older (Refuse fault.UnknownTree)))))

-- the bridge after a frame from a station to another came along a way
abbrev pub after : Way → Location → ℕ → ℕ → ℕ → State → State
after (Refuse f) at from to tick s = s
after Newest at from to tick s = record { number = s.number; ports = s.ports; newest = heard_in at from to tick s.newest; older = s.older }
after Older at from to tick s = record { number = s.number; ports = s.ports; newest = s.newest; older = heard_in at from to tick s.older }

-- by which ports it goes out, once its sender is learnt
abbrev pub out_of : State → Slot → ℕ → Came → ℕ → ℕ → Bool
out_of s slot vlan came to p = goes_out (ports_of s.ports) s.number slot.tree vlan came (look_in slot to) p

abbrev pub goes : Way → State → ℕ → Came → ℕ → ℕ → Bool
goes (Refuse f) s vlan came to p = false
goes Newest s vlan came to p = out_of s s.newest vlan came to p
goes Older s vlan came to p = out_of s s.older vlan came to p

-- the answer: a refusal, or a flag for each port, by the bridge as it then is
abbrev pub Answers : Way → State → ℕ → Came → ℕ → Result (List Bool) Fault → Type 0
Answers (Refuse f) s vlan came to r = r ≡ Err f
Answers Newest s vlan came to (Ok out) = Flags out (out_of s s.newest vlan came to)
Answers Newest s vlan came to (Err f) = ⊥
Answers Older s vlan came to (Ok out) = Flags out (out_of s s.older vlan came to)
Answers Older s vlan came to (Err f) = ⊥

-- a station's frame comes by a port, from an address to another: the bridge before and after it, and the answer
pub record FromStation (s : State) (port : ℕ) (from to : List ℕ) (tick : ℕ) (s' : State) (r : Result (List Bool) Fault) : Type 0 where
  pub after_it : s' ≡ after (station_way s port from) (Here port) (station_number from (vlan_at (ports_of s.ports port))) (station_number to (vlan_at (ports_of s.ports port))) tick s
  pub answer : Answers (station_way s port from) s' (vlan_at (ports_of s.ports port)) (ByPort port) (station_number to (vlan_at (ports_of s.ports port))) r

-- a frame comes from a neighbour
pub record FromNeighbour (s : State) (by for tree vlan : ℕ) (from to : List ℕ) (tick : ℕ) (s' : State) (r : Result (List Bool) Fault) : Type 0 where
  pub after_it : s' ≡ after (neighbour_way s for tree from) (Behind by) (station_number from vlan) (station_number to vlan) tick s
  pub answer : Answers (neighbour_way s for tree from) s' vlan (ByBridge by) (station_number to vlan) r

-- a port that is there, and that leads to no stations, may be given a link
abbrev pub may_link : ℕ → State → Bool
may_link p s = nat_lt p 16 && not (is_access (slice_index_or s.ports p port.Unused))

abbrev pub relinked : ℕ → Option Link → State → State
relinked p link s = cond (may_link p s) (linked p link s) s

abbrev pub link_answer : ℕ → State → Result (Unit {0}) Fault
link_answer p s = cond (nat_lt p 16) (cond (is_access (slice_index_or s.ports p port.Unused)) (Err fault.NotATrunk) (Ok tt)) (Err fault.NoSuchPort)

-- the number of a tree, if there is one
abbrev pub number_in : Found → Option ℕ
number_in NoTree = None
number_in (This t) = Some t.number
