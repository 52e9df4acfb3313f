-- What happens to the bridge in a box, if one is there: what happens to it, and else nothing.
use Rattle.std.specs.Prelude.{◌≡◌, ℕ, Bool, List, Some, None, Err, Option, Result}
use Rattle.forwarding.specs.declared.bridge.Bridge.{Bridge}
use Rattle.forwarding.specs.declared.fault.Fault.{Fault}
use Rattle.forwarding.specs.declared.fault.Fault.TheVariants as fault
use Rattle.forwarding.specs.State.{State}
use Rattle.forwarding.specs.Holding.{state_of}
use Rattle.forwarding.specs.Replies.{FromStation, FromNeighbour, number_in}

abbrev pub state_in : Option Bridge → Option State
state_in None = None
state_in (Some b) = Some (state_of b)

abbrev pub become : (State → State) → Option State → Option State
become f None = None
become f (Some s) = Some (f s)

-- the number of the newest tree, if there is a bridge with one
abbrev pub newest_in : Option State → Option ℕ
newest_in None = None
newest_in (Some s) = number_in s.newest.tree

-- a station's frame comes to a box; without a bridge it is dropped
abbrev pub StationAt : Option Bridge → ℕ → List ℕ → List ℕ → ℕ → Option Bridge → Result (List Bool) Fault → Type 0
StationAt None port from to tick b r = (b ≡ None) × (r ≡ Err fault.NoTree)
StationAt (Some a) port from to tick None r = ⊥
StationAt (Some a) port from to tick (Some b) r = FromStation (state_of a) port from to tick (state_of b) r

-- a neighbour's frame comes to a box; without a bridge it is dropped
abbrev pub NeighbourAt : Option Bridge → ℕ → ℕ → ℕ → ℕ → List ℕ → List ℕ → ℕ → Option Bridge → Result (List Bool) Fault → Type 0
NeighbourAt None by for tree vlan from to tick b r = (b ≡ None) × (r ≡ Err fault.NoTree)
NeighbourAt (Some a) by for tree vlan from to tick None r = ⊥
NeighbourAt (Some a) by for tree vlan from to tick (Some b) r = FromNeighbour (state_of a) by for tree vlan from to tick (state_of b) r
