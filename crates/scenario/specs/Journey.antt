-- A copy of a frame comes to a box, and a station's frame sets out.
use Rattle.std.specs.Prelude.{◌≡◌, ℕ, Bool, true, false, ◌&&◌, List, [], Some, None, Ok, Err, vec_items, Option, Result, Vec, ◌≢◌, nat_lt, slice_index_or}
use Rattle.std.specs.declared.alloc.Global.{Global}
use Rattle.scan.specs.declared.parts.PortRef.{PortRef}
use Rattle.wiring.specs.declared.boxes.Node.{Node}
use Rattle.wiring.specs.declared.boxes.Port.TheVariants as socket
use Rattle.wiring.specs.Boxes.{number_at, port_at}
use Rattle.trees.specs.Ids.{id_number}
use Rattle.forwarding.specs.declared.bridge.Bridge.{Bridge}
use Rattle.forwarding.specs.declared.fault.Fault.{Fault}
use Rattle.scenario.specs.declared.player.Player.{Player}
use Rattle.scenario.specs.declared.travel.Frame.{Frame}
use Rattle.scenario.specs.declared.travel.Packet.{Packet}
use Rattle.scenario.specs.declared.travel.Step.{Step}
use Rattle.scenario.specs.Boxes.{newest_at}
use Rattle.scenario.specs.Cables.{on_at}
use Rattle.scenario.specs.Slots.{NeighbourAt}

-- a copy comes to a box: the bridge in it answers, and the others are as they were; a box that is off loses it
abbrev pub Arrived : List Node → Packet → Frame → Player → Option (Result (List Bool) Fault) → Player → Type 0
Arrived ns x f p None q =
    (((on_at ns x.at.node && nat_lt x.at.node 6) && nat_lt (number_at ns x.at.node) 128) ≡ false)
    × (q.bridges ≡ p.bridges)
Arrived ns x f p (Some o) q =
    (on_at ns x.at.node ≡ true)
    × NeighbourAt (slice_index_or p.bridges x.at.node None) x.by.value (number_at ns x.at.node) (id_number f.tree) f.vlan.value f.from f.to p.clock
    (slice_index_or q.bridges x.at.node None) o
    × ((k : ℕ) → (k ≢ x.at.node) → slice_index_or q.bridges k None ≡ slice_index_or p.bridges k None)

-- the frame that sets out at a port: of the port's VLAN, along the newest tree of its box
abbrev pub FrameAt : List Node → List (Option Bridge) → PortRef → List ℕ → List ℕ → Option Frame → Type 0
FrameAt ns bs at from to None = Unit {0}
FrameAt ns bs at from to (Some f) =
    (port_at ns at ≡ socket.Access f.vlan.value) × (newest_at bs at.node ≡ Some (id_number f.tree)) × (f.from ≡ from) × (f.to ≡ to)

-- no copy came to any box
abbrev pub NoStep : Result (Vec Step Global) Fault → Type 0
NoStep (Ok steps) = vec_items steps ≡ []
NoStep (Err f) = ⊥
