-- What the cables of a net are to the bridges in its boxes.
use Rattle.std.specs.Prelude.{ℕ, Bool, true, false, cond, ◌&&◌, List, Some, None, Option, ◌==◌, nat_lt}
use Rattle.scan.specs.declared.parts.PortRef.{PortRef}
use Rattle.wiring.specs.declared.boxes.Node.{Node}
use Rattle.wiring.specs.declared.boxes.Power.{Power}
use Rattle.wiring.specs.declared.boxes.Power.TheVariants as power
use Rattle.wiring.specs.declared.boxes.Port.{Port}
use Rattle.wiring.specs.declared.boxes.Port.TheVariants as socket
use Rattle.wiring.specs.Boxes.{power_at, port_at, number_at}
use Rattle.ports.specs.declared.port.Link.{Link}
use Rattle.ports.specs.Ports.{Kind, Idle, ToStations, ToBridge}

abbrev pub is_on : Power → Bool
is_on power.Absent = false
is_on power.On = true
is_on power.Off = false

-- the box is there, and on
abbrev pub on_at : List Node → ℕ → Bool
on_at ns n = is_on (power_at ns n)

abbrev pub cable_in : Port → Option PortRef
cable_in socket.Absent = None
cable_in socket.Free = None
cable_in (socket.Access v) = None
cable_in (socket.Cabled q) = Some q

-- the other end of the cable in a port
abbrev pub far_end : List Node → PortRef → Option PortRef
far_end ns p = cable_in (port_at ns p)

abbrev pub start_of : Port → Kind
start_of socket.Absent = Idle
start_of socket.Free = Idle
start_of (socket.Access v) = cond (v == 0) Idle (cond (nat_lt v 4095) (ToStations v) Idle)
start_of (socket.Cabled q) = Idle

-- what a port is to a bridge that starts: stations are behind an access port, and nothing behind any other yet
abbrev pub start_kind : List Node → PortRef → Kind
start_kind ns p = start_of (port_at ns p)

-- a link from a box to the far end of a cable: to the bridge there, up while both boxes are on
abbrev pub link_to : List Node → ℕ → Option PortRef → Kind
link_to ns n None = Idle
link_to ns n (Some q) = cond (nat_lt (number_at ns q.node) 128) (ToBridge (number_at ns q.node) (on_at ns n && on_at ns q.node)) Idle

-- the link by a port
abbrev pub link_kind : List Node → PortRef → Kind
link_kind ns p = link_to ns p.node (far_end ns p)

abbrev pub link_is : Option Link → Kind
link_is None = Idle
link_is (Some l) = ToBridge l.neighbour.value l.up
