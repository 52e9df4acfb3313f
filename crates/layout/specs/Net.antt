-- The net as far as a script has described it, and what each command does to it.
use Rattle.std.specs.Prelude.{ℕ, List, [], replicate, Ok, Err, Result}
use Rattle.script.specs.declared.faults.Expected.{Expected}
use Rattle.script.specs.Grammar.{thus, Aim, everyone, one, Said, blank, bridge, access, cable, pull, station, move, send, tick, lose, fall, start, rest, tree, adopt}
use Rattle.wiring.specs.declared.boxes.Node.{Node}
use Rattle.wiring.specs.declared.boxes.Power.TheVariants as power
use Rattle.wiring.specs.declared.boxes.Port.TheVariants as port
use Rattle.wiring.specs.Boxes.{port_at, power_at}
use Rattle.wiring.specs.Rules.{want_there, want_box, box_added, access_set, cabled, pulled, fallen, started}
use Rattle.layout.specs.declared.net.Layout.{Layout}
use Rattle.layout.specs.Stations.{Placed, placed_in, want_station, station_added, station_moved}

pub record State : Type 0 where
  pub nodes : List Node
  pub stations : List Placed

abbrev pub state_of : Layout → State
state_of l = record { nodes = l.wiring.nodes; stations = placed_in l.roster.list }

-- no boxes and no stations
abbrev pub empty_state : State
empty_state = record { nodes = replicate 6 (record { power = power.Absent; number = 0; ports = replicate 16 port.Absent }); stations = [] }

-- the boxes changed, or a refusal
abbrev pub with_nodes : State → Result (List Node) Expected → Result State Expected
with_nodes s (Ok ns) = Ok (record { nodes = ns; stations = s.stations })
with_nodes s (Err e) = Err e

-- the stations changed, or a refusal
abbrev pub with_stations : State → Result (List Placed) Expected → Result State Expected
with_stations s (Ok ss) = Ok (record { nodes = s.nodes; stations = ss })
with_stations s (Err e) = Err e

-- nothing changed, or a refusal
abbrev pub kept : State → Result (Unit {0}) Expected → Result State Expected
kept s (Ok _) = Ok s
kept s (Err e) = Err e

-- whom a text is sent to is there
abbrev pub want_aim : Aim → List Placed → Result (Unit {0}) Expected
want_aim everyone ss = Ok tt
want_aim (one n) ss = want_station n ss

-- a text goes from a station that is there to one that is there, or to all
abbrev pub want_ends : State → List ℕ → Aim → Result (Unit {0}) Expected
want_ends s n a = thus (want_station n s.stations) (λ _. want_aim a s.stations)

-- what a command does to the net
abbrev pub applied : State → Said → Result State Expected
applied s blank = Ok s
applied s (bridge n p k) = with_nodes s (box_added s.nodes n p k)
applied s (access p v) = with_nodes s (access_set s.nodes p v)
applied s (cable p q) = with_nodes s (cabled s.nodes p q)
applied s (pull p q) = with_nodes s (pulled s.nodes p q)
applied s (station n a p) = with_stations s (station_added s.nodes s.stations n a p)
applied s (move n p) = with_stations s (station_moved s.nodes s.stations n p)
applied s (send n a t) = kept s (want_ends s n a)
applied s (tick n) = Ok s
applied s (lose p n) = kept s (want_there (port_at s.nodes p))
applied s (fall n) = with_nodes s (fallen s.nodes n)
applied s (start n) = with_nodes s (started s.nodes n)
applied s rest = Ok s
applied s (tree q n ps) = kept s (want_box (power_at s.nodes n))
applied s (adopt n q) = kept s (want_box (power_at s.nodes n))
