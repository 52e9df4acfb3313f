-- What the ports of a bridge are for, and by which of them a neighbour is reached. Assumes nothing.
use Rattle.std.specs.Prelude.{ℕ, zero, suc, Bool, true, false, not, ◌&&◌, List, ◌==◌, slice_index_or}
use Rattle.ports.specs.declared.port.Port.{Port}
use Rattle.ports.specs.declared.port.Port.TheVariants.{Unused, Access, Trunk}

-- nothing is handed on by it; it leads to stations of a VLAN; it leads to a neighbour by a link that is up, or isn't
pub data Kind : Type 0 where
  Idle : Kind
  ToStations : (vlan : ℕ) → Kind
  ToBridge : (neighbour : ℕ) → (up : Bool) → Kind

abbrev pub kind_of : Port → Kind
kind_of Unused = Idle
kind_of (Access v) = ToStations v.value
kind_of (Trunk l) = ToBridge l.neighbour.value l.up

-- the ports of a bridge by their numbers: those that it doesn't have are idle
abbrev pub ports_of : List Port → ℕ → Kind
ports_of ps p = kind_of (slice_index_or ps p Unused)

-- does it lead to that neighbour by a link that is up
abbrev pub leads_to : Kind → ℕ → Bool
leads_to Idle c = false
leads_to (ToStations v) c = false
leads_to (ToBridge d up) c = up && d == c

abbrev pub leads : Port → ℕ → Bool
leads port c = leads_to (kind_of port) c

-- no port below p leads there
unfoldable pub none_below : (ℕ → Kind) → ℕ → ℕ → Bool
none_below port c zero = true
none_below port c (suc p) = not (leads_to (port p) c) && none_below port c p

-- does a frame that goes on to some neighbours go out by a port: it leads to one of them by a link that is up, and no lower port does
abbrev pub onward_by : (ℕ → Bool) → (ℕ → Kind) → ℕ → Kind → Bool
onward_by to port p Idle = false
onward_by to port p (ToStations v) = false
onward_by to port p (ToBridge c up) = to c && (up && none_below port c p)

abbrev pub onward : (ℕ → Bool) → (ℕ → Kind) → ℕ → Bool
onward to port p = onward_by to port p (port p)
