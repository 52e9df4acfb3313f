-- Where a station is, along a tree, as a bridge knows it, and whence a frame came. Assumes nothing.
use Rattle.std.specs.Prelude.{ℕ, Bool, true, not, Some, None, Option, ◌==◌}
use Rattle.fdb.specs.declared.entry.Location.{Location}
use Rattle.fdb.specs.declared.entry.Location.TheVariants.{Here, Behind}
use Rattle.ports.specs.declared.ingress.Ingress.{Ingress}
use Rattle.ports.specs.declared.ingress.Ingress.TheVariants.{Station, Neighbour}

-- nothing is known; it is behind a port of the bridge; it is behind a neighbour
pub data Place : Type 0 where
  Nowhere : Place
  AtPort : (port : ℕ) → Place
  Toward : (neighbour : ℕ) → Place

abbrev pub place_at : Location → Place
place_at (Here p) = AtPort p
place_at (Behind b) = Toward b

abbrev pub place_of : Option Location → Place
place_of None = Nowhere
place_of (Some l) = place_at l

-- from a station behind a port; from a neighbour
pub data Came : Type 0 where
  ByPort : (port : ℕ) → Came
  ByBridge : (neighbour : ℕ) → Came

abbrev pub came_of : Ingress → Came
came_of (Station p) = ByPort p.value
came_of (Neighbour b) = ByBridge b.value

-- where the sender of a frame is, by whence it came
abbrev pub sender : Came → Place
sender (ByPort p) = AtPort p
sender (ByBridge b) = Toward b

abbrev pub where_from : Ingress → Location
where_from (Station p) = Here p.value
where_from (Neighbour b) = Behind b.value

-- not back by the port, or to the neighbour, whence it came
abbrev pub not_by_port : Came → ℕ → Bool
not_by_port (ByPort q) p = not (q == p)
not_by_port (ByBridge b) p = true

abbrev pub not_to_bridge : Came → ℕ → Bool
not_to_bridge (ByPort q) c = true
not_to_bridge (ByBridge b) c = not (b == c)
