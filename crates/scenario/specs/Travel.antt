-- A frame on its way from box to box.
use Rattle.std.specs.Prelude.{ℕ, ◌-◌, Bool, false, cond, List, Some, None, Ok, Err, Option, Result, ◌==◌, nat_lt, slice_index_or}
use Rattle.scan.specs.declared.parts.PortRef.{PortRef}
use Rattle.wiring.specs.declared.boxes.Node.{Node}
use Rattle.forwarding.specs.declared.fault.Fault.{Fault}
use Rattle.scenario.specs.declared.travel.Step.{Step}
use Rattle.scenario.specs.Cables.{far_end}
use Rattle.scenario.specs.Losses.{left_at, with_left}

abbrev pub unless_lost : ℕ → Option PortRef → Option PortRef
unless_lost n None = None
unless_lost n (Some q) = cond (nat_lt 0 n) None (Some q)

-- where a copy that leaves by a port comes in: at the other end of its cable, unless it is lost
abbrev pub leaves_for : List Node → List (List ℕ) → PortRef → Option PortRef
leaves_for ns left p = unless_lost (left_at left p) (far_end ns p)

abbrev pub counted_by : List (List ℕ) → PortRef → Option PortRef → List (List ℕ)
counted_by left p None = left
counted_by left p (Some q) = with_left left p (left_at left p - 1)

-- a copy that leaves by a port with a cable is counted there
abbrev pub counted_at : List Node → List (List ℕ) → PortRef → List (List ℕ)
counted_at ns left p = counted_by left p (far_end ns p)

abbrev pub flag_in : Result (List Bool) Fault → ℕ → Bool
flag_in (Ok out) p = slice_index_or out p false
flag_in (Err f) p = false

-- the copy at a box went out by a port of it
abbrev pub went_by : PortRef → Step → Bool
went_by p s = cond (s.node == p.node) (cond (nat_lt p.port 16) (flag_in s.outcome p.port) false) false
