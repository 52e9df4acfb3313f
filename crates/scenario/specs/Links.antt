-- The links of a box.
use Rattle.std.specs.Prelude.{◌≡◌, ℕ, zero, suc, ◌<◌, List, None, Option, slice_index_or}
use Rattle.scan.specs.declared.parts.PortRef.{PortRef}
use Rattle.ports.specs.declared.port.Link.{Link}
use Rattle.forwarding.specs.State.{State}
use Rattle.forwarding.specs.Replies.{relinked}
use Rattle.wiring.specs.declared.boxes.Node.{Node}
use Rattle.scenario.specs.Cables.{link_kind, link_is}

abbrev pub at_port : ℕ → ℕ → PortRef
at_port n p = record { node = n; port = p }

-- a bridge is told of the links by its first k ports
unfoldable pub relinked_all : ℕ → List (Option Link) → State → State
relinked_all zero ls s = s
relinked_all (suc p) ls s = relinked p (slice_index_or ls p None) (relinked_all p ls s)

-- a row of links that says, port by port, what the cables of a box are to its bridge
abbrev pub LinksOf : List Node → ℕ → List (Option Link) → Type 0
LinksOf ns n ls = (p : ℕ) → p < 16 → link_is (slice_index_or ls p None) ≡ link_kind ns (at_port n p)
