-- What the memory of a bridge stands for. Assumes nothing.
use Rattle.std.specs.Prelude.{Some, None, Option}
use Rattle.trees.specs.declared.spanning_tree.Tree.{Tree}
use Rattle.trees.specs.Meanings.{meaning}
use Rattle.bridges.specs.Net.{Found, NoTree, This}
use Rattle.fdb.specs.Held.{contents}
use Rattle.forwarding.specs.declared.held.Held.{Held}
use Rattle.forwarding.specs.declared.bridge.Bridge.{Bridge}
use Rattle.forwarding.specs.State.{Slot, State}

abbrev pub found_in : Option Tree → Found
found_in None = NoTree
found_in (Some t) = This (meaning t)

abbrev pub slot_of : Held → Slot
slot_of h = record { tree = found_in h.tree; table = contents h.table }

abbrev pub state_of : Bridge → State
state_of b = record { number = b.chassis.id.value; ports = b.chassis.ports; newest = slot_of b.newest; older = slot_of b.older }
