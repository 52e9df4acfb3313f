-- What each port holds at most.
use Rattle.std.proofs.Common.{◌≤◌, length}
use Rattle.rows.proofs.Bounds.{small_rows, small_budgets}
use Rattle.queues.specs.Port.{port_of}
use Rattle.queues.specs.declared.port.PortQueue.{PortQueue}

pub small_ports : (q : PortQueue) → (length (port_of q).frames ≤ 16) × ((port_of q).sent ≤ 64)
small_ports q = (small_rows q.row, small_budgets q.budget)
