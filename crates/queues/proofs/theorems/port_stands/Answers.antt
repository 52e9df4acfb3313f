use Rattle.queues.proofs.Runs.{port_order, within_64, messages_first}
use Rattle.queues.proofs.theorems.port_stands.Goals as goal

pub returns : goal.returns
returns c = record { order = port_order; budget = within_64; first = messages_first }
