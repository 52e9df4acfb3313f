use Rattle.std.proofs.Common.{arith}
use Rattle.queues.proofs.Ports.{port_found}
use Rattle.queues.proofs.queues.Queues.queue.Goals as goal

pub returns : goal.returns
returns c = port_found c.get.result _ c.args.self.now.ports.items c.args.port c.deref.ensures.value (omega (arith, c.args.self.now.ports.ok.0)) c.get.ensures.lookup.0 c.get.ensures.lookup.1
