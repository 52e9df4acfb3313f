use Rattle.std.proofs.Common.{refl, arith}
use Rattle.queues.specs.Port.{emptied}
use Rattle.queues.proofs.Ports.{port_set}
use Rattle.queues.proofs.queues.Queues.clear.Goals as goal

pub returns-in-Some : goal.returns-in-Some
returns-in-Some c = port_set c.args.self.now.ports.items c.args.port c.in-Some.queue.now _ emptied (omega (arith, c.args.self.now.ports.ok.0, c.in-Some.ensures.variant.0 refl)) c.in-Some.ensures.value c.clear.ensures
