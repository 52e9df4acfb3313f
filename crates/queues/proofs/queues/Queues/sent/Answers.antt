use Rattle.std.proofs.Common.{refl, arith}
use Rattle.queues.specs.Port.{after_out}
use Rattle.queues.proofs.Ports.{port_set}
use Rattle.queues.proofs.queues.Queues.sent.Goals as goal

pub returns-in-Some-clause-after : goal.returns-in-Some-clause-after
returns-in-Some-clause-after c = port_set c.args.self.now.ports.items c.args.port c.in-Some.queue.now _ after_out (omega (arith, c.args.self.now.ports.ok.0, c.in-Some.ensures.variant.0 refl)) c.in-Some.ensures.value c.sent.ensures.after
