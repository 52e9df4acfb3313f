use Rattle.std.proofs.Common.{sym, refl, ap, arith, lt-ltb}
use Rattle.pending.specs.Waits.{waits}
use Rattle.queues.specs.Port.{Port, with_control}
use Rattle.queues.proofs.Ports.{port_set, port_at_lem}
use Rattle.queues.proofs.queues.Queues.pending.Goals as goal

pub returns : goal.returns
returns c = (
  (refl, (λ w _. port_set c.args.self.now.ports.items c.args.port c.index_mut.result.now _ (with_control (waits w)) (omega (arith, c.args.self.now.ports.ok.0)) c.index_mut.ensures.value refl), (λ _. refl)),
  record {
    lent = tt;
    lent_facts = (sym (lt-ltb c.args.port 16 (omega arith)), ap (λ (p : Port). p.control) (sym (port_at_lem c.args.self.now.ports.items c.args.port c.index_mut.result.now (omega (arith, c.args.self.now.ports.ok.0)) c.index_mut.ensures.value)));
  },
)
