use Rattle.std.proofs.Common.{sym, ap, ◌∙◌, arith}
use Rattle.std.proofs.lemmas.List.{length-map, length-set}
use Rattle.queues.specs.Port.{port_of, emptied}
use Rattle.queues.specs.Ports.{ports_of}
use Rattle.queues.proofs.Ports.{port_more, port_all}
use Rattle.queues.proofs.queues.Queues.clear_all.Goals as goal

pub loop-queue-preserved : goal.loop-queue-preserved
loop-queue-preserved c = record {
  long = simp length-set (omega arith);
  so = port_more emptied (ports_of c.args.self.now) c.loop-queue.queue-items c.loop-queue.queue-index c.queue-item.result c.clear.new.self
      (omega arith) (simp length-map (omega (arith, c.args.self.now.ports.ok.0))) c.queue-item.is
      (c.clear.ensures ∙ ap (λ q. emptied (port_of q)) (sym c.queue-item.is)) c.loop-queue.invariant.so;
}

pub returns : goal.returns
returns c = port_all emptied (ports_of c.args.self.now) c.loop-queue.queue-items _ c.loop-queue.queue-index c.args.self.now.ports.len (simp length-map (omega (arith, c.args.self.now.ports.ok.0))) (omega (arith, c.args.self.now.ports.ok.0)) c.loop-queue.invariant.so
