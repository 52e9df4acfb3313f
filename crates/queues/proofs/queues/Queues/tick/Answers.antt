use Rattle.std.proofs.Common.{sym, ap, ◌∙◌, arith}
use Rattle.std.proofs.lemmas.List.{length-map, length-set}
use Rattle.queues.specs.Port.{port_of, refilled}
use Rattle.queues.specs.Ports.{ports_of}
use Rattle.queues.proofs.Ports.{port_more, port_all}
use Rattle.queues.proofs.queues.Queues.tick.Goals as goal

pub loop-port-preserved : goal.loop-port-preserved
loop-port-preserved c = record {
  long = simp length-set (omega arith);
  so = port_more refilled (ports_of c.args.self.now) c.loop-port.port-items c.loop-port.port-index c.port-item.result c.tick.new.self
      (omega arith) (simp length-map (omega (arith, c.args.self.now.ports.ok.0))) c.port-item.is
      (c.tick.ensures ∙ ap (λ q. refilled (port_of q)) (sym c.port-item.is)) c.loop-port.invariant.so;
}

pub returns : goal.returns
returns c = port_all refilled (ports_of c.args.self.now) c.loop-port.port-items _ c.loop-port.port-index c.args.self.now.ports.len (simp length-map (omega (arith, c.args.self.now.ports.ok.0))) (omega (arith, c.args.self.now.ports.ok.0)) c.loop-port.invariant.so
