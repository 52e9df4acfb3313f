use Rattle.std.proofs.Common.{rules, tests}
use Rattle.wiring.specs.declared.boxes.Port.TheVariants as port
use Rattle.wiring.specs.Boxes.{ports_of}
use Rattle.wiring.proofs.Filling.{two_parts}
use Rattle.wiring.proofs.boxes.free_ports.Goals as goal

pub returns : goal.returns
unfolding ports_of
returns c = two_parts port.Free port.Absent c.args.count 16 (λ i y q k. search (rules, tests)) c.from_fn.result c.from_fn.ensures.items
