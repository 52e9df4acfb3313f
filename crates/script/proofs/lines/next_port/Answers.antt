use Rattle.std.proofs.Common.{rules}
use Rattle.scan.specs.Parts.{port_of}
use Rattle.script.specs.declared.faults.Expected.TheVariants as expected
use Rattle.script.proofs.Taking.{part-is}
use Rattle.script.proofs.lines.next_port.Goals as goal

pub returns-clause-value : goal.returns-clause-value
returns-clause-value c = part-is _ expected.PortName port_of _ c.next_part.result (λ b o h. search rules) c.next_part.ensures.value
