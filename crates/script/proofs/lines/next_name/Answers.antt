use Rattle.std.proofs.Common.{rules}
use Rattle.scan.specs.Parts.{name_of}
use Rattle.script.specs.declared.faults.Expected.TheVariants as expected
use Rattle.script.proofs.Taking.{part-means}
use Rattle.script.proofs.lines.next_name.Goals as goal

pub returns-clause-value : goal.returns-clause-value
returns-clause-value c = part-means _ expected.Name (λ w. w.now) name_of _ c.next_part.result (λ b o h. search rules) c.next_part.ensures.value
