use Rattle.std.proofs.Common.{rules}
use Rattle.scan.specs.Parts.{number_in}
use Rattle.script.proofs.Taking.{part-is, part-bound}
use Rattle.script.proofs.lines.next_number.Goals as goal

pub returns : goal.returns
returns c =
    let is = part-is _ c.args.expected (number_in c.args.low c.args.high) _ c.next_part.result (λ b o h. search rules) c.next_part.ensures.value in
    record { value = is; bound = part-bound c.args.low c.args.high _ _ _ is; after = c.next_part.ensures.after }
