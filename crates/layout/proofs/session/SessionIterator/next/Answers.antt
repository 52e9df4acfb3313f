use Rattle.std.proofs.Common.{sym, refl, ap, ◌∙◌, arith, false-eqb}
use Rattle.script.specs.Grammar.{thus, command_of}
use Rattle.layout.specs.Net.{state_of, applied}
use Rattle.layout.proofs.session.SessionIterator.next.Goals as goal

pub returns-in-Err-clause-reads : goal.returns-in-Err-clause-reads
returns-in-Err-clause-reads c =
    let told = c.in-Err.ensures in (
      omega (arith, false-eqb _ 0 c.if-is_empty.ensures),
      (ap (λ l. thus (command_of l) (λ x. applied (state_of c.args.self.now.layout) x)) (sym c.split_line.ensures.line) ∙ told.0, told.1),
      c.saturating_add-self.ensures,
      refl,
      refl,
    )
