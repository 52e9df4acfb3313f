use Rattle.std.proofs.Common.{ap, ◌∙◌}
use Rattle.std.specs.Option.{ok_or}
use Rattle.script.specs.declared.faults.Expected.TheVariants as expected
use Rattle.script.proofs.Taking.{text-is}
use Rattle.script.proofs.lines.next_text.Goals as goal

pub returns : goal.returns
returns c = text-is c.rest-text.result _ _ c.ok_or.result (c.rest-text.ensures ∙ c.skip.ensures) c.is_text.ensures (c.ok_or.ensures.value ∙ ap (λ o. ok_or o expected.Message) c.then_some.ensures)
