use Rattle.script.proofs.Taking.{ending}
use Rattle.script.proofs.lines.at_end.Goals as goal

pub returns : goal.returns
returns c = ending _ _ c.next.result _ _ _ c.next.ensures.cases c.is_none.ensures c.then_some.ensures c.ok_or.ensures.value
