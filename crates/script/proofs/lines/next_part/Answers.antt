use Rattle.script.proofs.Taking.{taking}
use Rattle.script.proofs.lines.next_part.Goals as goal

pub returns : goal.returns
returns g c =
    let took = taking (λ b o. goal.F-post g c.args.read b o) c.args.expected _ _ c.next.result c.and_then.result c.ok_or.result c.next.ensures.cases c.and_then.ensures c.ok_or.ensures.value in
    record { value = took.0; after = took.1; rest = c.next.ensures.after }
