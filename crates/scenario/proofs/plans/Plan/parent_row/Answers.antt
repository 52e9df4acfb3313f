use Rattle.std.proofs.Common.{◌≡◌, rules}
use borrow.Author.Tests.{tests}
use Rattle.scenario.specs.Plans.{number_above, six, parent_row}
use Rattle.scenario.proofs.Each.{made_row}
use Rattle.scenario.proofs.plans.Plan.parent_row.Goals as goal

pub returns : goal.returns
unfolding parent_row
returns c =
    let said = number_above c.args.self.now.wiring.now.nodes c.args.self.now.parents.now in
    let row : c.from_fn-above.result ≡ six said = made_row said (λ i y q k. search (rules, tests)) c.from_fn-above.result 6 c.from_fn-above.ensures.items in
    search (rules, row)
