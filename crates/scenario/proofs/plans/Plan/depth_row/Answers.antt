use Rattle.std.proofs.Common.{◌≡◌, rules}
use borrow.Author.Tests.{tests}
use Rattle.scenario.specs.Plans.{depth_of, six, depth_row}
use Rattle.scenario.proofs.Each.{made_row}
use Rattle.scenario.proofs.plans.Plan.depth_row.Goals as goal

pub returns : goal.returns
unfolding depth_row
returns c =
    let said = depth_of 6 c.args.self.now.wiring.now.nodes c.args.self.now.parents.now in
    let row : c.from_fn-deep.result ≡ six said = made_row said (λ i y q k. search (rules, tests)) c.from_fn-deep.result 6 c.from_fn-deep.ensures.items in
    search (rules, row)
