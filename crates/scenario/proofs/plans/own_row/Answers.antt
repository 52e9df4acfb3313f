use Rattle.std.proofs.Common.{◌∙◌, map-id, rules}
use Rattle.std.specs.List.{range_with_len}
use borrow.Author.Tests.{tests}
use Rattle.scenario.specs.Plans.{own_row}
use Rattle.scenario.proofs.Each.{made_row}
use Rattle.scenario.proofs.plans.own_row.Goals as goal

pub returns : goal.returns
unfolding own_row
returns c = made_row (λ b. b) (λ i y q k. search (rules, tests)) c.from_fn.result 128 c.from_fn.ensures.items ∙ map-id (range_with_len 0 128)
