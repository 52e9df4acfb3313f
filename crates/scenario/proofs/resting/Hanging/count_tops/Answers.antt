use Rattle.std.proofs.Common.{refl, ◌∙◌, rules}
use Rattle.std.specs.List.{range_with_len}
use Rattle.std.proofs.lemmas.Iterator.{YieldsList-from_range}
use Rattle.std.proofs.lemmas.Iterator.Consumers.{YieldsList-from_filter, count_from_yields_List}
use Rattle.std.proofs.lemmas.List.Sums.{length-filter}
use borrow.Author.Tests.{tests}
use Rattle.trees.specs.Meanings.{meaning}
use Rattle.scenario.specs.Resting.{is_top, tops}
use Rattle.scenario.proofs.resting.Hanging.count_tops.Goals as goal

pub returns : goal.returns
unfolding tops
returns c =
    let top = is_top c.args.self.now.wiring.now.nodes (meaning c.args.self.now.tree.now) in
    count_from_yields_List c.filter.result _ c.count.ensures.ran (YieldsList-from_filter _ top (YieldsList-from_range 0 6 6 (cc) refl) c.filter.ensures.closure (λ x b q k. search (rules, tests)))
    ∙ length-filter top (range_with_len 0 6)
