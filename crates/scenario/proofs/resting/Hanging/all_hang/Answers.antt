use Rattle.std.proofs.Common.{refl, rules}
use Rattle.std.proofs.lemmas.Iterator.{YieldsList-from_range}
use Rattle.std.proofs.lemmas.Iterator.Search.{all_from_yields_List}
use borrow.Author.Tests.{tests}
use Rattle.trees.specs.Meanings.{meaning}
use Rattle.scenario.specs.Resting.{hangs, all_hang}
use Rattle.scenario.proofs.resting.Hanging.all_hang.Goals as goal

pub returns : goal.returns
unfolding all_hang
returns c = all_from_yields_List (hangs c.args.self.now.wiring.now.nodes (meaning c.args.self.now.tree.now)) _ _ _ c.all.ensures.ran (YieldsList-from_range 0 6 6 (cc) refl) (λ x b q k. search (rules, tests))
