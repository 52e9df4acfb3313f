use Rattle.std.proofs.Common.{◌∙◌, ◌==◌, rules}
use Rattle.std.proofs.lemmas.Iterator.Adapters.{YieldsList-from_rev_slice}
use Rattle.std.proofs.lemmas.Iterator.Search.{find_from_yields_List}
use borrow.Author.Tests.{tests}
use Rattle.trees.specs.declared.spanning_tree.Tree.{Tree}
use Rattle.scenario.proofs.forest.Forest.find.Goals as goal

pub returns : goal.returns
returns c = c.copied.ensures ∙ find_from_yields_List (λ (t : Tree). t.id.seq == c.args.seq) _ _ _ c.find.ensures.ran (YieldsList-from_rev_slice c.args.self.now.list.items cc) (λ x b q k. search (rules, tests))
