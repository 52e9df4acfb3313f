use Rattle.std.proofs.Common.{◌∙◌, rules}
use Rattle.std.proofs.lemmas.Iterator.Adapters.{YieldsList-from_rev_slice}
use Rattle.std.proofs.lemmas.Iterator.Search.{find_from_yields_List}
use borrow.Author.Tests.{tests}
use Rattle.scenario.specs.Player.{trees_of, is_at_rest}
use Rattle.scenario.proofs.player.Player.rest.Goals as goal

pub returns : goal.returns
returns c = c.copied.ensures ∙ find_from_yields_List (is_at_rest c.args.self.now.bridges c.args.wiring.now.nodes) _ _ _ c.find.ensures.ran (YieldsList-from_rev_slice (trees_of c.args.self.now) cc) (λ x b q k. search (rules, tests))
