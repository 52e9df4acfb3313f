use Rattle.std.proofs.Common.{refl, rules}
use Rattle.std.proofs.lemmas.Iterator.{YieldsList-from_range}
use Rattle.std.proofs.lemmas.Iterator.Search.{all_from_yields_List}
use borrow.Author.Tests.{tests}
use Rattle.trees.specs.Ids.{id_number}
use Rattle.scenario.specs.Boxes.{holds_newest, all_hold}
use Rattle.scenario.proofs.boxes.all_hold.Goals as goal

pub returns : goal.returns
unfolding all_hold
returns c = all_from_yields_List (holds_newest c.args.bridges.now c.args.wiring.now.nodes (id_number c.args.id)) _ _ _ c.all.ensures.ran (YieldsList-from_range 0 6 6 (cc) refl) (λ x b q k. search (rules, tests))
