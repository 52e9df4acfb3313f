use Rattle.std.proofs.Common.{refl, rules}
use Rattle.std.proofs.lemmas.Iterator.{YieldsList-from_range}
use Rattle.std.proofs.lemmas.Iterator.Search.{any_from_yields_List}
use borrow.Author.Tests.{tests}
use Rattle.ports.specs.Ports.{leads_to}
use Rattle.scenario.specs.Cables.{link_kind}
use Rattle.scenario.specs.Links.{at_port}
use Rattle.scenario.specs.Resting.{linked}
use Rattle.scenario.proofs.resting.is_linked.Goals as goal

pub returns : goal.returns
unfolding linked
returns c = any_from_yields_List (λ p. leads_to (link_kind c.args.wiring.now.nodes (at_port c.args.node p)) c.args.number) _ _ _ c.any.ensures.ran (YieldsList-from_range 0 16 16 (cc) refl) (λ x b q k. search (rules, tests))
