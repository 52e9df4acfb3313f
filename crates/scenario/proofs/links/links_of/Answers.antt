use Rattle.std.proofs.Common.{None, rules}
use Rattle.scenario.proofs.links.links_of.Goals as goal

pub returns : goal.returns
returns c = λ p h. let said = c.at_ports.ensures p None h in search (rules, said)
