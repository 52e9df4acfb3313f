use Rattle.std.proofs.Common.{rules}
use Rattle.ports.specs.declared.port.Port.TheVariants as port
use Rattle.scenario.proofs.links.start_ports.Goals as goal

pub returns : goal.returns
returns c = λ p h. let said = c.at_ports.ensures p port.Unused h in search (rules, said)
