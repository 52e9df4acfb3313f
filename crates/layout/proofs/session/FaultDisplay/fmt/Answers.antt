use Rattle.std.proofs.Common.{rules, append_assoc}
use Rattle.layout.proofs.session.FaultDisplay.fmt.Goals as goal

pub returns-clause-writes : goal.returns-clause-writes
returns-clause-writes g c = let w = c.write.ensures.writes in search (rules, append_assoc)
