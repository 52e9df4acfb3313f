use Rattle.fdb.proofs.Learns.{learns}
use Rattle.fdb.proofs.theorems.learning_stands.Goals as goal

pub returns : goal.returns
returns c = learns
