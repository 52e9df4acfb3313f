use Rattle.fdb.proofs.Learns.{ages}
use Rattle.fdb.proofs.theorems.ageing_stands.Goals as goal

pub returns : goal.returns
returns c = ages
