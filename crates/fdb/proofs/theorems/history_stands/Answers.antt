use Rattle.fdb.proofs.Histories.{history}
use Rattle.fdb.proofs.theorems.history_stands.Goals as goal

pub returns : goal.returns
returns c = history
