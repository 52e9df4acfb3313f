use Rattle.fdb.proofs.Histories.{longest}
use Rattle.fdb.proofs.theorems.longest_stands.Goals as goal

pub returns : goal.returns
returns c = longest
