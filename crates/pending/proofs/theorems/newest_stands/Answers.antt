use Rattle.pending.proofs.Words.{only_the_newest}
use Rattle.pending.proofs.theorems.newest_stands.Goals as goal

pub returns : goal.returns
returns c = only_the_newest
