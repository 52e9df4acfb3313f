use Rattle.bridges.proofs.given.main_follows.Goals as goal
use Rattle.bridges.proofs.MainFrom.{main_from}

pub returns : goal.returns
returns c = main_from
