use Rattle.bridges.proofs.promises.who_stays_gets_it_once.Goals as goal
use Rattle.bridges.proofs.Twice.{once_if_still}

pub returns : goal.returns
returns c = once_if_still
