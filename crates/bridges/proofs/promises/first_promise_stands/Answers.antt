use Rattle.bridges.proofs.promises.first_promise_stands.Goals as goal
use Rattle.bridges.proofs.MainFrom.{main_from}
use Rattle.bridges.proofs.Guaranteed.{guaranteed}

pub returns : goal.returns
returns c = main_from guaranteed
