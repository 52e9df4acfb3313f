use Rattle.bridges.proofs.promises.whole_net_is_guaranteed.Goals as goal
use Rattle.bridges.proofs.Guaranteed.{guaranteed}

pub returns : goal.returns
returns c = guaranteed
