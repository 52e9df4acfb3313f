use Rattle.bridges.proofs.promises.learnt_is_right.Goals as goal
use Rattle.bridges.proofs.Learnt.{learnt_right}

pub returns : goal.returns
returns c = learnt_right
