use Rattle.bridges.proofs.promises.frames_arrive_once.Goals as goal
use Rattle.bridges.proofs.Arrives.{arrives_once}

pub returns : goal.returns
returns c = arrives_once
