use Rattle.bridges.proofs.promises.rest_can_come.Goals as goal
use Rattle.bridges.proofs.CanRest.{can_rest}

pub returns : goal.returns
returns c = can_rest
