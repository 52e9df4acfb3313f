use Rattle.bridges.proofs.promises.no_bridge_hands_over_twice.Goals as goal
use Rattle.bridges.proofs.Twice.{not_twice}

pub returns : goal.returns
returns c = not_twice
