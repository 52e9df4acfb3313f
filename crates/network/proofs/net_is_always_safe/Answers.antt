use Rattle.network.proofs.net_is_always_safe.Goals as goal
use Rattle.network.proofs.Safe.{always_safe}

pub returns : goal.returns
returns c = always_safe
