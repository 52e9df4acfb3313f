use Rattle.network.proofs.net_goes_on_as_promised.Goals as goal
use Rattle.network.proofs.Runs.{goes_on_as_net}

pub returns : goal.returns
returns c = goes_on_as_net
