use Rattle.network.proofs.net_runs_as_promised.Goals as goal
use Rattle.network.proofs.Runs.{runs_as_net}

pub returns : goal.returns
returns c = runs_as_net
