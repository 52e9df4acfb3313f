use Rattle.network.proofs.net_does_as_contracts_say.Goals as goal
use Rattle.network.proofs.AsContracts.{as_contracts}

pub returns : goal.returns
returns c = as_contracts
