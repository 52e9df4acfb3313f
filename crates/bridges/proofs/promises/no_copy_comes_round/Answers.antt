use Rattle.bridges.proofs.promises.no_copy_comes_round.Goals as goal
use Rattle.bridges.proofs.NoRound.{no_round}

pub returns : goal.returns
returns c = no_round
