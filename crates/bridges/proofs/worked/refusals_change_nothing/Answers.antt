use Rattle.bridges.proofs.Refusals.{refusals}
use Rattle.bridges.proofs.worked.refusals_change_nothing.Goals as goal

pub returns : goal.returns
returns c = refusals
