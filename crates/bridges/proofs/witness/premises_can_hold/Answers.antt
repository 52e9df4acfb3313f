use Rattle.bridges.proofs.Premises.{met}
use Rattle.bridges.proofs.witness.premises_can_hold.Goals as goal

pub returns : goal.returns
returns c = met
