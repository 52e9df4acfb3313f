use Rattle.bridges.proofs.promises.frames_have_one_sender.Goals as goal
use Rattle.bridges.proofs.Vlan.{one_sender}

pub returns : goal.returns
returns c = one_sender
