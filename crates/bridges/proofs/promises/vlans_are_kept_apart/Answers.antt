use Rattle.bridges.proofs.promises.vlans_are_kept_apart.Goals as goal
use Rattle.bridges.proofs.Vlan.{right_vlan}

pub returns : goal.returns
returns c = right_vlan
