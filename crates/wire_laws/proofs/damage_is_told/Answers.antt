use Rattle.wire_laws.proofs.Damaged.{all_told}
use Rattle.wire_laws.proofs.damage_is_told.Goals as goal

pub returns : goal.returns
returns c = all_told
