use Rattle.crc.proofs.Windows.{all_told}
use Rattle.crc.proofs.burst.bursts_are_told.Goals as goal

pub returns : goal.returns
returns c = all_told
