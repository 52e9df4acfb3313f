use Rattle.fdb.proofs.Stations.{apart}
use Rattle.fdb.proofs.theorems.stations_stand.Goals as goal

pub returns : goal.returns
returns c = apart
