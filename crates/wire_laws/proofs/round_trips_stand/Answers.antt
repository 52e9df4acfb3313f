use Rattle.wire_laws.proofs.Acks.{acks}
use Rattle.wire_laws.proofs.Frames.{frames}
use Rattle.wire_laws.proofs.Hellos.{hellos}
use Rattle.wire_laws.proofs.LinkStates.{link_states}
use Rattle.wire_laws.proofs.SettingsBack.{settings}
use Rattle.wire_laws.proofs.Trees.{trees}
use Rattle.wire_laws.proofs.round_trips_stand.Goals as goal

pub returns : goal.returns
returns c = record { hellos = hellos; link_states = link_states; acks = acks; trees = trees; frames = frames; settings = settings }
