use Rattle.std.proofs.Common.{length}
use Rattle.layout.specs.Session.{unread_of}
use Rattle.parade.proofs.play.play.Given as goal

abbrev pub decreases-loop-read : goal.decreases-loop-read
decreases-loop-read l = length (unread_of l.session)
