use Rattle.std.proofs.Common.{length}
use Rattle.layout.specs.Session.{unread_of}
use Rattle.script_cases.proofs.tests.faults_at.Given as goal

abbrev pub decreases-loop-read : goal.decreases-loop-read
decreases-loop-read g l = length (unread_of l.session)
