use Rattle.std.proofs.Common.{refl}
use Rattle.trees.specs.Tree.{looks, is_in}
use Rattle.bridges.specs.Net.{tree_of, floods, without, two, send_by}
use Rattle.bridges.specs.Fabric.{handed, arrives, run}
use Rattle.bridges.specs.Trace.{copy_at, last_answer, of_frame, visits, hops, receivers, known, held}
use Rattle.bridges.specs.Cases.{after, cabled, laid, asked, replied, fallen, announced, moved_on, passed, cases}
use Rattle.bridges.proofs.worked.worked_cases_hold.Goals as goal

pub returns : goal.returns
unfolding looks is_in tree_of floods without two send_by handed arrives run copy_at last_answer of_frame visits hops receivers known held after cabled laid asked replied fallen announced moved_on passed cases
returns c = (refl, (refl, (refl, (refl, (refl, (refl, (refl, (refl, (refl, (refl, (refl, (refl, (refl, (refl, (refl, tt)))))))))))))))
