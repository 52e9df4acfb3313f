use Rattle.std.proofs.Common.{refl, arith}
use Rattle.std.proofs.lemmas.Bool.Decides.{nat_tests}
use Rattle.rows.proofs.Rings.{length-frames, slots_pop}
use Rattle.rows.proofs.row.Row.pop.Goals as goal

pub returns-clause-within : goal.returns-clause-within
returns-clause-within c = rw length-frames (omega arith)

pub returns-clause-some : goal.returns-clause-some
returns-clause-some c = rw length-frames (grind (arith, nat_tests))

pub returns-clause-after : goal.returns-clause-after
returns-clause-after c = slots_pop _ _ _ _ _ _ refl refl refl (omega arith)
