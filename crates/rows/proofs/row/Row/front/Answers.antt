use Rattle.std.proofs.Common.{length, ap, arith}
use Rattle.rows.proofs.Rings.{length-frames, slots_front}
use Rattle.rows.proofs.row.Row.front.Goals as goal

pub returns-clause-first : goal.returns-clause-first
returns-clause-first c = slots_front _ _ _ _ _ (omega (arith, c.args.self.now.slots.ok.0)) (omega arith) (omega arith) c.index.ensures c.as_bytes.ensures.bytes

pub returns-clause-within : goal.returns-clause-within
returns-clause-within c = (rw length-frames (omega arith), let same = ap length c.as_bytes.ensures.bytes in let small = c.as_bytes.ensures.within in omega arith)
