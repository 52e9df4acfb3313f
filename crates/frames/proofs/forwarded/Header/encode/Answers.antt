use Rattle.std.proofs.Common.{is_ok, vec_items, refl}
use Rattle.wire.proofs.Appended.{carried}
use Rattle.frames.proofs.forwarded.Header.encode.Goals as goal

pub returns : goal.returns
returns c = carried (vec_items c.args.out.now) (is_ok c.append_summed.result) c.head.ensures refl c.append_summed.ensures
