use Rattle.std.proofs.Common.{is_ok, vec_items}
use Rattle.wire.proofs.Appended.{carried}
use Rattle.messages.proofs.link_state.LinkState.encode.Goals as goal

pub returns : goal.returns
returns c = carried (vec_items c.args.out.now) (is_ok c.append_summed.result) c.head.ensures c.to_bytes.ensures.whole c.append_summed.ensures
