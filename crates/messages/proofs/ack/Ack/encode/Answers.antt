use Rattle.std.proofs.Common.{cond, ◌++◌, is_ok, vec_items, sym, ap, ◌∙◌}
use Rattle.messages.specs.Acks.{acked_bytes}
use Rattle.wire.specs.Bytes.{with_sum}
use Rattle.wire.proofs.Appended.{carried}
use Rattle.messages.proofs.ack.Ack.encode.Goals as goal

pub returns-in-LinkState : goal.returns-in-LinkState
returns-in-LinkState c =
    let v = vec_items c.args.out.now in
    let ok = is_ok c.append_summed.result in
    carried v ok c.head.ensures c.link_state_bytes-named.ensures c.append_summed.ensures
    ∙ ap (λ k. cond ok (v ++ with_sum (acked_bytes c.args.self.incarnation k)) v) (sym c.in-LinkState.is)
