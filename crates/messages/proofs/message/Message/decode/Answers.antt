use Rattle.std.proofs.Common.{◌≡◌, Some, sym, ap, ◌∙◌, subst}
use Rattle.std.proofs.lemmas.Result.{err_from_is_err_and}
use Rattle.wire.specs.declared.fault.Fault.TheVariants.{Malformed}
use Rattle.wire.specs.declared.kind.Kind.TheVariants.{Frame, Hello, LinkState, Tree, Ack}
use Rattle.messages.specs.Messages.{kind_of, message_fault, DecodesMessage}
use Rattle.messages.proofs.Others.{other_kind}
use Rattle.messages.proofs.message.Message.decode.Goals as goal

pub returns-in_err-of : goal.returns-in_err-of
returns-in_err-of c =
    let b = c.args.bytes.now in
    let p = err_from_is_err_and c.from_residual.result c.from_residual.ensures.1 in
    let n = c.in_err-of.ensures in
    let other : message_fault b ≡ Some Malformed = other_kind (kind_of b) _ _ _ _ _ _ (n.1 Frame) (n.1 Hello) (n.1 LinkState) (n.1 Tree) (n.1 Ack) in
    let e : message_fault b ≡ Some p.0 = other ∙ ap Some (sym (p.2 ∙ n.0)) in
    subst (DecodesMessage b) (sym p.1) e
