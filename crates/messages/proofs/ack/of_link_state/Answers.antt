use Rattle.std.proofs.Common.{rules}
use Rattle.wire.specs.declared.kind.Kind.TheVariants.{LinkState}
use Rattle.messages.proofs.ack.of_link_state.Goals as goal

pub returns-in_err-try_from : goal.returns-in_err-try_from
returns-in_err-try_from c =
    let no = c.in_err-try_from.ensures.1 LinkState in
    search rules
