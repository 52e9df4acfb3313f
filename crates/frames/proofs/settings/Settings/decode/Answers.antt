use Rattle.std.proofs.Common.{rules}
use Rattle.wire.specs.declared.kind.Kind.TheVariants.{Settings}
use Rattle.frames.proofs.settings.Settings.decode.Goals as goal

pub returns-in_err-of : goal.returns-in_err-of
returns-in_err-of c =
    let no = c.in_err-of.ensures.1 Settings in
    search rules
