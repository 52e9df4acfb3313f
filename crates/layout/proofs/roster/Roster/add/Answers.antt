use Rattle.std.proofs.Common.{refl, ap, ◌∙◌, arith}
use Rattle.wiring.specs.Rules.{want_access}
use Rattle.layout.proofs.Finding.{counted, full}
use Rattle.layout.proofs.roster.Roster.add.Goals as goal

pub returns-then-len-ge-MOST : goal.returns-then-len-ge-MOST
returns-then-len-ge-MOST c =
    let kept = rw c.in_ok-kept.ensures.ok_part at c.new.ensures in (
      full c.args.wiring.now.nodes _ _ _ c.args.port kept.1 c.if-has_name.ensures c.if-has_address.ensures (c.in_ok-want_access.ensures ∙ ap want_access c.port.ensures)
          (omega (arith, counted c.args.self.now.list)),
      refl,
    )
