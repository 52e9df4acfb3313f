use Rattle.std.proofs.Common.{ap, ◌∙◌}
use Rattle.wiring.specs.Rules.{want_access}
use Rattle.layout.proofs.Finding.{moved}
use Rattle.layout.proofs.roster.Roster.relocate.Goals as goal

pub returns : goal.returns
returns c =
    let there = rw c.in_ok-i.ensures.ok_part at c.place_of.ensures in
    moved _ c.args.self.now.list c.args.name.now c.args.port c.in_ok-i.i c.index_mut.result.now there.0 there.1 there.2 (c.in_ok-want_access.ensures ∙ ap want_access c.port.ensures) c.index_mut.ensures.value
