use Rattle.std.proofs.Common.{refl, ap, ◌∙◌, subst}
use Rattle.std.specs.Fmt.{HasWritten}
use Rattle.layout.proofs.Finding.{shown_is}
use Rattle.layout.proofs.names.NameDisplay.fmt.Goals as goal

pub returns-clause-writes : goal.returns-clause-writes
returns-clause-writes g c =
    let w = c.write_str.ensures.writes in
    λ p k. subst (λ bs. HasWritten g.W.Write.write_str_gives c.args.f.now bs c.write_str.new.self) (ap (λ t. t.now) c.unwrap_or.ensures ∙ shown_is c.args.self.now _ c.from_utf8.result _ _ c.text.ensures c.from_utf8.ensures.cases refl) (w p k)
