use Rattle.std.proofs.Common.{vec_items, ◌∙◌, rules, tests}
use Rattle.std.proofs.lemmas.Iterator.{YieldsList-from_slice}
use Rattle.std.proofs.lemmas.Iterator.Search.{any_from_yields_List}
use Rattle.std.specs.Str.{bytes_eq}
use Rattle.layout.proofs.Finding.{addressed}
use Rattle.layout.proofs.roster.Roster.has_address.Goals as goal

pub returns : goal.returns
returns c =
    any_from_yields_List (λ s. bytes_eq s.address c.args.address.now) _ _ c.any.result c.any.ensures.ran (YieldsList-from_slice (vec_items c.args.self.now.list) cc) (λ x b q k. search (rules, tests))
    ∙ addressed c.args.address.now c.args.self.now.list
