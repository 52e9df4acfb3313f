use Rattle.std.proofs.Common.{vec_items, rules, tests}
use Rattle.std.proofs.lemmas.Iterator.{YieldsList-from_slice}
use Rattle.std.proofs.lemmas.Iterator.Search.{position_from_yields_List}
use Rattle.std.specs.Str.{bytes_eq}
use Rattle.layout.specs.Stations.{text_of}
use Rattle.layout.proofs.Finding.{found}
use Rattle.layout.proofs.roster.Roster.place_of.Goals as goal

pub returns : goal.returns
returns c =
    found c.args.name.now c.args.self.now.list c.position.result
    (position_from_yields_List (λ s. bytes_eq (text_of s.name) c.args.name.now) _ _ c.position.result c.position.ensures.ran (YieldsList-from_slice (vec_items c.args.self.now.list) cc) (λ x b q k. search (rules, tests)))
