use Rattle.std.proofs.Common.{MatchResult, rules}
use Rattle.std.proofs.lemmas.List.Sorted.{answers_always}
use Rattle.fdb.specs.Search.{StandsAt, BelongsAt}
use Rattle.fdb.specs.Held.{held}
use Rattle.fdb.proofs.Place.{searched}
use Rattle.fdb.proofs.table.Table.locate.Goals as goal

pub returns : goal.returns
returns c =
    let facts = c.binary_search_by_key.ensures in
    let by_key = facts.position (λ entry. entry.station) (answers_always _ _ _ (λ f a r g called. search rules)) in
    let found : MatchResult c.binary_search_by_key.result (StandsAt c.args.station (held c.args.self.now)) (BelongsAt c.args.station (held c.args.self.now))
    = rw (← c.deref.ensures.value) (searched _ (rw c.deref.ensures.value c.args.self.now.sorted) c.args.station _ facts.bound by_key) in
    search rules
