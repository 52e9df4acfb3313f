use Rattle.std.proofs.Common.{◌≡◌, ◌≢◌, [], filter, MatchOption, rules, arith}
use Rattle.std.proofs.lemmas.Grind.{common_steps}
use Rattle.std.specs.List.{All, Contains}
use Rattle.std.specs.Iterator.Runs.{AllItems}
use Rattle.fdb.specs.Held.{held}
use Rattle.fdb.proofs.Oldest.{NotBefore, others, chosen, items-all}
use Rattle.fdb.proofs.table.Table.oldest_but.Goals as goal

pub returns : goal.returns
returns c =
    let p = c.min_by_key.ensures.runs.0 in
    let es = held c.args.self.now in
    let r = c.min_by_key.result in
    let kept : p.items ≡ filter (others c.args.keep) es = search rules in
    let b1 : MatchOption r (filter (others c.args.keep) es ≡ []) (λ m. Contains es m × (m.station ≢ c.args.keep)) = grind (arith, common_steps, kept) in
    let b2 : MatchOption r (Unit {0}) (λ m. AllItems p (NotBefore m)) = grind (arith, common_steps) in
    let b3 : MatchOption r (filter (others c.args.keep) es ≡ []) (λ m. Contains es m × (m.station ≢ c.args.keep) × All (NotBefore m) (filter (others c.args.keep) es)) = grind (arith, items-all, kept, b1, b2) in
    chosen c.args.keep es r c.args.self.now.sorted b3
