use Rattle.std.proofs.Common.{rules, arith}
use Rattle.std.proofs.lemmas.Fn.{filter_same}
use Rattle.fdb.specs.Entries.{fresh, remembered}
use Rattle.fdb.proofs.Ordered.{ascending-kept}
use Rattle.fdb.proofs.table.Table.forget.Goals as goal

pub invariant_of-self : goal.invariant_of-self
invariant_of-self c =
    let left = filter_same _ (fresh c.args.tick) _ (λ x r f h. search rules) _ _ c.retain.ensures.filtered in
    record { room = (omega arith, omega arith); sorted = rw left (ascending-kept (fresh c.args.tick) _ c.args.self.now.sorted) }

pub returns : goal.returns
unfolding remembered
returns c =
    let left = filter_same _ (fresh c.args.tick) _ (λ x r f h. search rules) _ _ c.retain.ensures.filtered in
    cc
