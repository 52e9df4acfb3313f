use Rattle.std.proofs.Common.{◌≡◌, true, vec_items, sym, subst, rules}
use Rattle.fdb.specs.Entries.{ascending, put}
use Rattle.fdb.specs.Held.{held}
use Rattle.fdb.proofs.Ordered.{ascending-put}
use Rattle.fdb.proofs.table.Table.insert.Goals as goal

pub invariant_of-self : goal.invariant_of-self
invariant_of-self c =
    let now : vec_items c.insert.new.self ≡ put c.args.entry (held c.args.self.now) = search rules in
    record { room = search rules; sorted = subst (λ es. ascending es ≡ true) (sym now) (ascending-put c.args.entry _ c.args.self.now.sorted) }
