use Rattle.std.proofs.Common.{◌≡◌, true, sym, subst, rules}
use Rattle.fdb.specs.Entries.{ascending}
use Rattle.fdb.specs.Held.{held}
use Rattle.fdb.proofs.Ordered.{noted, learned-new, learned-ascending, room_new}
use Rattle.fdb.proofs.table.Table.note.Goals as goal

pub invariant_of-self : goal.invariant_of-self
invariant_of-self c =
    let es = held c.args.self.now in
    record {
      room = search rules;
      sorted = subst (λ xs. ascending xs ≡ true) (sym (noted c.args.entry c.args.keep es c.in-Ok.i c.in-Ok.ensures)) (learned-ascending c.args.entry c.args.keep es c.args.self.now.sorted);
    }

pub insert-requires-clause-new : goal.insert-requires-clause-new
insert-requires-clause-new c = search (rules, room_new)

pub returns-in-Ok-clause-items : goal.returns-in-Ok-clause-items
returns-in-Ok-clause-items c = noted c.args.entry c.args.keep (held c.args.self.now) c.in-Ok.i c.in-Ok.ensures

pub returns-in-Err-clause-items : goal.returns-in-Err-clause-items
returns-in-Err-clause-items c = search (rules, learned-new)
