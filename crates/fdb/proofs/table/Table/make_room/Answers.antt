use Rattle.std.proofs.Common.{◌≡◌, ◌<◌, length, None, rules, arith}
use Rattle.std.proofs.lemmas.Bool.{leb-true, leb-false}
use Rattle.fdb.specs.Entries.{oldest}
use Rattle.fdb.specs.Held.{held}
use Rattle.fdb.proofs.Ordered.{room_free, room_removed, made_ascending, oldest-some}
use Rattle.fdb.proofs.Found.{oldest-held}
use Rattle.fdb.proofs.table.Table.make_room.Goals as goal

pub unwrap-i-requires : goal.unwrap-i-requires
unwrap-i-requires c = search (rules, oldest-held)

pub invariant_of-self-clause-sorted : goal.invariant_of-self-clause-sorted
invariant_of-self-clause-sorted c = made_ascending c.args.keep (held c.args.self.now) _ c.args.self.now.sorted (search (rules, room_removed, oldest-held, leb-true))

pub returns-in-Some-clause-items : goal.returns-in-Some-clause-items
returns-in-Some-clause-items c = search (rules, room_removed, oldest-held, leb-true)

pub returns-in_default : goal.returns-in_default
returns-in_default c =
    let n : oldest c.args.keep (held c.args.self.now) ≡ None = search rules in
    let l : length (held c.args.self.now) < 2 = oldest-some c.args.keep (held c.args.self.now) c.args.self.now.sorted n in
    absurd (grind (arith, leb-true))

pub returns-else-is_full-clause-items : goal.returns-else-is_full-clause-items
returns-else-is_full-clause-items c = search (rules, room_free, leb-false)
