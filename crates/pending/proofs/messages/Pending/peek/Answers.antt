use Rattle.std.proofs.Common.{arith}
use Rattle.std.proofs.lemmas.Bool.Decides.{nat_tests}
use Rattle.pending.specs.Waits.{waits, AckLinkState, AckTree, LinkState}
use Rattle.pending.proofs.Lowest.{table_first, table_none, set_first, set_none, tree_first, second, third, fourth, fifth}
use Rattle.pending.proofs.messages.Pending.peek.Goals as goal

pub returns-in-Some : goal.returns-in-Some
returns-in-Some c = second (waits c.args.self.now) _ (grind (arith, nat_tests)) (table_first AckLinkState _ _ _ c.in-Some.ack.bridge.ok c.in-Some.ensures)

pub returns-in-Some-first : goal.returns-in-Some-first
returns-in-Some-first c =
    third (waits c.args.self.now) _ (grind (arith, nat_tests)) (table_none AckLinkState _ c.in_default.ensures)
    (table_first AckTree _ _ _ c.in-Some-first.ack.bridge.ok c.in-Some-first.ensures)

pub returns-in-Some-first-2 : goal.returns-in-Some-first-2
returns-in-Some-first-2 c =
    fourth (waits c.args.self.now) _ (grind (arith, nat_tests)) (table_none AckLinkState _ c.in_default.ensures) (table_none AckTree _ c.in_default-first.ensures)
    (set_first LinkState _ _ c.in-Some-first-2.bridge.ok c.in-Some-first-2.ensures.0 c.in-Some-first-2.ensures.1)

pub returns : goal.returns
returns c =
    fifth (waits c.args.self.now) _ (grind (arith, nat_tests)) (table_none AckLinkState _ c.in_default.ensures) (table_none AckTree _ c.in_default-first.ensures)
    (set_none LinkState _ c.in_default-first-2.ensures) (tree_first _ _ _ c.first-4.ensures c.map.ensures.cases)
