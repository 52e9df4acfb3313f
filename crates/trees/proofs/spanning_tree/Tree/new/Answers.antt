use Rattle.std.proofs.Common.{true, false}
use Rattle.trees.specs.Ids.{id_number}
use Rattle.trees.proofs.Shapes.{by_look}
use Rattle.trees.proofs.spanning_tree.Tree.new.Goals as goal

pub returns-then-not-is_tree : goal.returns-then-not-is_tree
returns-then-not-is_tree c = (c.if-not-is_named.ensures, by_look false 128 _ (c.if-not-is_tree.ensures (id_number c.args.id)))

pub invariant_of-result : goal.invariant_of-result
invariant_of-result c = record { named = c.if-not-is_named.ensures; shape = by_look true 128 _ (c.if-not-is_tree.ensures (id_number c.args.id)) }
