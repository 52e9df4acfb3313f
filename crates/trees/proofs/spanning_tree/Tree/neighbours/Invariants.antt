use Rattle.std.proofs.Common.{◌≡◌, ℕ, ◌<◌, ◌&&◌, ltb}
use Rattle.sets.specs.Sets.{has}
use Rattle.trees.specs.Tree.{joined}
use Rattle.trees.specs.Meanings.{meaning}
use Rattle.trees.proofs.spanning_tree.Tree.neighbours.Given as goal

abbrev pub invariant-loop-k : goal.invariant-loop-k
invariant-loop-k l = (j : ℕ) → j < 128 → has l.found.bits j ≡ (ltb j l.k && joined (meaning l.self) l.b.value j)
