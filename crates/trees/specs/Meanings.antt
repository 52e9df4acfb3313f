-- The tree that a value is, and why rows of parents and depths are none. Assumes nothing.
use Rattle.std.specs.Prelude.{◌≡◌, ℕ, false, List}
use Rattle.trees.specs.Tree.{looks}
use Rattle.trees.specs.Tree as formal
use Rattle.trees.specs.Ids.{id_number}
use Rattle.trees.specs.Shapes.{shaped, Named, Unnamed}
use Rattle.trees.specs.declared.spanning_tree.Tree.{Tree}
use Rattle.trees.specs.declared.shape.TreeFault.{TreeFault}
use Rattle.trees.specs.declared.shape.TreeFault.TheVariants.{NoSuchBridge, NotATree}

abbrev pub meaning : Tree → formal.Tree
meaning t = shaped (id_number t.id) t.parent t.depth

-- why they are no tree: a parent that is no bridge comes first
abbrev pub Refused : ℕ → List ℕ → List ℕ → TreeFault → Type 0
Refused number parent depth NoSuchBridge = Unnamed parent
Refused number parent depth NotATree = Named parent × (looks 128 (shaped number parent depth) ≡ false)
