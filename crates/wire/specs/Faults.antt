-- The number of each cause for which bytes are refused.
use Rattle.std.specs.Prelude.{ℕ}
use Rattle.trees.specs.declared.shape.TreeFault.{TreeFault}
use Rattle.trees.specs.declared.shape.TreeFault.TheVariants.{NoSuchBridge}
use Rattle.trees.specs.declared.shape.TreeFault.TheVariants as trees
use Rattle.wire.specs.declared.fault.Fault.{Fault}
use Rattle.wire.specs.declared.fault.Fault.TheVariants.{Malformed, GroupSender, NotThere, NotATree, BadSettings}

abbrev pub number_of : Fault → ℕ
number_of Malformed = 1
number_of GroupSender = 1
number_of NotThere = 2
number_of NotATree = 5
number_of BadSettings = 10

-- the cause for which a tree's bytes are refused
abbrev pub fault_of : TreeFault → Fault
fault_of NoSuchBridge = NotThere
fault_of trees.NotATree = NotATree
