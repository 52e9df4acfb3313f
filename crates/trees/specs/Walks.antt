-- What is promised of walks along a tree. Assumes nothing.
use Rattle.std.specs.Prelude.{◌≡◌, ℕ, true, List}
use Rattle.trees.specs.Tree.{Tree, looks, Walk, different, all_below}

-- whoever walks along a tree and never goes straight back is nowhere twice
abbrev pub Simple : Type 0
Simple = (n : ℕ) (t : Tree) → looks n t ≡ true → (bs : List ℕ) → all_below n bs ≡ true → Walk t bs → different bs ≡ true
