-- What two rows of 128 bytes say as a tree: the parent and the depth of each bridge. Assumes nothing.
use Rattle.std.specs.Prelude.{◌≡◌, ℕ, ◌<◌, ◌≤◌, cond, ◌⊎◌, List, Decides, nat_lt, slice_index}
use Rattle.trees.specs.Tree.{Tree, looks}

-- who is no bridge of the 128 has nobody above it
abbrev pub shaped : ℕ → List ℕ → List ℕ → Tree
shaped number parent depth = record { number = number; above = λ b. cond (nat_lt b 128) (slice_index parent b) b; far = λ b. slice_index depth b }

-- every parent is a bridge
abbrev pub Named : List ℕ → Type 0
Named parent = (b : ℕ) → b < 128 → slice_index parent b < 128

-- some parent is no bridge
abbrev pub Unnamed : List ℕ → Type 0
Unnamed parent = (b : ℕ) × (b < 128) × (128 ≤ slice_index parent b)

-- whoever isn't at a top stands below somebody nearer to it
abbrev pub Hangs : Tree → ℕ → Type 0
Hangs t b = (t.above b ≡ b) ⊎ (t.far (t.above b) < t.far b)

abbrev pub LooksInWords : Type 0
LooksInWords = (n : ℕ) (t : Tree) → Decides (looks n t) ((b : ℕ) → b < n → Hangs t b)
