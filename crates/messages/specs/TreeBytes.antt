-- A tree: 4, number (8), for each of 128 bridges its parent (1) and its depth (1), sum (4).
use Rattle.std.specs.Prelude.{◌≡◌, ℕ, zero, suc, ◌+◌, ◌*◌, ◌^◌, cond, ◌&&◌, List, [], ◌∷◌, ◌++◌, Some, None, Option, Result, MatchResult, nat_lt, slice_index}
use Rattle.trees.specs.Tree.{all_below, looks}
use Rattle.trees.specs.Shapes.{shaped}
use Rattle.trees.specs.declared.spanning_tree.Tree.{Tree}
use Rattle.trees.specs.declared.tree_id.TreeId.{TreeId}
use Rattle.wire.specs.declared.fault.Fault.{Fault}
use Rattle.wire.specs.declared.fault.Fault.TheVariants.{Malformed, NotThere, NotATree}
use Rattle.wire.specs.Bytes.{three, four, pairs_of, whole, with_sum}
use Rattle.wire.specs.TreeIds.{TreeIdSays, tree_id_bytes}

-- every second byte from a place on, n of them
unfoldable pub row : List ℕ → ℕ → ℕ → List ℕ
row b i zero = []
row b i (suc n) = slice_index b i ∷ row b (i + 2) n

abbrev pub parents_in : List ℕ → List ℕ
parents_in b = row b 9 128

abbrev pub depths_in : List ℕ → List ℕ
depths_in b = row b 10 128

-- the number of the tree
abbrev pub number_in : List ℕ → ℕ
number_in b = (four b 1 * 256 + slice_index b 5) * 2 ^ 24 + three b 6

-- why it is refused: a bridge that isn't there comes before a tree that isn't one
abbrev pub tree_fault : List ℕ → Option Fault
tree_fault b =
    cond (whole 4 269 b)
    (cond (nat_lt (slice_index b 5) 128 && all_below 128 (parents_in b))
    (cond (looks 128 (shaped (number_in b) (parents_in b) (depths_in b))) None (Some NotATree))
    (Some NotThere))
    (Some Malformed)

-- what it says
pub record TreeSays (b : List ℕ) (t : Tree) : Type 0 where
  pub id : TreeIdSays b 1 t.id
  pub parent : t.parent ≡ parents_in b
  pub depth : t.depth ≡ depths_in b

abbrev pub DecodesTree : List ℕ → Result Tree Fault → Type 0
DecodesTree b r = MatchResult r (λ t. (tree_fault b ≡ None) × TreeSays b t) (λ e. tree_fault b ≡ Some e)

-- the parent and the depth of each bridge
abbrev pub paired : List ℕ → List ℕ → List ℕ
paired ps ds = pairs_of (λ k. slice_index ps k) (λ k. slice_index ds k) 0 128

abbrev pub tree_head : TreeId → List ℕ
tree_head i = 4 ∷ tree_id_bytes i

abbrev pub tree_bytes : Tree → List ℕ
tree_bytes t = with_sum (tree_head t.id ++ paired t.parent t.depth)
