-- Trees as a script names them: for each box the one above it.
use Rattle.std.specs.Prelude.{◌≡◌, ℕ, zero, suc, ◌+◌, Bool, true, false, cond, List, [], ◌∷◌, replicate, Ok, Err, Result, ◌==◌, nat_lt, slice_index, slice_set}
use Rattle.std.specs.List.{range_with_len}
use Rattle.trees.specs.declared.spanning_tree.Tree.{Tree}
use Rattle.trees.specs.declared.tree_id.TreeId.{TreeId}
use Rattle.trees.specs.declared.shape.TreeFault.{TreeFault}
use Rattle.trees.specs.Ids.{id_number}
use Rattle.trees.specs.Meanings.{Refused}
use Rattle.wiring.specs.declared.boxes.Node.{Node}
use Rattle.wiring.specs.declared.boxes.Power.{Power}
use Rattle.wiring.specs.declared.boxes.Power.TheVariants as power
use Rattle.wiring.specs.Boxes.{power_at, number_at}

abbrev pub is_there : Power → Bool
is_there power.Absent = false
is_there power.On = true
is_there power.Off = true

-- the box is there, on or off
abbrev pub there : List Node → ℕ → Bool
there ns n = is_there (power_at ns n)

-- the box above a box: itself where none is named that is there
abbrev pub above_box : List Node → List ℕ → ℕ → ℕ
above_box ns ps n = cond (nat_lt n 6) (cond (there ns (slice_index ps n)) (slice_index ps n) n) n

-- where one comes from a box by k steps upward
unfoldable pub up_from : ℕ → List Node → List ℕ → ℕ → ℕ
up_from zero ns ps n = n
up_from (suc k) ns ps n = above_box ns ps (up_from k ns ps n)

-- does a step upward from a box lead to another
abbrev pub rises : List Node → List ℕ → ℕ → ℕ
rises ns ps n = cond (above_box ns ps n == n) 0 1

-- how many of the first k steps upward from a box lead to another
unfoldable pub depth_of : ℕ → List Node → List ℕ → ℕ → ℕ
depth_of zero ns ps n = 0
depth_of (suc k) ns ps n = depth_of k ns ps n + rises ns ps (up_from k ns ps n)

-- the number of the bridge above the one in a box
abbrev pub number_above : List Node → List ℕ → ℕ → ℕ
number_above ns ps n = number_at ns (above_box ns ps n)

-- each bridge stands above itself
unfoldable pub own_row : List ℕ
own_row = range_with_len 0 128

-- the value of a box that is there, at the place of its bridge
abbrev pub spread_one : List Node → ℕ → ℕ → List ℕ → List ℕ
spread_one ns n v row = cond (there ns n) (cond (nat_lt (number_at ns n) 128) (slice_set row (number_at ns n) v) row) row

-- the values of the first k boxes, as far as they are there, at the places of their bridges
unfoldable pub spread : ℕ → List Node → List ℕ → List ℕ → List ℕ
spread zero ns vs row = row
spread (suc n) ns vs row = spread_one ns n (slice_index vs n) (spread n ns vs row)

-- what f says of each of the six boxes
abbrev pub six : (ℕ → ℕ) → List ℕ
six f = f 0 ∷ f 1 ∷ f 2 ∷ f 3 ∷ f 4 ∷ f 5 ∷ []

-- the bridge above each bridge
unfoldable pub parent_row : List Node → List ℕ → List ℕ
parent_row ns ps = spread 6 ns (six (number_above ns ps)) own_row

-- how deep each bridge is; where boxes stand above one another in a ring all of them are 6 deep, and that is no tree
unfoldable pub depth_row : List Node → List ℕ → List ℕ
depth_row ns ps = spread 6 ns (six (depth_of 6 ns ps)) (replicate 128 0)

-- the tree with these rows, or why they are none
abbrev pub Planned : TreeId → List ℕ → List ℕ → Result Tree TreeFault → Type 0
Planned id parent depth (Ok t) = (t.id ≡ id) × (t.parent ≡ parent) × (t.depth ≡ depth)
Planned id parent depth (Err e) = Refused (id_number id) parent depth e
