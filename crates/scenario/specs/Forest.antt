-- Trees that were announced.
use Rattle.std.specs.Prelude.{◌≡◌, ℕ, ◌+◌, ◌*◌, ◌^◌, ◌<◌, ◌≤◌, List, [], ◌∷◌, ◌++◌, length, Ok, Err, find, reverse, Option, Result, ◌==◌}
use Rattle.wiring.specs.declared.boxes.Node.{Node}
use Rattle.wiring.specs.Boxes.{number_at}
use Rattle.trees.specs.declared.spanning_tree.Tree.{Tree}
use Rattle.trees.specs.Meanings.{Refused}
use Rattle.scenario.specs.declared.forest.Refusal.{Refusal}
use Rattle.scenario.specs.declared.forest.Refusal.TheVariants as refusal
use Rattle.scenario.specs.Plans.{parent_row, depth_row}

abbrev pub refusal_number : Refusal → ℕ
refusal_number refusal.NoBridge = 2
refusal_number refusal.UnknownTree = 4
refusal_number (refusal.NotATree e) = 5
refusal_number refusal.NoRoom = 7

-- the last of some trees with a sequence number
abbrev pub latest_with : ℕ → List Tree → Option Tree
latest_with q ts = find (λ t. t.id.seq == q) (reverse ts)

-- the number of the tree that is announced next: what it drew is how many there were
abbrev pub next_number : List Node → ℕ → ℕ → List Tree → ℕ
next_number ns q n ts = (q * 256 + number_at ns n) * 2 ^ 24 + length ts

-- a box announces a tree: it comes last, or it is none and nothing changes
abbrev pub Announced : List Node → ℕ → ℕ → List ℕ → List Tree → Result Tree Refusal → List Tree → Type 0
Announced ns q n ps ts (Ok t) us =
    (us ≡ ts ++ (t ∷ [])) × (length ts < 32)
    × (t.id.seq ≡ q) × (t.id.announcer.value ≡ number_at ns n) × (t.id.nonce ≡ length ts)
    × (t.parent ≡ parent_row ns ps) × (t.depth ≡ depth_row ns ps)
Announced ns q n ps ts (Err refusal.NoBridge) us = (us ≡ ts) × (128 ≤ number_at ns n)
Announced ns q n ps ts (Err refusal.UnknownTree) us = ⊥
Announced ns q n ps ts (Err (refusal.NotATree e)) us = (us ≡ ts) × Refused (next_number ns q n ts) (parent_row ns ps) (depth_row ns ps) e
Announced ns q n ps ts (Err refusal.NoRoom) us = (us ≡ ts) × (32 ≤ length ts)
