-- The player of a script.
use Rattle.std.specs.Prelude.{◌≡◌, ℕ, Bool, true, false, ◌&&◌, List, [], ◌∷◌, replicate, Some, None, Ok, Err, vec_items, Option, Result, ◌≢◌, nat_lt, slice_index_or}
use Rattle.wiring.specs.declared.boxes.Node.{Node}
use Rattle.trees.specs.declared.spanning_tree.Tree.{Tree}
use Rattle.trees.specs.Ids.{id_number}
use Rattle.trees.specs.Meanings.{meaning}
use Rattle.forwarding.specs.declared.bridge.Bridge.{Bridge}
use Rattle.forwarding.specs.State.{adopted}
use Rattle.scenario.specs.declared.forest.Refusal.{Refusal}
use Rattle.scenario.specs.declared.forest.Refusal.TheVariants as refusal
use Rattle.scenario.specs.declared.player.Player.{Player}
use Rattle.scenario.specs.Boxes.{all_hold}
use Rattle.scenario.specs.Cables.{on_at}
use Rattle.scenario.specs.Forest.{latest_with}
use Rattle.scenario.specs.Resting.{rests_along}
use Rattle.scenario.specs.Slots.{state_in, become}

-- the trees that were announced
abbrev pub trees_of : Player → List Tree
trees_of p = vec_items p.forest.list

-- nothing is there yet
abbrev pub Fresh : Player → Type 0
Fresh p =
    (p.bridges ≡ None ∷ None ∷ None ∷ None ∷ None ∷ None ∷ []) × (p.losses.left ≡ replicate 6 (replicate 16 0))
    × (p.clock ≡ 0) × (trees_of p ≡ [])

-- all but the bridges is as it was
abbrev pub Kept : Player → Player → Type 0
Kept p q = (q.losses ≡ p.losses) × (q.clock ≡ p.clock) × (q.forest ≡ p.forest)

-- all boxes that are on have a tree as their newest, and hang together along it
abbrev pub is_at_rest : List (Option Bridge) → List Node → Tree → Bool
is_at_rest bs ns t = all_hold 6 bs ns (id_number t.id) && rests_along ns (meaning t)

-- the latest tree with a sequence number
abbrev pub latest_of : Player → ℕ → Option Tree
latest_of p q = latest_with q (trees_of p)

-- the bridge of a box adopted a tree, and the others are as they were
abbrev pub AdoptedOne : ℕ → Option Tree → List (Option Bridge) → List (Option Bridge) → Type 0
AdoptedOne n None bs cs = ⊥
AdoptedOne n (Some t) bs cs =
    (state_in (slice_index_or cs n None) ≡ become (adopted (meaning t)) (state_in (slice_index_or bs n None)))
    × ((k : ℕ) → (k ≢ n) → slice_index_or cs k None ≡ slice_index_or bs k None)

-- a box adopts the latest tree with a sequence number; where it is off, or there is none, nothing changes
abbrev pub AdoptedAt : List Node → ℕ → ℕ → Player → Result (Unit {0}) Refusal → Player → Type 0
AdoptedAt ns n q p (Ok u) p' = (on_at ns n ≡ true) × AdoptedOne n (latest_of p q) p.bridges p'.bridges
AdoptedAt ns n q p (Err refusal.NoBridge) p' = ((on_at ns n && nat_lt n 6) ≡ false) × (p'.bridges ≡ p.bridges)
AdoptedAt ns n q p (Err refusal.UnknownTree) p' = (on_at ns n ≡ true) × (latest_of p q ≡ None) × (p'.bridges ≡ p.bridges)
AdoptedAt ns n q p (Err (refusal.NotATree e)) p' = ⊥
AdoptedAt ns n q p (Err refusal.NoRoom) p' = ⊥
