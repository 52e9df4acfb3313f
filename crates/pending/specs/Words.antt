-- What the rules come to: which message leaves first, and that only the newest acknowledgement does.
use Rattle.std.specs.Prelude.{◌≡◌, ℕ, zero, suc, ◌<◌, ◌≤◌, Bool, false, ◌⊎◌, List, [], ◌∷◌, Some, None, Option}
use mathlib.Core.List.{Memᴰ}
use Rattle.pending.specs.Tables.{noted}
use Rattle.pending.specs.Acks.{later, higher}
use Rattle.pending.specs.Waits.{Waits, Message, next_of, hellos, link_acks_for, tree_acks_for, link_states_for, trees_for}

-- The message of a kind for a bridge, if one waits: hellos are kind 0, acknowledgements of link states 1 and of trees 2, link states 3, trees 4.
abbrev pub at : Waits → ℕ → ℕ → Option Message
at w zero b = hellos w
at w (suc zero) b = link_acks_for w b
at w (suc (suc zero)) b = tree_acks_for w b
at w (suc (suc (suc zero))) b = link_states_for w b
at w (suc (suc (suc (suc zero)))) b = trees_for w b
at w (suc (suc (suc (suc (suc k))))) b = None

-- What leaves waits, and whatever else waits is of a later kind, or of the same kind for a bridge that is no lower.
abbrev pub LowestFirst : Type 0
LowestFirst = (w : Waits) (m : Message) → next_of w ≡ Some m → (kind : ℕ) × (bridge : ℕ) × (at w kind bridge ≡ Some m) × ((k b : ℕ) (n : Message) → b < 128 → at w k b ≡ Some n → (kind < k) ⊎ ((kind ≡ k) × (bridge ≤ b)))

-- Where nothing leaves, nothing waits.
abbrev pub NoneLeft : Type 0
NoneLeft = (w : Waits) → next_of w ≡ None → (k b : ℕ) → b < 128 → at w k b ≡ None

abbrev pub note_all : {X : Type 0} → (X → X → Bool) → ℕ → List X → (ℕ → Option X) → ℕ → Option X
note_all newer b [] t = t
note_all newer b (x ∷ xs) t = note_all newer b xs (noted newer b x t)

-- However many come for one bridge before any leaves, one of them waits, and none of them is newer.
abbrev pub OnlyNewest : {X : Type 0} → (X → X → Bool) → Type 0
OnlyNewest {X} newer =
    (t : ℕ → Option X) (b : ℕ) (x : X) (xs : List X) → t b ≡ None → (u : X) × (note_all newer b (x ∷ xs) t b ≡ Some u) × Memᴰ u (x ∷ xs) × ((y : X) → Memᴰ y (x ∷ xs) → newer y u ≡ false)

abbrev pub OnlyTheNewest : Type 0
OnlyTheNewest = OnlyNewest later × OnlyNewest higher
