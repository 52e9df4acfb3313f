-- The parts of the promise, each alone: what Assured says, field by field, of every run. Assumes nothing.
use Rattle.std.specs.Prelude.{◌≡◌, ℕ, suc, ◌<◌, ◌≤◌, Bool, true, false, T, List, ◌∷◌, ◌++◌, length, ◌≢◌}
use mathlib.Core.List.{Memᴰ}
use Rattle.trees.specs.Tree.{Tree, looks, different}
use Rattle.bridges.specs.Net.{Copy, Unknown, Got, Rules, NoTree, tree_of}
use Rattle.bridges.specs.Promise.{NotWrong, Rests, Linked, count_got, none_of}
use Rattle.bridges.specs.Fabric.{Event, Send, Announce, run}
use Rattle.bridges.specs.Guarantee.{sent_by, count_all, stays, remembered, quietly, origin, only_trees}

-- no copy of a frame comes to a bridge where that copy was
abbrev pub NoRound : Type 0
NoRound = (lax : Bool) (r : Rules) (es : List Event) (x : Copy) → Memᴰ x (run lax r es).copies → different (x.at ∷ x.trail) ≡ true

-- no bridge hands a frame to a station twice
abbrev pub NotTwice : Type 0
NotTwice = (lax : Bool) (r : Rules) (es : List Event) (f s b : ℕ) → count_got f s b (run lax r es).got ≤ 1

-- a station that stays gets a frame at most once, over all bridges
abbrev pub OnceIfStill : Type 0
OnceIfStill =
    (lax : Bool) (r : Rules) (es later before : List Event) → es ≡ later ++ before → (s : ℕ) → stays s later ≡ true → (f : ℕ) → (run lax r before).next ≤ f → count_all f s (run lax r es).got ≤ 1

-- who gets a frame is of its sender's VLAN and isn't its sender
abbrev pub RightVlan : Type 0
RightVlan =
    (lax : Bool) (r : Rules) (es : List Event) (g : Got) → Memᴰ g (run lax r es).got → (s : ℕ) × (d : ℕ) × (sent_by lax r es g.frame s d ≡ true) ×
    (r.colour g.station ≡ r.colour s) × (lax ≡ false → g.station ≢ s)

-- each frame has one sender
abbrev pub OneSender : Type 0
OneSender = (lax : Bool) (r : Rules) (es : List Event) (f s d s' d' : ℕ) → sent_by lax r es f s d ≡ true → sent_by lax r es f s' d' ≡ true → (s ≡ s') × (d ≡ d')

-- what is learnt along a tree of a station that hasn't moved since the tree was announced isn't wrong
abbrev pub LearntRight : Type 0
LearntRight =
    (lax : Bool) (r : Rules) (es later before : List Event) (t : Tree) → es ≡ later ++ (Announce t ∷ before) → tree_of t.number (run lax r before).trees ≡ NoTree →
    ((b : ℕ) → r.bridges ≤ b → t.above b ≡ b) → (s b : ℕ) → s < r.stations → b < r.bridges → stays s later ≡ true →
    NotWrong r (run lax r es) t b s ((run lax r es).learned b t.number s)

-- at rest along a tree, a frame to a station of which nobody knows anything wrong arrives there once, and where all know
-- the station nobody else gets it
abbrev pub ArrivesOnce : Type 0
ArrivesOnce =
    (lax : Bool) (r : Rules) (es : List Event) (t : Tree) → looks r.bridges t ≡ true → Rests r (run lax r es) t → (s d : ℕ) → s < r.stations → d < r.stations → (s ≢ d) →
    r.colour s ≡ r.colour d → (run lax r es).home s < r.bridges → (run lax r es).home d < r.bridges →
    ((b : ℕ) → b < r.bridges → NotWrong r (run lax r es) t b d ((run lax r es).learned b t.number d)) →
    ((x : Copy) → Memᴰ x (run lax r es).copies → x.frame.from ≡ d → x.frame.tree ≡ t.number → origin x.at x.trail ≡ (run lax r es).home d) →
    (fs : List Event) → quietly lax r t (run lax r es).next d (Send s d ∷ es) fs ≡ true → none_of (run lax r es).next (run lax r (fs ++ (Send s d ∷ es))).copies ≡ true →
    (count_got (run lax r es).next d ((run lax r es).home d) (run lax r (fs ++ (Send s d ∷ es))).got ≡ 1) ×
    (count_all (run lax r es).next d (run lax r (fs ++ (Send s d ∷ es))).got ≡ 1) ×
    (((b : ℕ) → b < r.bridges → (run lax r es).learned b t.number d ≢ Unknown) → remembered t.number d fs ≡ true →
    (q : ℕ) → (q ≢ d) → count_all (run lax r es).next q (run lax r (fs ++ (Send s d ∷ es))).got ≡ 0)

-- wherever links join all bridges, one tree announced and adopted by each brings rest
abbrev pub CanRest : Type 0
CanRest =
    (lax : Bool) (r : Rules) (es : List Event) → 0 < r.bridges → ((b : ℕ) → b < r.bridges → Linked r (run lax r es) b) →
    (fs : List Event) × T (only_trees fs) × (length fs ≤ suc r.bridges) × (t : Tree) × (looks r.bridges t ≡ true) × Rests r (run lax r (fs ++ es)) t
