-- The premises of arrival, and of what is learnt not being wrong, written out by name; and a run of a ring of three
-- bridges that meets all of them while other things go on. Assumes nothing.
use Rattle.std.specs.Prelude.{◌≡◌, ℕ, ◌<◌, ◌≤◌, Bool, true, false, List, [], ◌∷◌, ◌++◌, ◌≢◌}
use mathlib.Core.List.{Memᴰ}
use Rattle.trees.specs.Tree.{Tree, looks}
use Rattle.bridges.specs.Net.{Copy, Unknown, Behind, Rules, NoTree, tree_of}
use Rattle.bridges.specs.Promise.{NotWrong, Rests, Linked, none_of}
use Rattle.bridges.specs.Fabric.{Event, Send, Arrive, Lose, Believe, Announce, Adopt, Move, Forget, Turn, run}
use Rattle.bridges.specs.Guarantee.{stays, remembered, quietly, origin}
use Rattle.bridges.specs.Cases.{after, ring, tree_of0, tree_of1, cabled}

-- all that is asked for a frame from s to d, sent after es, to arrive once and at nobody else while fs goes on
pub record ArrivesIf (lax : Bool) (r : Rules) (es : List Event) (t : Tree) (s d : ℕ) (fs : List Event) : Type 0 where
  pub is_tree : looks r.bridges t ≡ true
  pub at_rest : Rests r (run lax r es) t
  pub sender : s < r.stations
  pub receiver : d < r.stations
  pub apart : s ≡ d → ⊥
  pub one_vlan : r.colour s ≡ r.colour d
  pub sender_home : (run lax r es).home s < r.bridges
  pub receiver_home : (run lax r es).home d < r.bridges
  pub right : (b : ℕ) → b < r.bridges → NotWrong r (run lax r es) t b d ((run lax r es).learned b t.number d)
  pub under_way : (x : Copy) → Memᴰ x (run lax r es).copies → x.frame.from ≡ d → x.frame.tree ≡ t.number → origin x.at x.trail ≡ (run lax r es).home d
  pub quiet_so : quietly lax r t (run lax r es).next d (Send s d ∷ es) fs ≡ true
  pub all_came : none_of (run lax r es).next (run lax r (fs ++ (Send s d ∷ es))).copies ≡ true
  pub all_know : (b : ℕ) → b < r.bridges → (run lax r es).learned b t.number d ≢ Unknown
  pub none_forgets : remembered t.number d fs ≡ true

-- all that is asked for what bridge b has learnt of station s along a tree not to be wrong
pub record LearntIf (lax : Bool) (r : Rules) (es later before : List Event) (t : Tree) (s b : ℕ) : Type 0 where
  pub since : es ≡ later ++ (Announce t ∷ before)
  pub new : tree_of t.number (run lax r before).trees ≡ NoTree
  pub outside : (c : ℕ) → r.bridges ≤ c → t.above c ≡ c
  pub station_there : s < r.stations
  pub bridge_there : b < r.bridges
  pub still : stays s later ≡ true

-- the tree is adopted, stations 0 and 1 write to each other, and two more frames are under way, one of them of station 0
unfoldable pub settled : List Event
settled = after [] (
    Adopt 0 1 ∷ Adopt 1 1 ∷ Adopt 2 1 ∷ Send 0 1 ∷ Arrive 0 ∷ Arrive 0 ∷ Arrive 0 ∷ Send 1 0 ∷ Arrive 0 ∷ Arrive 0 ∷ Arrive 0 ∷
    Send 0 2 ∷ Arrive 0 ∷ Send 2 1 ∷ [])

unfoldable pub before_send : List Event
before_send = settled ++ (Announce tree_of0 ∷ cabled)

-- what goes on while the frame of station 1 to station 0 is on its way: another is sent and lost, one of station 0 is
-- handed on, another station is forgotten, moves or is plugged in elsewhere, a link that isn't the tree's goes down, one
-- that is comes up again, and another tree is announced
unfoldable pub meanwhile : List Event
meanwhile = after [] (
    Send 4 1 ∷ Arrive 1 ∷ Lose 1 ∷ Forget 0 1 1 ∷ Move 3 2 ∷ Turn 1 1 4 false ∷ Believe 1 2 false ∷ Believe 0 1 true ∷ Announce tree_of1 ∷
    Arrive 2 ∷ Arrive 1 ∷ Arrive 0 ∷ [])

-- the premises are met, what is learnt is something, and links join all bridges
abbrev pub Met : Type 0
Met = (lax : Bool) → ArrivesIf lax ring before_send tree_of0 1 0 meanwhile ×
    LearntIf lax ring (meanwhile ++ (Send 1 0 ∷ before_send)) (meanwhile ++ (Send 1 0 ∷ settled)) cabled tree_of0 0 2 ×
    ((run lax ring (meanwhile ++ (Send 1 0 ∷ before_send))).learned 2 1 0 ≡ Behind 0) ×
    ((b : ℕ) → b < 3 → Linked ring (run lax ring before_send) b)
