-- What is promised of the net of Fabric, at every moment and at rest. It says all that Promise says, and more where
-- Promise says less than is meant: only a send that made a frame is a frame's sender, nobody gets its own frame, a
-- station that stays gets a frame at most once over all bridges, and a frame to a station arrives once over all bridges
-- while other things go on. Assumes nothing.
use Rattle.std.specs.Prelude.{◌≡◌, ℕ, zero, suc, ◌+◌, ◌<◌, ◌≤◌, Bool, true, false, cond, not, ◌&&◌, ◌||◌, T, List, [], ◌∷◌, ◌++◌, length, ◌==◌, ◌≢◌, nat_lt}
use mathlib.Core.List.{Memᴰ}
use Rattle.trees.specs.Tree.{Tree, looks, joined, different}
use Rattle.bridges.specs.Net.{Copy, Unknown, Got, Rules, World, NoTree, tree_of}
use Rattle.bridges.specs.Promise.{NotWrong, Rests, Linked, count_got, none_of}
use Rattle.bridges.specs.Fabric.{Event, Send, Arrive, Lose, Believe, Announce, Adopt, Move, Forget, Crash, Turn, run}

abbrev pub some : List ℕ → Bool
some [] = false
some (x ∷ xs) = true

-- does a send make a frame: both stations are there, the sender is plugged in, and its bridge has a tree
abbrev pub makes : Bool → Rules → World → ℕ → ℕ → Bool
makes lax r w s d = ((lax || nat_lt (w.home s) r.bridges) && (nat_lt s r.stations && nat_lt d r.stations)) && some (w.holds (w.home s))

-- did station s send frame f to station d
unfoldable pub sent_by : Bool → Rules → List Event → ℕ → ℕ → ℕ → Bool
sent_by lax r [] f s d = false
sent_by lax r (Send a e ∷ es) f s d =
    (makes lax r (run lax r es) a e && ((run lax r es).next == f && (a == s && e == d))) || sent_by lax r es f s d
sent_by lax r (Arrive i ∷ es) f s d = sent_by lax r es f s d
sent_by lax r (Lose i ∷ es) f s d = sent_by lax r es f s d
sent_by lax r (Believe a b c ∷ es) f s d = sent_by lax r es f s d
sent_by lax r (Announce t ∷ es) f s d = sent_by lax r es f s d
sent_by lax r (Adopt b n ∷ es) f s d = sent_by lax r es f s d
sent_by lax r (Move a b ∷ es) f s d = sent_by lax r es f s d
sent_by lax r (Forget b n a ∷ es) f s d = sent_by lax r es f s d
sent_by lax r (Crash b ∷ es) f s d = sent_by lax r es f s d
sent_by lax r (Turn b n a ok ∷ es) f s d = sent_by lax r es f s d

-- how often a station got a frame, at whichever bridges
unfoldable pub count_all : ℕ → ℕ → List Got → ℕ
count_all f s [] = 0
count_all f s (g ∷ gs) = cond (g.frame == f && g.station == s) 1 0 + count_all f s gs

-- a station moves to another bridge, or to another port
abbrev pub moves : ℕ → Event → Bool
moves s (Move a b) = a == s
moves s (Send a d) = false
moves s (Arrive i) = false
moves s (Lose i) = false
moves s (Believe a b c) = false
moves s (Announce t) = false
moves s (Adopt b n) = false
moves s (Forget b n a) = false
moves s (Crash b) = false
moves s (Turn b n a ok) = a == s

unfoldable pub stays : ℕ → List Event → Bool
stays s [] = true
stays s (e ∷ es) = not (moves s e) && stays s es

abbrev pub forgets : ℕ → ℕ → Event → Bool
forgets n s (Forget b m a) = m == n && a == s
forgets n s (Move a b) = false
forgets n s (Send a d) = false
forgets n s (Arrive i) = false
forgets n s (Lose i) = false
forgets n s (Believe a b c) = false
forgets n s (Announce t) = false
forgets n s (Adopt b m) = false
forgets n s (Crash b) = false
forgets n s (Turn b m a ok) = false

unfoldable pub remembered : ℕ → ℕ → List Event → Bool
remembered n s [] = true
remembered n s (e ∷ es) = not (forgets n s e) && remembered n s es

-- is the copy at place i one of frame f
unfoldable pub is_copy_of : ℕ → ℕ → List Copy → Bool
is_copy_of f i [] = false
is_copy_of f zero (x ∷ xs) = x.frame.number == f
is_copy_of f (suc i) (x ∷ xs) = is_copy_of f i xs

-- what may go on while frame f is under way to station d along tree t: anything but a copy of f being lost, a link of
-- the tree going down, a tree being adopted, the station moving, and a bridge crashing
abbrev pub quiet : Tree → ℕ → ℕ → World → Event → Bool
quiet t f d w (Send a e) = true
quiet t f d w (Arrive i) = true
quiet t f d w (Lose i) = not (is_copy_of f i w.copies)
quiet t f d w (Believe a b c) = c || not (joined t a b)
quiet t f d w (Announce u) = true
quiet t f d w (Adopt b n) = false
quiet t f d w (Move a b) = not (a == d)
quiet t f d w (Forget b n a) = true
quiet t f d w (Crash b) = false
quiet t f d w (Turn b n a ok) = not (a == d)

unfoldable pub quietly : Bool → Rules → Tree → ℕ → ℕ → List Event → List Event → Bool
quietly lax r t f d es [] = true
quietly lax r t f d es (e ∷ fs) = quiet t f d (run lax r (fs ++ es)) e && quietly lax r t f d es fs

-- where a copy's walk began
unfoldable pub origin : ℕ → List ℕ → ℕ
origin b [] = b
origin b (c ∷ cs) = origin c cs

unfoldable pub only_trees : List Event → Bool
only_trees [] = true
only_trees (Announce t ∷ es) = only_trees es
only_trees (Adopt b n ∷ es) = only_trees es
only_trees (Arrive i ∷ es) = false
only_trees (Send s d ∷ es) = false
only_trees (Lose i ∷ es) = false
only_trees (Believe a b c ∷ es) = false
only_trees (Move s b ∷ es) = false
only_trees (Forget b n s ∷ es) = false
only_trees (Crash b ∷ es) = false
only_trees (Turn b n s ok ∷ es) = false

-- THE PROMISE, after any events. No copy of a frame comes to a bridge where that copy was. No bridge hands a frame to a
-- station twice, and a station that stays gets it at most once. Who gets a frame is of its sender's VLAN and isn't its
-- sender, and each frame has one sender. What is learnt along a tree of a station that hasn't moved since the tree was
-- announced isn't wrong. At rest along a tree, a frame to a station of the sender's VLAN of which nobody knows anything
-- wrong, and whose frames that are under way began where it is, arrives there once, when all its copies have come, in
-- whatever order and whatever else goes on quietly; and where all know the station, and none forgets it, nobody else
-- gets it. And wherever links join all bridges, one tree announced and adopted by each brings rest.
pub record Assured (lax : Bool) (r : Rules) (es : List Event) : Type 0 where
  pub no_round : (x : Copy) → Memᴰ x (run lax r es).copies → different (x.at ∷ x.trail) ≡ true
  pub not_twice : (f s b : ℕ) → count_got f s b (run lax r es).got ≤ 1
  pub once_if_still : (later before : List Event) → es ≡ later ++ before → (s : ℕ) → stays s later ≡ true → (f : ℕ) → (run lax r before).next ≤ f →
      count_all f s (run lax r es).got ≤ 1
  pub right_vlan : (g : Got) → Memᴰ g (run lax r es).got → (s : ℕ) × (d : ℕ) × (sent_by lax r es g.frame s d ≡ true) ×
      (r.colour g.station ≡ r.colour s) × (lax ≡ false → g.station ≢ s)
  pub one_sender : (f s d s' d' : ℕ) → sent_by lax r es f s d ≡ true → sent_by lax r es f s' d' ≡ true → (s ≡ s') × (d ≡ d')
  pub learnt_right : (later before : List Event) (t : Tree) → es ≡ later ++ (Announce t ∷ before) → tree_of t.number (run lax r before).trees ≡ NoTree → ((b : ℕ) → r.bridges ≤ b → t.above b ≡ b) →
      (s b : ℕ) → s < r.stations → b < r.bridges → stays s later ≡ true → NotWrong r (run lax r es) t b s ((run lax r es).learned b t.number s)
  pub arrives : (t : Tree) → looks r.bridges t ≡ true → Rests r (run lax r es) t → (s d : ℕ) → s < r.stations → d < r.stations → (s ≢ d) → r.colour s ≡ r.colour d → (run lax r es).home s < r.bridges → (run lax r es).home d < r.bridges →
      ((b : ℕ) → b < r.bridges → NotWrong r (run lax r es) t b d ((run lax r es).learned b t.number d)) →
      ((x : Copy) → Memᴰ x (run lax r es).copies → x.frame.from ≡ d → x.frame.tree ≡ t.number → origin x.at x.trail ≡ (run lax r es).home d) →
      (fs : List Event) → quietly lax r t (run lax r es).next d (Send s d ∷ es) fs ≡ true → none_of (run lax r es).next (run lax r (fs ++ (Send s d ∷ es))).copies ≡ true →
      (count_got (run lax r es).next d ((run lax r es).home d) (run lax r (fs ++ (Send s d ∷ es))).got ≡ 1) ×
      (count_all (run lax r es).next d (run lax r (fs ++ (Send s d ∷ es))).got ≡ 1) ×
      (((b : ℕ) → b < r.bridges → (run lax r es).learned b t.number d ≢ Unknown) → remembered t.number d fs ≡ true →
      (q : ℕ) → (q ≢ d) → count_all (run lax r es).next q (run lax r (fs ++ (Send s d ∷ es))).got ≡ 0)
  pub can_rest : 0 < r.bridges → ((b : ℕ) → b < r.bridges → Linked r (run lax r es) b) →
      (fs : List Event) × T (only_trees fs) × (length fs ≤ suc r.bridges) × (t : Tree) × (looks r.bridges t ≡ true) × Rests r (run lax r (fs ++ es)) t

-- of the net as the rules mean it, and of that of Net
abbrev pub Guaranteed : Type 0
Guaranteed = (lax : Bool) (r : Rules) (es : List Event) → Assured lax r es
