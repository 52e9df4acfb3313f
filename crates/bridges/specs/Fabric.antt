-- The net that code is proved against: that of Net, bettered in five places. Each bridge has its own belief of each of
-- its links; a station may be plugged in nowhere, and then sends and gets nothing; a frame to its own sender is known
-- whence it came, so it goes nowhere; nobody is handed its own frame; and adopting the tree that is the newest already
-- changes nothing. With `lax` true the last four are as in Net, so that what is proved for both values of `lax` is
-- proved of Net too; the code is proved against `lax` false. Assumes nothing.
use Rattle.std.specs.Prelude.{ℕ, zero, suc, Bool, false, cond, not, ◌&&◌, ◌||◌, List, [], ◌∷◌, ◌++◌, ◌==◌, nat_lt}
use Rattle.trees.specs.Tree.{Tree, looks, is_in}
use Rattle.bridges.specs.Net.{Copy, Where, Unknown, Here, Behind, Got, Rules, World, Found, NoTree, This, tree_of, came_by, toward, may_get, knows, learns, without, with_copies, two, send_by, announce_if, at, at2, start}

-- a station sends a frame, along the newest tree of its bridge; a copy arrives at its bridge, or is lost; a bridge
-- comes to believe that its link to a neighbour is up, or down; a tree is announced, and adopted; a station moves; a
-- bridge forgets a station along a tree; a bridge crashes, and with it all that it had; what a bridge has learnt of a
-- station at one of its own ports comes to lead to the right port, or to a wrong one, since the station was plugged in
-- elsewhere
pub data Event : Type 0 where
  Send : (station to : ℕ) → Event
  Arrive : (which : ℕ) → Event
  Lose : (which : ℕ) → Event
  Believe : (bridge neighbour : ℕ) → Bool → Event
  Announce : Tree → Event
  Adopt : (bridge tree : ℕ) → Event
  Move : (station bridge : ℕ) → Event
  Forget : (bridge tree station : ℕ) → Event
  Crash : (bridge : ℕ) → Event
  Turn : (bridge tree station : ℕ) → Bool → Event

-- what a bridge goes by, given what it has learnt of the station that a frame is for: a frame to its own sender is
-- known whence it came
abbrev pub goes_by : Bool → Copy → Where → Where
goes_by lax x k = cond (not lax && x.frame.from == x.frame.to) (came_by x.trail) k

-- may a station here be handed it: as in Net, and never the sender
abbrev pub may_hand : Bool → Rules → World → Copy → Where → ℕ → Bool
may_hand lax r w x k s = (lax || not (s == x.frame.from)) && may_get r w x k s

unfoldable pub handed : Bool → Rules → World → Copy → Where → ℕ → List Got
handed lax r w x k zero = []
handed lax r w x k (suc s) =
    cond (may_hand lax r w x k s) (record { frame = x.frame.number; station = s; bridge = x.at } ∷ handed lax r w x k s) (handed lax r w x k s)

-- what a bridge that has the frame's tree does with a copy: it learns, hands it to stations, and on
abbrev pub forward : Bool → Rules → Copy → Tree → World → World
forward lax r x t w = record {
  home = w.home;
  up = w.up;
  trees = w.trees;
  holds = w.holds;
  learned = learns x w.learned;
  copies = toward t w.up x (goes_by lax x (knows w x)) r.bridges ++ w.copies;
  got = handed lax r w x (goes_by lax x (knows w x)) r.stations ++ w.got;
  next = w.next;
}

abbrev pub receive : Bool → Rules → Copy → Found → World → World
receive lax r x NoTree w = w
receive lax r x (This t) w = cond (is_in x.frame.tree (w.holds x.at)) (forward lax r x t w) w

unfoldable pub arrives : Bool → Rules → ℕ → List Copy → World → World
arrives lax r i [] w = w
arrives lax r zero (x ∷ xs) w = receive lax r x (tree_of x.frame.tree w.trees) w
arrives lax r (suc i) (x ∷ xs) w = arrives lax r i xs w

-- is it the newest tree that a bridge has
abbrev pub is_newest : ℕ → List ℕ → Bool
is_newest n [] = false
is_newest n (x ∷ xs) = x == n

-- a bridge adopts a tree only if it looks like one, and isn't its newest already
abbrev pub adopt_if : Bool → Rules → ℕ → ℕ → Found → World → World
adopt_if lax r b n NoTree w = w
adopt_if lax r b n (This t) w = cond (not (looks r.bridges t) || (not lax && is_newest n (w.holds b))) w (record {
  home = w.home;
  up = w.up;
  trees = w.trees;
  holds = at b (two (n ∷ w.holds b)) w.holds;
  learned = w.learned;
  copies = w.copies;
  got = w.got;
  next = w.next;
})

-- a bridge's belief that a station is at one of its ports, when the port is the right one or not: a wrong port is a
-- dead end, as if the station were behind the bridge itself, to which it is never joined
abbrev pub turned : ℕ → Bool → Where → Where
turned b ok Unknown = Unknown
turned b ok Here = cond ok Here (Behind b)
turned b ok (Behind c) = cond (ok && c == b) Here (Behind c)

abbrev pub happen : Bool → Rules → Event → World → World
happen lax r (Send s d) w = cond ((lax || nat_lt (w.home s) r.bridges) && (nat_lt s r.stations && nat_lt d r.stations)) (send_by r s d (w.holds (w.home s)) w) w
happen lax r (Arrive i) w = arrives lax r i w.copies (with_copies (without i w.copies) w)
happen lax r (Lose i) w = with_copies (without i w.copies) w
happen lax r (Believe a b c) w = record { home = w.home; up = at2 a b c w.up; trees = w.trees; holds = w.holds; learned = w.learned; copies = w.copies; got = w.got; next = w.next }
happen lax r (Announce t) w = announce_if t (tree_of t.number w.trees) w
happen lax r (Adopt b n) w = adopt_if lax r b n (tree_of n w.trees) w
happen lax r (Move s b) w = cond (not lax || nat_lt b r.bridges) (record { home = at s b w.home; up = w.up; trees = w.trees; holds = w.holds; learned = w.learned; copies = w.copies; got = w.got; next = w.next }) w
happen lax r (Forget b n s) w = record { home = w.home; up = w.up; trees = w.trees; holds = w.holds; learned = λ p t q. cond (p == b && (t == n && q == s)) Unknown (w.learned p t q); copies = w.copies; got = w.got; next = w.next }
happen lax r (Crash b) w = record { home = w.home; up = w.up; trees = w.trees; holds = at b [] w.holds; learned = λ p t q. cond (p == b) Unknown (w.learned p t q); copies = w.copies; got = w.got; next = w.next }
happen lax r (Turn b n s ok) w = record { home = w.home; up = w.up; trees = w.trees; holds = w.holds; learned = λ p t q. cond (p == b && (t == n && q == s)) (turned b ok (w.learned p t q)) (w.learned p t q); copies = w.copies; got = w.got; next = w.next }

-- at first nobody is plugged in: a station at a bridge that isn't there is nowhere
abbrev pub begin : Bool → Rules → World
begin lax r = record {
  home = λ s. cond lax 0 r.bridges;
  up = start.up;
  trees = start.trees;
  holds = start.holds;
  learned = start.learned;
  copies = start.copies;
  got = start.got;
  next = start.next;
}

-- by events, the latest first
unfoldable pub run : Bool → Rules → List Event → World
run lax r [] = begin lax r
run lax r (e ∷ es) = happen lax r e (run lax r es)
