-- Bridges with stations, trees that are announced and taken, frames and their copies, what bridges learn, links that come and go, stations that move; and everything that can happen. Assumes nothing.
use Rattle.std.specs.Prelude.{ℕ, zero, suc, Bool, true, false, cond, not, ◌&&◌, List, [], ◌∷◌, ◌++◌, ◌==◌, nat_lt}
use Rattle.trees.specs.Tree.{Tree, looks, joined, is_in}

-- a frame: its number, which station sent it, to which, of which colour, along which tree
pub record Frame : Type 0 where
  pub number : ℕ
  pub from : ℕ
  pub to : ℕ
  pub colour : ℕ
  pub tree : ℕ

-- a copy of it, on its way to a bridge: all bridges that it went by, the latest first, after the one that it comes to
pub record Copy : Type 0 where
  pub frame : Frame
  pub at : ℕ
  pub trail : List ℕ

-- what a bridge knows of a station, along a tree: nothing; that it is here; that it is behind a neighbour
pub data Where : Type 0 where
  Unknown : Where
  Here : Where
  Behind : (neighbour : ℕ) → Where

-- a station got a frame at a bridge
pub record Got : Type 0 where
  pub frame : ℕ
  pub station : ℕ
  pub bridge : ℕ

-- bridges and stations: how many; colour: of each station
pub record Rules : Type 0 where
  pub bridges : ℕ
  pub stations : ℕ
  pub colour : ℕ → ℕ

-- home: at which bridge each station is. up: links. trees: all that were announced. holds: the numbers of trees that a bridge has, the newest first, two at most
pub record World : Type 0 where
  pub home : ℕ → ℕ
  pub up : ℕ → ℕ → Bool
  pub trees : List Tree
  pub holds : ℕ → List ℕ
  pub learned : ℕ → ℕ → ℕ → Where
  pub copies : List Copy
  pub got : List Got
  pub next : ℕ

abbrev pub at : {A : Type 0} → ℕ → A → (ℕ → A) → ℕ → A
at i x f j = cond (j == i) x (f j)

abbrev pub at2 : {A : Type 0} → ℕ → ℕ → A → (ℕ → ℕ → A) → ℕ → ℕ → A
at2 i j x f p q = cond (p == i && q == j) x (f p q)

abbrev pub at3 : {A : Type 0} → ℕ → ℕ → ℕ → A → (ℕ → ℕ → ℕ → A) → ℕ → ℕ → ℕ → A
at3 i j k x f p q s = cond (p == i && (q == j && s == k)) x (f p q s)

pub data Found : Type 0 where
  NoTree : Found
  This : Tree → Found

unfoldable pub tree_of : ℕ → List Tree → Found
tree_of n [] = NoTree
tree_of n (t ∷ ts) = cond (t.number == n) (This t) (tree_of n ts)

-- whence a copy came to a bridge, if not from a station there
abbrev pub came_by : List ℕ → Where
came_by [] = Here
came_by (b ∷ bs) = Behind b

abbrev pub not_back : List ℕ → ℕ → Bool
not_back [] c = true
not_back (b ∷ bs) c = not (b == c)

abbrev pub copy_to : Copy → ℕ → Copy
copy_to x c = record { frame = x.frame; at = c; trail = x.at ∷ x.trail }

-- copies to the first k bridges, along a tree, by links that are up, not straight back
unfoldable pub floods : ℕ → Tree → (ℕ → ℕ → Bool) → Copy → List Copy
floods zero t up x = []
floods (suc c) t up x = cond (joined t x.at c && (up x.at c && not_back x.trail c)) (copy_to x c ∷ floods c t up x) (floods c t up x)

abbrev pub toward : Tree → (ℕ → ℕ → Bool) → Copy → Where → ℕ → List Copy
toward t up x Unknown n = floods n t up x
toward t up x Here n = []
toward t up x (Behind c) n = cond (joined t x.at c && (up x.at c && not_back x.trail c)) (copy_to x c ∷ []) []

-- may a station here get it: of its colour, not the sender, and if it is known to be here, only the one it is for
abbrev pub may_get : Rules → World → Copy → Where → ℕ → Bool
may_get r w x Unknown s = w.home s == x.at && (r.colour s == x.frame.colour && not (s == x.frame.from))
may_get r w x Here s = s == x.frame.to && (w.home s == x.at && r.colour s == x.frame.colour)
may_get r w x (Behind c) s = false

unfoldable pub gets : Rules → World → Copy → Where → ℕ → List Got
gets r w x k zero = []
gets r w x k (suc s) = cond (may_get r w x k s) (record { frame = x.frame.number; station = s; bridge = x.at } ∷ gets r w x k s) (gets r w x k s)

-- what a bridge knows of the station that a frame is for
abbrev pub knows : World → Copy → Where
knows w x = w.learned x.at x.frame.tree x.frame.to

abbrev pub learns : Copy → (ℕ → ℕ → ℕ → Where) → ℕ → ℕ → ℕ → Where
learns x f = at3 x.at x.frame.tree x.frame.from (came_by x.trail) f

-- a copy comes to its bridge: it learns whence the sender's frames come, hands it to stations, and on; without the tree it is dropped
abbrev pub handle : Rules → Copy → Found → World → World
handle r x NoTree w = w
handle r x (This t) w = cond (is_in x.frame.tree (w.holds x.at))
    (record { home = w.home; up = w.up; trees = w.trees; holds = w.holds; learned = learns x w.learned; copies = toward t w.up x (knows w x) r.bridges ++ w.copies; got = gets r w x (knows w x) r.stations ++ w.got; next = w.next }) w

unfoldable pub without : ℕ → List Copy → List Copy
without i [] = []
without zero (x ∷ xs) = xs
without (suc i) (x ∷ xs) = x ∷ without i xs

abbrev pub with_copies : List Copy → World → World
with_copies xs w = record { home = w.home; up = w.up; trees = w.trees; holds = w.holds; learned = w.learned; copies = xs; got = w.got; next = w.next }

unfoldable pub comes : Rules → ℕ → List Copy → World → World
comes r i [] w = w
comes r zero (x ∷ xs) w = handle r x (tree_of x.frame.tree w.trees) w
comes r (suc i) (x ∷ xs) w = comes r i xs w

unfoldable pub two : List ℕ → List ℕ
two [] = []
two (x ∷ []) = x ∷ []
two (x ∷ (y ∷ ys)) = x ∷ (y ∷ [])

abbrev pub first_of : List ℕ → List ℕ
first_of [] = []
first_of (x ∷ xs) = x ∷ []

unfoldable pub send_by : Rules → ℕ → ℕ → List ℕ → World → World
send_by r s d [] w = w
send_by r s d (t ∷ ts) w = record {
  home = w.home;
  up = w.up;
  trees = w.trees;
  holds = w.holds;
  learned = w.learned;
  copies = record { frame = record { number = w.next; from = s; to = d; colour = r.colour s; tree = t }; at = w.home s; trail = [] } ∷ w.copies;
  got = w.got;
  next = suc w.next;
}

-- a station sends a frame, along the newest tree of its bridge; a copy comes, or is lost; a link comes or goes; a tree is announced, and taken; a station moves; a bridge forgets a station along a tree, or all that it has
pub data Ev : Type 0 where
  Sends : (station to : ℕ) → Ev
  Comes : (which : ℕ) → Ev
  Lost : (which : ℕ) → Ev
  Link : (a b : ℕ) → Bool → Ev
  Announced : Tree → Ev
  Takes : (bridge tree : ℕ) → Ev
  Moves : (station bridge : ℕ) → Ev
  Forgets : (bridge tree station : ℕ) → Ev
  Falls : (bridge : ℕ) → Ev

-- a bridge takes a tree only if it looks like one
abbrev pub take_if : Rules → ℕ → ℕ → Found → World → World
take_if r b n NoTree w = w
take_if r b n (This t) w = cond (not (looks r.bridges t)) w (record { home = w.home; up = w.up; trees = w.trees; holds = at b (two (n ∷ w.holds b)) w.holds; learned = w.learned; copies = w.copies; got = w.got; next = w.next })

abbrev pub announce_if : Tree → Found → World → World
announce_if t NoTree w = record { home = w.home; up = w.up; trees = t ∷ w.trees; holds = w.holds; learned = w.learned; copies = w.copies; got = w.got; next = w.next }
announce_if t (This u) w = w

abbrev pub step : Rules → Ev → World → World
step r (Sends s d) w = cond (nat_lt s r.stations && nat_lt d r.stations) (send_by r s d (w.holds (w.home s)) w) w
step r (Comes i) w = comes r i w.copies (with_copies (without i w.copies) w)
step r (Lost i) w = with_copies (without i w.copies) w
step r (Link a b c) w = record { home = w.home; up = at2 a b c (at2 b a c w.up); trees = w.trees; holds = w.holds; learned = w.learned; copies = w.copies; got = w.got; next = w.next }
step r (Announced t) w = announce_if t (tree_of t.number w.trees) w
step r (Takes b n) w = take_if r b n (tree_of n w.trees) w
step r (Moves s b) w = cond (nat_lt b r.bridges) (record { home = at s b w.home; up = w.up; trees = w.trees; holds = w.holds; learned = w.learned; copies = w.copies; got = w.got; next = w.next }) w
step r (Forgets b n s) w = record { home = w.home; up = w.up; trees = w.trees; holds = w.holds; learned = λ p t q. cond (p == b && (t == n && q == s)) Unknown (w.learned p t q); copies = w.copies; got = w.got; next = w.next }
step r (Falls b) w = record { home = w.home; up = w.up; trees = w.trees; holds = at b [] w.holds; learned = λ p t q. cond (p == b) Unknown (w.learned p t q); copies = w.copies; got = w.got; next = w.next }

abbrev pub start : World
start = record { home = λ s. 0; up = λ a b. false; trees = []; holds = λ b. []; learned = λ b t s. Unknown; copies = []; got = []; next = 1 }

-- by events, the latest first
unfoldable pub world : Rules → List Ev → World
world r [] = start
world r (e ∷ es) = step r e (world r es)
