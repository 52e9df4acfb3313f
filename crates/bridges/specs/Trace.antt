-- What a run shows from outside: at which bridges copies of a frame were, by which links they went, who got it, and what
-- a bridge answers to an event. Assumes nothing.
use Rattle.std.specs.Prelude.{◌≡◌, ℕ, zero, suc, Bool, cond, ◌&&◌, ◌||◌, List, [], ◌∷◌, ◌++◌, ◌==◌, ◌≢◌, nat_lt}
use Rattle.trees.specs.Tree.{looks, is_in}
use Rattle.bridges.specs.Net.{Copy, Where, Got, Rules, World, Found, NoTree, This, tree_of, without, with_copies}
use Rattle.bridges.specs.Fabric.{Event, Send, Arrive, Lose, Believe, Announce, Adopt, Move, Forget, Crash, Turn, receive, happen, run}

-- the copy at a place, or none
unfoldable pub copy_at : ℕ → List Copy → List Copy
copy_at i [] = []
copy_at zero (x ∷ xs) = x ∷ []
copy_at (suc i) (x ∷ xs) = copy_at i xs

-- what is answered, 0 for no fault: to a frame along the trees that a bridge has
abbrev pub carry_answer : ℕ → List ℕ → ℕ
carry_answer tree [] = 3
carry_answer tree (n ∷ ns) = cond (is_in tree (n ∷ ns)) 0 4

abbrev pub arrive_answer : World → List Copy → ℕ
arrive_answer w [] = 0
arrive_answer w (x ∷ xs) = carry_answer x.frame.tree (w.holds x.at)

abbrev pub send_answer : List ℕ → ℕ
send_answer [] = 3
send_answer (n ∷ ns) = 0

abbrev pub adopt_answer : Rules → Found → ℕ
adopt_answer r NoTree = 0
adopt_answer r (This t) = cond (looks r.bridges t) 0 5

-- the answer to an event: 2 a station that isn't there or is nowhere, 3 a frame at a bridge that has no tree, 4 one along
-- a tree that it doesn't have, 5 a tree that isn't one
abbrev pub answer : Bool → Rules → World → Event → ℕ
answer lax r w (Send s d) =
    cond ((lax || nat_lt (w.home s) r.bridges) && (nat_lt s r.stations && nat_lt d r.stations)) (send_answer (w.holds (w.home s))) 2
answer lax r w (Arrive i) = arrive_answer w (copy_at i w.copies)
answer lax r w (Adopt b n) = adopt_answer r (tree_of n w.trees)
answer lax r w (Lose i) = 0
answer lax r w (Believe a b c) = 0
answer lax r w (Announce t) = 0
answer lax r w (Move s b) = 0
answer lax r w (Forget b n s) = 0
answer lax r w (Crash b) = 0
answer lax r w (Turn b n s ok) = 0

-- what is left after a refusal: all that was, but the copy that came
abbrev pub refused : Event → World → World
refused (Arrive i) w = with_copies (without i w.copies) w
refused (Send s d) w = w
refused (Lose i) w = w
refused (Believe a b c) w = w
refused (Announce t) w = w
refused (Adopt b n) w = w
refused (Move s b) w = w
refused (Forget b n s) w = w
refused (Crash b) w = w
refused (Turn b n s ok) w = w

-- an event that is answered by a fault changes nothing else
abbrev pub RefusalsChangeNothing : Type 0
RefusalsChangeNothing = (lax : Bool) (r : Rules) (e : Event) (w : World) → (answer lax r w e ≢ 0) → happen lax r e w ≡ refused e w

-- the answer to the latest event
unfoldable pub last_answer : Bool → Rules → List Event → ℕ
last_answer lax r [] = 0
last_answer lax r (e ∷ es) = answer lax r (run lax r es) e

-- the copy that arrives with an event, if it is of frame f
unfoldable pub of_frame : ℕ → List Copy → List Copy
of_frame f [] = []
of_frame f (x ∷ xs) = cond (x.frame.number == f) (x ∷ of_frame f xs) (of_frame f xs)

abbrev pub arriving : ℕ → World → Event → List Copy
arriving f w (Arrive i) = of_frame f (copy_at i w.copies)
arriving f w (Send s d) = []
arriving f w (Lose i) = []
arriving f w (Believe a b c) = []
arriving f w (Announce t) = []
arriving f w (Adopt b n) = []
arriving f w (Move s b) = []
arriving f w (Forget b n s) = []
arriving f w (Crash b) = []
arriving f w (Turn b n s ok) = []

abbrev pub places : List Copy → List ℕ
places [] = []
places (x ∷ xs) = x.at ∷ places xs

-- the bridges to which copies of frame f came, handed on or dropped there, in order
unfoldable pub visits : Bool → Rules → List Event → ℕ → List ℕ
visits lax r [] f = []
visits lax r (e ∷ es) f = visits lax r es f ++ places (arriving f (run lax r es) e)

-- a link by which a copy was handed on
pub record Hop : Type 0 where
  pub by : ℕ
  pub to : ℕ

abbrev pub hops_to : ℕ → List Copy → List Hop
hops_to b [] = []
hops_to b (x ∷ xs) = record { by = b; to = x.at } ∷ hops_to b xs

-- what is left of copies where there was only this one: those that it is handed on as
abbrev pub handed_on : Bool → Rules → World → Copy → List Copy
handed_on lax r w x = (receive lax r x (tree_of x.frame.tree w.trees) (with_copies [] w)).copies

abbrev pub hops_of : Bool → Rules → World → List Copy → List Hop
hops_of lax r w [] = []
hops_of lax r w (x ∷ xs) = hops_to x.at (handed_on lax r w x) ++ hops_of lax r w xs

-- the links by which copies of frame f were handed on, in order
unfoldable pub hops : Bool → Rules → List Event → ℕ → List Hop
hops lax r [] f = []
hops lax r (e ∷ es) f = hops lax r es f ++ hops_of lax r (run lax r es) (arriving f (run lax r es) e)

-- a station got it at a bridge
pub record Receiver : Type 0 where
  pub station : ℕ
  pub bridge : ℕ

-- who got frame f, where, in order
unfoldable pub receivers : ℕ → List Got → List Receiver
receivers f [] = []
receivers f (g ∷ gs) = receivers f gs ++ cond (g.frame == f) (record { station = g.station; bridge = g.bridge } ∷ []) []

-- what the first k bridges know of a station along a tree, and which trees they have
unfoldable pub known : World → (tree station : ℕ) → ℕ → List Where
known w n s zero = []
known w n s (suc b) = known w n s b ++ (w.learned b n s ∷ [])

unfoldable pub held : World → ℕ → List (List ℕ)
held w zero = []
held w (suc b) = held w b ++ (w.holds b ∷ [])
