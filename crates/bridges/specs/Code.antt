-- What the code must be, to be this system: its states, what it does at each event, and what it answers and sends; the code has to give a term of this. Assumes nothing.
use Rattle.std.specs.Prelude.{◌≡◌, ℕ, Bool, true, false, cond, ◌&&◌, T, List, [], ◌∷◌, ◌==◌, nat_lt}
use Rattle.trees.specs.Tree.{Tree, is_in}
use Rattle.bridges.specs.Net.{Copy, Where, Got, Rules, World, This, tree_of, toward, gets, knows, handle, start, step, first_of, came_by, Ev, Sends, Comes, Lost, Link, Announced, Takes, Moves, Forgets, Falls}

-- what a bridge's state says: trees it holds, what it learnt, its links, and who is here
pub record View (State : Type 0) : Type 0 where
  pub holds : State → List ℕ
  pub learned : State → (tree station : ℕ) → Where
  pub links : State → (to : ℕ) → Bool
  pub here : State → (station : ℕ) → Bool

-- it is bridge b's in a world
pub record Stands (State : Type 0) (v : View State) (b : ℕ) (s : State) (w : World) : Type 0 where
  pub holds_so : v.holds s ≡ w.holds b
  pub learned_so : (t q : ℕ) → v.learned s t q ≡ w.learned b t q
  pub links_so : (c : ℕ) → v.links s c ≡ w.up b c
  pub here_so : (q : ℕ) → v.here s q ≡ (w.home q == b)

unfoldable pub steps : Rules → List Ev → World → World
steps r [] w = w
steps r (e ∷ es) w = step r e (steps r es w)

-- it may forget stations at any time, for room or age
unfoldable pub only_forgets : ℕ → List Ev → Bool
only_forgets b [] = true
only_forgets b (Forgets c n s ∷ es) = c == b && only_forgets b es
only_forgets b (Sends s d ∷ es) = false
only_forgets b (Comes i ∷ es) = false
only_forgets b (Lost i ∷ es) = false
only_forgets b (Link a c x ∷ es) = false
only_forgets b (Announced t ∷ es) = false
only_forgets b (Takes c n ∷ es) = false
only_forgets b (Moves s c ∷ es) = false
only_forgets b (Falls c ∷ es) = false

abbrev pub is_comes : Ev → Bool
is_comes (Comes i) = true
is_comes (Sends s d) = false
is_comes (Lost i) = false
is_comes (Link a c x) = false
is_comes (Announced t) = false
is_comes (Takes c n) = false
is_comes (Moves s c) = false
is_comes (Forgets c n s) = false
is_comes (Falls c) = false

-- it takes a tree itself
abbrev pub is_takes_of : ℕ → Ev → Bool
is_takes_of b (Takes c n) = c == b
is_takes_of b (Comes i) = false
is_takes_of b (Sends s d) = false
is_takes_of b (Lost i) = false
is_takes_of b (Link a c x) = false
is_takes_of b (Announced t) = false
is_takes_of b (Moves s c) = false
is_takes_of b (Forgets c n s) = false
is_takes_of b (Falls c) = false

-- bridges and stations that are there
abbrev pub there : Rules → Ev → Bool
there r (Link a c x) = nat_lt a r.bridges && nat_lt c r.bridges
there r (Moves s c) = nat_lt s r.stations && nat_lt c r.bridges
there r (Comes i) = true
there r (Sends s d) = true
there r (Lost i) = true
there r (Announced t) = true
there r (Takes c n) = true
there r (Forgets c n s) = true
there r (Falls c) = true

-- bridge b, from its start on: whatever happens but a copy's coming, and when a copy comes to it, its state goes on standing for the world's, but for what it forgot; and it hands on and to stations just what is to be.
-- Taking a tree is what it does once a tree passed all that the rules of adoption ask
pub record Code (r : Rules) (b : ℕ) : Type 1 where
  pub State : Type 0
  pub view : View State
  pub begin : State
  pub does : Ev → State → State
  pub comes : Copy → Tree → State → State
  pub takes : Tree → State → State
  -- the tree along which a station's frame goes, if there is one
  pub goes : State → List ℕ
  pub on : Copy → Tree → State → List Copy
  pub hands : Copy → Tree → State → List Got
  pub begins : Stands State view b begin start
  pub does_so : (s : State) (w : World) (e : Ev) → Stands State view b s w → is_comes e ≡ false → is_takes_of b e ≡ false → there r e ≡ true → Stands State view b (does e s) (step r e w)
  pub takes_so : (s : State) (w : World) (t : Tree) → Stands State view b s w → tree_of t.number w.trees ≡ This t →
      (fs : List Ev) × T (only_forgets b fs) × Stands State view b (takes t s) (steps r fs (step r (Takes b t.number) w))
  pub goes_so : (s : State) (w : World) → Stands State view b s w → goes s ≡ first_of (w.holds b)
  pub comes_so : (s : State) (w : World) (x : Copy) (t : Tree) → Stands State view b s w → x.at ≡ b → tree_of x.frame.tree w.trees ≡ This t →
      (fs : List Ev) × T (only_forgets b fs) × Stands State view b (comes x t s) (steps r fs (handle r x (This t) w))
  -- what a frame has just told stays: forgetting is for room or age, and never of the sender of the frame in hand
  pub keeps : (s : State) (w : World) (x : Copy) (t : Tree) → Stands State view b s w → x.at ≡ b → tree_of x.frame.tree w.trees ≡ This t → is_in x.frame.tree (w.holds b) ≡ true →
      view.learned (comes x t s) x.frame.tree x.frame.from ≡ came_by x.trail
  pub on_so : (s : State) (w : World) (x : Copy) (t : Tree) → Stands State view b s w → x.at ≡ b → tree_of x.frame.tree w.trees ≡ This t →
      (on x t s ≡ cond (is_in x.frame.tree (w.holds b)) (toward t w.up x (knows w x) r.bridges) []) × (hands x t s ≡ cond (is_in x.frame.tree (w.holds b)) (gets r w x (knows w x) r.stations) [])
