-- What is promised of the whole, and of its parts. Each is a type; a proof of the type is the theorem. Assumes nothing.
use Rattle.std.specs.Prelude.{◌≡◌, ℕ, zero, suc, ◌+◌, ◌<◌, ◌≤◌, Bool, true, false, cond, not, ◌&&◌, ◌||◌, T, List, [], ◌∷◌, ◌++◌, length, ◌==◌, ◌≢◌}
use mathlib.Core.List.{Memᴰ}
use Rattle.trees.specs.Tree.{Tree, looks, joined, Walk, is_in, different, all_below}
use Rattle.bridges.specs.Net.{Copy, Where, Unknown, Here, Behind, Got, Rules, World, NoTree, This, tree_of, Ev, Sends, Comes, Lost, Link, Announced, Takes, Moves, Forgets, Falls, world}

-- 1. Whoever walks along a tree and never goes straight back is nowhere twice.
abbrev pub Simple : Type 0
Simple = (n : ℕ) (t : Tree) → looks n t ≡ true → (bs : List ℕ) → all_below n bs ≡ true → Walk t bs → different bs ≡ true

-- 2. Every copy of every frame is on such a walk, at every moment, whatever trees bridges have meanwhile.
abbrev pub NoRound : Type 0
NoRound = (r : Rules) (es : List Ev) → (x : Copy) → Memᴰ x (world r es).copies → different (x.at ∷ x.trail) ≡ true

-- 3. No bridge hands a frame to a station twice.
unfoldable pub count_got : ℕ → ℕ → ℕ → List Got → ℕ
count_got f s b [] = 0
count_got f s b (g ∷ gs) = cond (g.frame == f && (g.station == s && g.bridge == b)) 1 0 + count_got f s b gs

abbrev pub NotTwice : Type 0
NotTwice = (r : Rules) (es : List Ev) → (f s b : ℕ) → count_got f s b (world r es).got ≤ 1

-- 4. Nobody gets what is of another colour, or sent by itself to others.
unfoldable pub sent_in : Rules → List Ev → ℕ → ℕ → ℕ → Bool
sent_in r [] f s d = false
sent_in r (Sends a e ∷ es) f s d = ((world r es).next == f && (a == s && e == d)) || sent_in r es f s d
sent_in r (Comes i ∷ es) f s d = sent_in r es f s d
sent_in r (Lost i ∷ es) f s d = sent_in r es f s d
sent_in r (Link a b c ∷ es) f s d = sent_in r es f s d
sent_in r (Announced t ∷ es) f s d = sent_in r es f s d
sent_in r (Takes b n ∷ es) f s d = sent_in r es f s d
sent_in r (Moves a b ∷ es) f s d = sent_in r es f s d
sent_in r (Forgets b n a ∷ es) f s d = sent_in r es f s d
sent_in r (Falls b ∷ es) f s d = sent_in r es f s d

abbrev pub RightColour : Type 0
RightColour =
    (r : Rules) (es : List Ev) (g : Got) → Memᴰ g (world r es).got → (s : ℕ) × (d : ℕ) × (sent_in r es g.frame s d ≡ true) × (r.colour g.station ≡ r.colour s)

-- what a bridge knows isn't wrong: the station is here, or behind that neighbour, along the tree
unfoldable pub top_way : ℕ → Tree → ℕ → List ℕ
top_way zero t b = b ∷ []
top_way (suc k) t b = cond (t.above b == b) (b ∷ []) (b ∷ top_way k t (t.above b))

-- c stands on the way from b to h: the one above b, or the one below b above h
abbrev pub on_way : ℕ → Tree → ℕ → ℕ → ℕ → Bool
on_way n t b h c = joined t b c && cond (t.above c == b) (is_in c (top_way n t h)) (not (is_in b (top_way n t h)))

abbrev pub NotWrong : Rules → World → Tree → ℕ → ℕ → Where → Type 0
NotWrong r w t b s Unknown = Unit {0}
NotWrong r w t b s Here = w.home s ≡ b
NotWrong r w t b s (Behind c) = on_way r.bridges t b (w.home s) c ≡ true

unfoldable pub moved : ℕ → List Ev → Bool
moved s [] = false
moved s (Moves a b ∷ es) = a == s || moved s es
moved s (Sends a d ∷ es) = moved s es
moved s (Comes i ∷ es) = moved s es
moved s (Lost i ∷ es) = moved s es
moved s (Link a b c ∷ es) = moved s es
moved s (Announced t ∷ es) = moved s es
moved s (Takes b n ∷ es) = moved s es
moved s (Forgets b n a ∷ es) = moved s es
moved s (Falls b ∷ es) = moved s es

-- 5. What is learnt along a tree of a station that didn't move since the tree was announced isn't wrong.
abbrev pub LearntRight : Type 0
LearntRight =
    (r : Rules) (es later before : List Ev) (t : Tree) → es ≡ later ++ (Announced t ∷ before) → tree_of t.number (world r before).trees ≡ NoTree →
    ((b : ℕ) → r.bridges ≤ b → t.above b ≡ b) → (s b : ℕ) → s < r.stations → b < r.bridges → moved s later ≡ false → NotWrong r (world r es) t b s ((world r es).learned b t.number s)

-- the net rests along a tree: every bridge has it as its newest, links along it are up, and it hangs together
pub record Rests (r : Rules) (w : World) (t : Tree) : Type 0 where
  pub there : tree_of t.number w.trees ≡ This t
  pub newest : (b : ℕ) → b < r.bridges → (ns : List ℕ) × (w.holds b ≡ t.number ∷ ns)
  pub links : (b c : ℕ) → b < r.bridges → c < r.bridges → joined t b c ≡ true → w.up b c ≡ true
  pub inside : (b : ℕ) → (b < r.bridges → t.above b < r.bridges) × (r.bridges ≤ b → t.above b ≡ b)
  pub top : ℕ
  pub together : (b : ℕ) → b < r.bridges → is_in top (top_way r.bridges t b) ≡ true

-- links that are up join all bridges
pub data Linked (r : Rules) (w : World) : ℕ → Type 0 where
  zeroth : Linked r w 0
  over : {a b : ℕ} → Linked r w a → b < r.bridges → w.up a b ≡ true → w.up b a ≡ true → Linked r w b

unfoldable pub only_trees : List Ev → Bool
only_trees [] = true
only_trees (Announced t ∷ es) = only_trees es
only_trees (Takes b n ∷ es) = only_trees es
only_trees (Comes i ∷ es) = false
only_trees (Sends s d ∷ es) = false
only_trees (Lost i ∷ es) = false
only_trees (Link a b c ∷ es) = false
only_trees (Moves s b ∷ es) = false
only_trees (Forgets b n s ∷ es) = false
only_trees (Falls b ∷ es) = false

unfoldable pub only_comes : List Ev → Bool
only_comes [] = true
only_comes (Comes i ∷ es) = only_comes es
only_comes (Sends s d ∷ es) = false
only_comes (Lost i ∷ es) = false
only_comes (Link a b c ∷ es) = false
only_comes (Announced t ∷ es) = false
only_comes (Takes b n ∷ es) = false
only_comes (Moves s b ∷ es) = false
only_comes (Forgets b n s ∷ es) = false
only_comes (Falls b ∷ es) = false

unfoldable pub none_of : ℕ → List Copy → Bool
none_of f [] = true
none_of f (x ∷ xs) = not (x.frame.number == f) && none_of f xs

-- THE MAIN PROMISE. Whatever trees, and things that are none, are announced and taken when, whatever is lost, whichever links come and go, and whoever moves and falls: no copy of a frame ever comes to a bridge where that copy was, no bridge
-- hands a frame to a station twice, nobody gets what isn't of its colour, and what is learnt of who didn't move isn't wrong. When the net rests along a tree, a frame to a station of the sender's colour of which nothing wrong is known arrives there, once, when all copies
-- have come, in whatever order; and where the station is known to all bridges, nobody else gets it. And wherever links join all bridges, one tree announced and taken brings rest.
pub record Whole (r : Rules) (es : List Ev) : Type 0 where
  pub no_round : (x : Copy) → Memᴰ x (world r es).copies → different (x.at ∷ x.trail) ≡ true
  pub not_twice : (f s b : ℕ) → count_got f s b (world r es).got ≤ 1
  pub right_colour : (g : Got) → Memᴰ g (world r es).got → (s : ℕ) × (d : ℕ) × (sent_in r es g.frame s d ≡ true) × (r.colour g.station ≡ r.colour s)
  pub learnt_right : (later before : List Ev) (t : Tree) → es ≡ later ++ (Announced t ∷ before) → tree_of t.number (world r before).trees ≡ NoTree → ((b : ℕ) → r.bridges ≤ b → t.above b ≡ b) →
      (s b : ℕ) → s < r.stations → b < r.bridges → moved s later ≡ false → NotWrong r (world r es) t b s ((world r es).learned b t.number s)
  pub arrives : (t : Tree) → looks r.bridges t ≡ true → Rests r (world r es) t → (s d : ℕ) → s < r.stations → d < r.stations → (s ≢ d) → r.colour s ≡ r.colour d → (world r es).home s < r.bridges → (world r es).home d < r.bridges →
      ((b : ℕ) → b < r.bridges → NotWrong r (world r es) t b d ((world r es).learned b t.number d)) → none_of (world r es).next (world r es).copies ≡ true →
      ((x : Copy) → Memᴰ x (world r es).copies → x.frame.from ≢ d) →
      (fs : List Ev) → T (only_comes fs) → none_of (world r es).next (world r (fs ++ (Sends s d ∷ es))).copies ≡ true →
      (count_got (world r es).next d ((world r es).home d) (world r (fs ++ (Sends s d ∷ es))).got ≡ 1) ×
      (((b : ℕ) → b < r.bridges → (world r es).learned b t.number d ≢ Unknown) → (q b : ℕ) → (q ≢ d) → count_got (world r es).next q b (world r (fs ++ (Sends s d ∷ es))).got ≡ 0)
  pub can_rest : 0 < r.bridges → ((b : ℕ) → b < r.bridges → Linked r (world r es) b) → (fs : List Ev) × T (only_trees fs) × (length fs ≤ suc r.bridges) × (t : Tree) × (looks r.bridges t ≡ true) × Rests r (world r (fs ++ es)) t

abbrev pub Main : Type 0
Main = (r : Rules) (es : List Ev) → Whole r es
