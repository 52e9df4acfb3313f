-- The record of what the code must be, filled with a bridge's memory as `forwarding` has it: its two trees and their tables. That record knows no ports: every two bridges may be linked, and who is at a bridge is heard there. So here
-- all stations come by port 0, and copies and hand-overs are told in the record's own words, which also cover a frame to its own sender; that the ports of a bridge give the same is shown in Onward and Handing. The record adopts its
-- newest tree once more, and has no clock: so it is here.
use Rattle.std.proofs.Common.{◌≡◌, ℕ, zero, suc, ◌^◌, ◌<◌, Bool, true, false, cond, not, ◌&&◌, ◌||◌, T, eqb, ltb, List, [], ◌∷◌, ◌++◌, sym, refl, ap, ◌∙◌, subst, inl, inr, arith}
use native.Mathlib.Decide.{ℕ_discrete}
use Rattle.std.proofs.lemmas.Bool.Decides.{nat_tests}
use Rattle.std.proofs.lemmas.Bool.{eq-eqb, ne_eqb}
use Rattle.trees.specs.Tree.{Tree, looks, is_in}
use Rattle.bridges.specs.Net.{Copy, Where, Unknown, Here, Behind, Got, Rules, World, Found, NoTree, This, tree_of, came_by, floods, toward, may_get, gets, knows, learns, handle, two, send_by, take_if, announce_if, start, step, first_of, Ev, Sends, Comes, Lost, Link, Announced, Takes, Moves, Forgets, Falls}
use Rattle.bridges.specs.Code.{View, Stands, steps, only_forgets, is_comes, is_takes_of, there, Code}
use Rattle.std.proofs.lemmas.Bool.{cond_both}
use Rattle.fdb.specs.Entries.{find, without}
use Rattle.fdb.specs.Contents.{Contents, empty}
use Rattle.ports.specs.Places.{Place, Nowhere, Came, ByPort, ByBridge, sender}
use Rattle.forwarding.specs.State.{Slot, State, is_tree, look_in, heard_in, started, crashed}
use Rattle.forwarding.specs.Replies.{Newest, Older, none, after}
use Rattle.network.specs.Network.{Plug, rules, locate}
use Rattle.network.specs.Simulation.{held_by, numbers, place_in, where_is}
use Rattle.network.proofs.Tests.{by_test}
use Rattle.network.proofs.Tables.{look, Fades, look-without, learned-fades, learned-here}
use Rattle.network.proofs.Worlds.{relearnt, forgot_in}
use Rattle.network.proofs.Learning.{with_tables, gone_from, gone-told, tables-fade}
use Rattle.network.proofs.Changes.{adopts_holds}
use Rattle.network.proofs.Arriving.{holds_either, tree_of_lem}
use Rattle.network.proofs.Frames.{is_tree_lem, place_came, entry, noted, noted-newest, noted-older}

-- a bridge: its memory, its links, and who is here
record Local : Type 0 where
  memory : State
  up : ℕ → Bool
  here : ℕ → Bool
  ordered : none memory.newest.tree ≡ true → none memory.older.tree ≡ true

-- all stations come by one port
abbrev plug : ℕ → Plug
plug b = record { bridge = b; port = 0 }

abbrev view : ℕ → View Local
view b = record {
  holds = λ l. numbers (held_by l.memory);
  learned = λ l t q. where_is b (plug b) (place_in l.memory t q);
  links = λ l c. l.up c;
  here = λ l q. l.here q;
}

-- the same, but for what is remembered
abbrev remember : Local → (s : State) → (none s.newest.tree ≡ true → none s.older.tree ≡ true) → Local
remember l s o = record { memory = s; up = l.up; here = l.here; ordered = o }

-- forgetting, in the record's events
forgets_all : ℕ → ℕ → List ℕ → List Ev
forgets_all b n [] = []
forgets_all b n (q ∷ qs) = Forgets b n q ∷ forgets_all b n qs

abbrev forgets_in : ℕ → Found → List ℕ → List Ev
forgets_in b NoTree qs = []
forgets_in b (This t) qs = forgets_all b t.number qs

steps-append : (r : Rules) (fs es : List Ev) (w : World) → steps r (fs ++ es) w ≡ steps r fs (steps r es w)
unfolding steps
steps-append r [] es w = refl
steps-append r (e ∷ fs) es w = ap (step r e) (steps-append r fs es w)

forget_more : (b n s p t q : ℕ) (qs : List ℕ) (k : Where) →
    cond (eqb p b && (eqb t n && eqb q s)) Unknown (cond (eqb p b && (eqb n t && is_in q qs)) Unknown k) ≡ cond (eqb p b && (eqb n t && is_in q (s ∷ qs))) Unknown k
unfolding is_in
forget_more b n s p t q qs k = grind (arith, nat_tests)

none_more : (b p : ℕ) (v : Bool) (k : Where) → k ≡ cond (eqb p b && (v && false)) Unknown k
none_more b p v k = grind (arith, nat_tests)

forgets_all_lem : (b : ℕ) (u : Tree) (qs : List ℕ) (w : World) → steps rules (forgets_all b u.number qs) w ≡ relearnt (forgot_in b (This u) qs w.learned) w
unfolding steps forgets_all is_in
forgets_all_lem b u [] w = ap (λ f. relearnt f w) (λ i p t q. none_more b p (eqb u.number t) (w.learned p t q) i)
forgets_all_lem b u (s ∷ qs) w = ap (step rules (Forgets b u.number s)) (forgets_all_lem b u qs w) ∙ ap (λ f. relearnt f w) (λ i p t q. forget_more b u.number s p t q qs (w.learned p t q) i)

forgets_so : (b : ℕ) (tree : Found) (qs : List ℕ) (w : World) → steps rules (forgets_in b tree qs) w ≡ relearnt (forgot_in b tree qs w.learned) w
unfolding steps
forgets_so b NoTree qs w = ap (λ f. relearnt f w) (λ i p t q. none p (w.learned p t q) i)
  where
    none : (p : ℕ) (k : Where) → k ≡ cond (eqb p b && false) Unknown k
    none p k = grind (arith, nat_tests)
forgets_so b (This u) qs w = forgets_all_lem b u qs w

only_append : (b : ℕ) (fs gs : List Ev) → only_forgets b fs ≡ true → only_forgets b gs ≡ true → only_forgets b (fs ++ gs) ≡ true
unfolding only_forgets
only_append b [] gs f g = g
only_append b (Forgets c n s ∷ fs) gs f g = grind (arith, nat_tests, only_append b fs gs)
only_append b (Sends s d ∷ fs) gs f g = f
only_append b (Comes i ∷ fs) gs f g = f
only_append b (Lost i ∷ fs) gs f g = f
only_append b (Link a c v ∷ fs) gs f g = f
only_append b (Announced t ∷ fs) gs f g = f
only_append b (Takes c n ∷ fs) gs f g = f
only_append b (Moves s c ∷ fs) gs f g = f
only_append b (Falls c ∷ fs) gs f g = f

only_all : (b n : ℕ) (qs : List ℕ) → only_forgets b (forgets_all b n qs) ≡ true
unfolding only_forgets forgets_all
only_all b n [] = refl
only_all b n (q ∷ qs) = rw (eq-eqb b b refl) (only_all b n qs)

only_in : (b : ℕ) (tree : Found) (qs : List ℕ) → only_forgets b (forgets_in b tree qs) ≡ true
unfolding only_forgets
only_in b NoTree qs = refl
only_in b (This t) qs = only_all b t.number qs

is-so : (v : Bool) → v ≡ true → T v
is-so v e = subst T (sym e) tt

-- what is known fades: all that is gone is forgotten
fade : ℕ → State → (ℕ → ℕ → Place) → List Ev
fade b s new = forgets_in b s.newest.tree (gone_from s new s.newest) ++ forgets_in b s.older.tree (gone_from s new s.older)

fade_world : (b : ℕ) (s : State) (new : ℕ → ℕ → Place) (w : World) →
    steps rules (fade b s new) w ≡ relearnt (forgot_in b s.newest.tree (gone_from s new s.newest) (forgot_in b s.older.tree (gone_from s new s.older) w.learned)) w
unfolding fade
fade_world b s new w = steps-append rules (forgets_in b s.newest.tree (gone_from s new s.newest)) _ w ∙
    (ap (steps rules (forgets_in b s.newest.tree (gone_from s new s.newest))) (forgets_so b s.older.tree (gone_from s new s.older) w) ∙
    forgets_so b s.newest.tree (gone_from s new s.newest) (relearnt (forgot_in b s.older.tree (gone_from s new s.older) w.learned) w))

faded : (b : ℕ) (l : Local) (s s' : State) (o : none s'.newest.tree ≡ true → none s'.older.tree ≡ true) (w : World) → numbers (held_by s') ≡ w.holds b →
    ((t q : ℕ) → where_is b (plug b) (place_in s t q) ≡ w.learned b t q) → ((t q : ℕ) → Fades (place_in s t q) (place_in s' t q)) → ((c : ℕ) → l.up c ≡ w.up b c) → ((q : ℕ) → l.here q ≡ eqb (w.home q) b) →
    (fs : List Ev) × T (only_forgets b fs) × Stands Local (view b) b (remember l s' o) (steps rules fs w)
unfolding fade
faded b l s s' o w h k f u e = (
  fade b s (place_in s'),
  is-so _ (only_append b (forgets_in b s.newest.tree (gone_from s (place_in s') s.newest)) _ (only_in b s.newest.tree _) (only_in b s.older.tree _)),
  subst (λ v. Stands Local (view b) b (remember l s' o) v) (sym (fade_world b s (place_in s') w)) (record {
    holds_so = h;
    learned_so = λ t q. rw (eq-eqb b b refl) (gone-told s (place_in s') b (plug b) (w.learned b t q) t q (f t q) (k t q));
    links_so = u;
    here_so = e;
  }),
)

-- it takes a tree that looks like one
abbrev with_tree : Tree → State → State
with_tree t s = record { number = s.number; ports = s.ports; newest = record { tree = This t; table = empty }; older = s.newest }

takes : Tree → Local → Local
takes t l = cond (looks 128 t) (remember l (with_tree t l.memory) (λ e. absurd (grind arith))) l

takes_fades : (e m o : Bool) (p r : Place) → Fades (cond m p (cond o r Nowhere)) (cond e Nowhere (cond m p Nowhere))
takes_fades true m o p r = inr refl
takes_fades false true o p r = inl refl
takes_fades false false true p r = inr refl
takes_fades false false false p r = inl refl

takes_so : (b : ℕ) (l : Local) (w : World) (t : Tree) → Stands Local (view b) b l w → tree_of t.number w.trees ≡ This t →
    (fs : List Ev) × T (only_forgets b fs) × Stands Local (view b) b (takes t l) (steps rules fs (step rules (Takes b t.number) w))
unfolding takes steps only_forgets find
takes_so b l w t i known = subst (λ f. (fs : List Ev) × T (only_forgets b fs) × Stands Local (view b) b (takes t l) (steps rules fs (take_if rules b t.number f w))) (sym known)
    (by_test (looks 128 t) (λ v. (fs : List Ev) × T (only_forgets b fs) × Stands Local (view b) b (cond v (remember l (with_tree t l.memory) (λ e. absurd (grind arith))) l) (steps rules fs (cond (not v) w w')))
    (λ _. faded b l l.memory (with_tree t l.memory) _ w' (rw (eq-eqb b b refl, ← i.holds_so) (adopts_holds t l.memory.newest.tree l.memory.older.tree l.ordered)) i.learned_so
    (λ u q. adopts_fade u q) i.links_so i.here_so)
    (λ _. ([], tt, i)))
  where
    w' : World
    w' = record { home = w.home; up = w.up; trees = w.trees; holds = λ c. cond (eqb c b) (two (t.number ∷ w.holds b)) (w.holds c); learned = w.learned; copies = w.copies; got = w.got; next = w.next }

    adopts_fade : (u q : ℕ) → Fades (place_in l.memory u q) (place_in (with_tree t l.memory) u q)
    adopts_fade u q = takes_fades (eqb t.number u) (is_tree u l.memory.newest.tree) (is_tree u l.memory.older.tree) (look_in l.memory.newest q) (look_in l.memory.older q)

-- whence a copy came
abbrev came : List ℕ → Came
came [] = ByPort 0
came (c ∷ cs) = ByBridge c

came-so : (b : ℕ) (trail : List ℕ) → where_is b (plug b) (sender (came trail)) ≡ came_by trail
came-so b [] = rw (eq-eqb b b refl)
came-so b (c ∷ cs) = refl

abbrev heard : Copy → State → State
heard x s = cond (is_tree x.frame.tree s.newest.tree) (after Newest (locate (came x.trail)) x.frame.from x.frame.to 0 s) (after Older (locate (came x.trail)) x.frame.from x.frame.to 0 s)

heard-ordered : (x : Copy) (s : State) → (none s.newest.tree ≡ true → none s.older.tree ≡ true) → none (heard x s).newest.tree ≡ true → none (heard x s).older.tree ≡ true
heard-ordered x s o = cond_both (is_tree x.frame.tree s.newest.tree) _ _ (λ (m : State). none m.newest.tree ≡ true → none m.older.tree ≡ true) (λ _. o) (λ _. o)

comes : Copy → Tree → Local → Local
comes x t l = cond (is_in x.frame.tree (numbers (held_by l.memory))) (remember l (heard x l.memory) (heard-ordered x l.memory l.ordered)) l

-- a copy comes along a tree that the bridge holds
module _ (x : Copy) (l : Local) (w : World) (i : Stands Local (view x.at) x.at l w) where
  -- the world once it has learnt whence the frame came, whatever copies are then under way
  abbrev learnt : List Copy → List Got → World
  learnt copies got = record { home = w.home; up = w.up; trees = w.trees; holds = w.holds; learned = learns x w.learned; copies = copies; got = got; next = w.next }

  -- what is known once the sender is noted
  told : (s : State) → ((u q : ℕ) → place_in s u q ≡ cond (eqb u x.frame.tree && eqb q x.frame.from) (sender (came x.trail)) (place_in l.memory u q)) →
      (u q : ℕ) → where_is x.at (plug x.at) (place_in s u q) ≡ learns x w.learned x.at u q
  told s h u q = rw (eq-eqb x.at x.at refl, h u q) (by_test (eqb u x.frame.tree && eqb q x.frame.from)
      (λ v. where_is x.at (plug x.at) (cond v (sender (came x.trail)) (place_in l.memory u q)) ≡ cond v (came_by x.trail) (w.learned x.at u q)) (λ _. came-so x.at x.trail) (λ _. i.learned_so u q))

  its : (tree : Found) → is_tree x.frame.tree tree ≡ true → (u : ℕ) → is_tree u tree ≡ eqb u x.frame.tree
  its tree h u = let a = tree_of_lem x.frame.tree tree h in is_tree_lem u tree a.0 a.1 ∙ ap (eqb u) a.2

  abbrev Handled : State → World → Type 0
  Handled s u = (o : none s.newest.tree ≡ true → none s.older.tree ≡ true) → (fs : List Ev) × T (only_forgets x.at fs) × Stands Local (view x.at) x.at (remember l s o) (steps rules fs u)

  abbrev note_newest : State
  note_newest = with_tables l.memory (noted x.frame.from x.frame.to 0 (came x.trail) l.memory.newest) l.memory.older.table

  abbrev note_older : State
  note_older = with_tables l.memory l.memory.newest.table (noted x.frame.from x.frame.to 0 (came x.trail) l.memory.older)

  comes_newest : (copies : List Copy) (got : List Got) → is_tree x.frame.tree l.memory.newest.tree ≡ true →
      Handled (after Newest (locate (came x.trail)) x.frame.from x.frame.to 0 l.memory) (learnt copies got)
  comes_newest copies got n o = faded x.at l note_newest _ o (learnt copies got) i.holds_so
      (told note_newest (noted-newest x.frame.from x.frame.to 0 (came x.trail) l.memory x.frame.tree (its l.memory.newest.tree n)))
      (tables-fade note_newest (heard_in (locate (came x.trail)) x.frame.from x.frame.to 0 l.memory.newest).table l.memory.older.table
      (λ q. learned-fades (entry x.frame.from x.frame.to 0 (came x.trail) l.memory.newest) x.frame.to l.memory.newest.table.entries q) (λ q. inl refl)) i.links_so i.here_so

  comes_older : (copies : List Copy) (got : List Got) → is_tree x.frame.tree l.memory.newest.tree ≡ false → is_tree x.frame.tree l.memory.older.tree ≡ true →
      Handled (after Older (locate (came x.trail)) x.frame.from x.frame.to 0 l.memory) (learnt copies got)
  comes_older copies got d n o = faded x.at l note_older _ o (learnt copies got) i.holds_so
      (told note_older (noted-older x.frame.from x.frame.to 0 (came x.trail) l.memory x.frame.tree (its l.memory.older.tree n) d))
      (tables-fade note_older l.memory.newest.table (heard_in (locate (came x.trail)) x.frame.from x.frame.to 0 l.memory.older).table (λ q. inl refl)
      (λ q. learned-fades (entry x.frame.from x.frame.to 0 (came x.trail) l.memory.older) x.frame.to l.memory.older.table.entries q)) i.links_so i.here_so

  holds_test : is_in x.frame.tree (w.holds x.at) ≡ (is_tree x.frame.tree l.memory.newest.tree || is_tree x.frame.tree l.memory.older.tree)
  holds_test = ap (is_in x.frame.tree) (sym i.holds_so) ∙ holds_either x.frame.tree l.memory.newest.tree l.memory.older.tree

  or_other : (a b : Bool) → (a || b) ≡ true → a ≡ false → b ≡ true
  or_other a b h k = grind arith

  comes_held : (copies : List Copy) (got : List Got) → is_in x.frame.tree (w.holds x.at) ≡ true → Handled (heard x l.memory) (learnt copies got)
  comes_held copies got e = cond_both (is_tree x.frame.tree l.memory.newest.tree) _ _ (λ s. Handled s (learnt copies got)) (comes_newest copies got)
      (λ d. comes_older copies got d (or_other (is_tree x.frame.tree l.memory.newest.tree) (is_tree x.frame.tree l.memory.older.tree) (sym holds_test ∙ e) d))

comes_at : (x : Copy) (t : Tree) (l : Local) (w : World) → Stands Local (view x.at) x.at l w →
    (fs : List Ev) × T (only_forgets x.at fs) × Stands Local (view x.at) x.at (comes x t l) (steps rules fs (handle rules x (This t) w))
unfolding comes steps only_forgets
comes_at x t l w i = subst (λ hs. (fs : List Ev) × T (only_forgets x.at fs) × Stands Local (view x.at) x.at (cond (is_in x.frame.tree hs) (remember l (heard x l.memory) (heard-ordered x l.memory l.ordered)) l) (steps rules fs (handle rules x (This t) w)))
    (sym i.holds_so) (by_test (is_in x.frame.tree (w.holds x.at))
    (λ v. (fs : List Ev) × T (only_forgets x.at fs) × Stands Local (view x.at) x.at (cond v (remember l (heard x l.memory) (heard-ordered x l.memory l.ordered)) l) (steps rules fs (cond v w' w)))
    (λ e. comes_held x l w i (toward t w.up x (knows w x) 128 ++ w.copies) (gets rules w x (knows w x) (2 ^ 60) ++ w.got) e (heard-ordered x l.memory l.ordered)) (λ _. ([], tt, i)))
  where
    w' : World
    w' = learnt x l w i (toward t w.up x (knows w x) 128 ++ w.copies) (gets rules w x (knows w x) (2 ^ 60) ++ w.got)

keeps_at : (x : Copy) (t : Tree) (l : Local) (w : World) → Stands Local (view x.at) x.at l w → is_in x.frame.tree (w.holds x.at) ≡ true →
    (view x.at).learned (comes x t l) x.frame.tree x.frame.from ≡ came_by x.trail
unfolding comes
keeps_at x t l w i e = rw (ap (is_in x.frame.tree) i.holds_so ∙ e) (ap (where_is x.at (plug x.at)) (cond_both (is_tree x.frame.tree l.memory.newest.tree) _ _ (λ (s : State). place_in s x.frame.tree x.frame.from ≡ sender (came x.trail))
    (λ h. rw h (learned-here (entry x.frame.from x.frame.to 0 (came x.trail) l.memory.newest) x.frame.to l.memory.newest.table.entries ∙ place_came (came x.trail)))
    (λ d. rw (d, or_other x l w i (is_tree x.frame.tree l.memory.newest.tree) (is_tree x.frame.tree l.memory.older.tree) (sym (holds_test x l w i) ∙ e) d)
    (learned-here (entry x.frame.from x.frame.to 0 (came x.trail) l.memory.older) x.frame.to l.memory.older.table.entries ∙ place_came (came x.trail)))) ∙ came-so x.at x.trail)

-- copies and hand-overs turn on the bridge's own links, and on who is here
floods-same : (t : Tree) (up up' : ℕ → ℕ → Bool) (x : Copy) → ((c : ℕ) → up x.at c ≡ up' x.at c) → (n : ℕ) → floods n t up x ≡ floods n t up' x
unfolding floods
floods-same t up up' x h zero = refl
floods-same t up up' x h (suc c) = rw (h c, floods-same t up up' x h c)

toward-same : (t : Tree) (up up' : ℕ → ℕ → Bool) (x : Copy) → ((c : ℕ) → up x.at c ≡ up' x.at c) → (k : Where) (n : ℕ) → toward t up x k n ≡ toward t up' x k n
toward-same t up up' x h Unknown n = floods-same t up up' x h n
toward-same t up up' x h Here n = refl
toward-same t up up' x h (Behind c) n = rw (h c)

may_same : (w w' : World) (x : Copy) (k : Where) (q : ℕ) → eqb (w.home q) x.at ≡ eqb (w'.home q) x.at → may_get rules w x k q ≡ may_get rules w' x k q
may_same w w' x Unknown q h = rw h
may_same w w' x Here q h = rw h
may_same w w' x (Behind c) q h = refl

gets-same : (w w' : World) (x : Copy) (k : Where) → ((q : ℕ) → eqb (w.home q) x.at ≡ eqb (w'.home q) x.at) → (n : ℕ) → gets rules w x k n ≡ gets rules w' x k n
unfolding gets
gets-same w w' x k h zero = refl
gets-same w w' x k h (suc q) = rw (may_same w w' x k q (h q), gets-same w w' x k h q)

-- a world in which stations are where a bridge has them
abbrev housed : ℕ → Local → World
housed b l = record { home = λ q. cond (l.here q) b 128; up = start.up; trees = start.trees; holds = start.holds; learned = start.learned; copies = start.copies; got = start.got; next = start.next }

on : ℕ → Copy → Tree → Local → List Copy
on b x t l = cond (is_in x.frame.tree (numbers (held_by l.memory))) (toward t (λ _ c. l.up c) x (where_is b (plug b) (place_in l.memory x.frame.tree x.frame.to)) 128) []

hands : ℕ → Copy → Tree → Local → List Got
hands b x t l = cond (is_in x.frame.tree (numbers (held_by l.memory))) (gets rules (housed b l) x (where_is b (plug b) (place_in l.memory x.frame.tree x.frame.to)) (2 ^ 60)) []

on_at : (x : Copy) (t : Tree) (l : Local) (w : World) → x.at < 128 → Stands Local (view x.at) x.at l w →
    (on x.at x t l ≡ cond (is_in x.frame.tree (w.holds x.at)) (toward t w.up x (knows w x) 128) []) ×
    (hands x.at x t l ≡ cond (is_in x.frame.tree (w.holds x.at)) (gets rules w x (knows w x) (2 ^ 60)) [])
unfolding on hands
on_at x t l w lt i = (
  rw (i.holds_so, i.learned_so x.frame.tree x.frame.to, toward-same t (λ _ c. l.up c) w.up x i.links_so (knows w x) 128),
  rw (i.holds_so, i.learned_so x.frame.tree x.frame.to, gets-same (housed x.at l) w x (knows w x) (λ q. at_home (l.here q) x.at lt ∙ i.here_so q) (2 ^ 60)),
)
  where
    at_home : (v : Bool) (b : ℕ) → b < 128 → eqb (cond v b 128) b ≡ v
    at_home v b lt = grind (arith, nat_tests)

-- all else that happens
abbrev forget_table : ℕ → ℕ → Slot → Contents
forget_table n q slot = record { entries = cond (is_tree n slot.tree) (without q slot.table.entries) slot.table.entries; heard = slot.table.heard }

abbrev forget : ℕ → ℕ → State → State
forget n q s = with_tables s (forget_table n q s.newest) (forget_table n q s.older)

does : ℕ → Ev → Local → Local
does b (Sends s d) l = l
does b (Comes j) l = l
does b (Lost j) l = l
does b (Link a c v) l = record { memory = l.memory; up = λ d. cond (eqb b a && eqb d c) v (cond (eqb b c && eqb d a) v (l.up d)); here = l.here; ordered = l.ordered }
does b (Announced t) l = l
does b (Takes c n) l = l
does b (Moves s c) l = record { memory = l.memory; up = l.up; here = λ q. cond (eqb q s) (eqb c b) (l.here q); ordered = l.ordered }
does b (Forgets c n q) l = cond (eqb c b) (remember l (forget n q l.memory) l.ordered) l
does b (Falls c) l = cond (eqb c b) (remember l (crashed l.memory) (λ _. refl)) l

forget-look : (n q : ℕ) (slot : Slot) (t r : ℕ) → is_tree t slot.tree ≡ true → look (forget_table n q slot).entries r ≡ cond (eqb t n && eqb r q) Nowhere (look_in slot r)
forget-look n q slot t r h = let a = tree_of_lem t slot.tree h in
    rw (is_tree_lem n slot.tree a.0 a.1 ∙ (ap (eqb n) a.2 ∙ flip n t)) (by_test (eqb t n) (λ v. look (cond v (without q slot.table.entries) slot.table.entries) r ≡ cond (v && eqb r q) Nowhere (look_in slot r))
    (λ _. look-without q slot.table.entries r) (λ _. refl))
  where
    flip : (a b : ℕ) → eqb a b ≡ eqb b a
    flip a b = grind (arith, nat_tests)

forget-place : (n q : ℕ) (s : State) (t r : ℕ) → place_in (forget n q s) t r ≡ cond (eqb t n && eqb r q) Nowhere (place_in s t r)
forget-place n q s t r = by_test (is_tree t s.newest.tree)
    (λ m. cond m (look (forget_table n q s.newest).entries r) (cond (is_tree t s.older.tree) (look (forget_table n q s.older).entries r) Nowhere) ≡
    cond (eqb t n && eqb r q) Nowhere (cond m (look_in s.newest r) (cond (is_tree t s.older.tree) (look_in s.older r) Nowhere)))
    (forget-look n q s.newest t r)
    (λ _. by_test (is_tree t s.older.tree) (λ o. cond o (look (forget_table n q s.older).entries r) Nowhere ≡ cond (eqb t n && eqb r q) Nowhere (cond o (look_in s.older r) Nowhere))
    (forget-look n q s.older t r) (λ _. none (eqb t n && eqb r q)))
  where
    none : (v : Bool) → Nowhere ≡ cond v Nowhere Nowhere
    none v = grind (arith, nat_tests)

module _ (b : ℕ) (l : Local) (w : World) (i : Stands Local (view b) b l w) where
  -- what leaves trees, tables, links and homes of this bridge as they are
  stays : (u : World) → u.holds b ≡ w.holds b → u.learned b ≡ w.learned b → u.up b ≡ w.up b → u.home ≡ w.home → Stands Local (view b) b l u
  stays u h k up home = record {
    holds_so = i.holds_so ∙ sym h;
    learned_so = λ t q. i.learned_so t q ∙ ap (λ f. f t q) (sym k);
    links_so = λ c. i.links_so c ∙ ap (λ f. f c) (sym up);
    here_so = λ q. i.here_so q ∙ ap (λ f. eqb (f q) b) (sym home);
  }

  sends_stays : (s d : ℕ) (hs : List ℕ) → Stands Local (view b) b l (send_by rules s d hs w)
  unfolding send_by
  sends_stays s d [] = i
  sends_stays s d (n ∷ ns) = stays _ refl refl refl refl

  announced_stays : (t : Tree) (f : Found) → Stands Local (view b) b l (announce_if t f w)
  announced_stays t NoTree = stays _ refl refl refl refl
  announced_stays t (This u) = i

  takes_stays : (c n : ℕ) → eqb c b ≡ false → (f : Found) → Stands Local (view b) b l (take_if rules c n f w)
  takes_stays c n e NoTree = i
  takes_stays c n e (This t) = cond_both (not (looks 128 t)) w _ (λ u. Stands Local (view b) b l u) (λ _. i) (λ _. stays _ (rw (flip b c ∙ e)) refl refl refl)
    where
      flip : (a b : ℕ) → eqb a b ≡ eqb b a
      flip a b = grind (arith, nat_tests)

  moves_so : (s c : ℕ) → (ltb s (2 ^ 60) && ltb c 128) ≡ true → Stands Local (view b) b (does b (Moves s c) l) (step rules (Moves s c) w)
  unfolding does
  moves_so s c h = rw (right (ltb s (2 ^ 60)) (ltb c 128) h) (record {
    holds_so = i.holds_so;
    learned_so = i.learned_so;
    links_so = i.links_so;
    here_so = λ q. by_test (eqb q s) (λ v. cond v (eqb c b) (l.here q) ≡ eqb (cond v c (w.home q)) b) (λ _. refl) (λ _. i.here_so q);
  })
    where
      right : (x y : Bool) → (x && y) ≡ true → y ≡ true
      right x y h = grind arith

  forgets_one : (c n q : ℕ) → Stands Local (view b) b (does b (Forgets c n q) l) (step rules (Forgets c n q) w)
  unfolding does
  forgets_one c n q = elim (ℕ_discrete c b) [
    | yes e ↦ rw (eq-eqb c b e) (record {
      holds_so = i.holds_so;
      learned_so = λ t r. rw (eq-eqb b c (sym e), forget-place n q l.memory t r) (by_test (eqb t n && eqb r q)
          (λ v. where_is b (plug b) (cond v Nowhere (place_in l.memory t r)) ≡ cond v Unknown (w.learned b t r)) (λ _. refl) (λ _. i.learned_so t r));
      links_so = i.links_so;
      here_so = i.here_so;
    })
    | no k ↦ rw (ne_eqb c b k) (record {
      holds_so = i.holds_so;
      learned_so = λ t r. rw (ne_eqb b c (λ e. k (sym e))) (i.learned_so t r);
      links_so = i.links_so;
      here_so = i.here_so;
    })
  ]

  falls_so : (c : ℕ) → Stands Local (view b) b (does b (Falls c) l) (step rules (Falls c) w)
  unfolding does numbers find
  falls_so c = elim (ℕ_discrete c b) [
    | yes e ↦ rw (eq-eqb c b e) (record {
      holds_so = rw (eq-eqb b c (sym e));
      learned_so = λ t r. rw (eq-eqb b c (sym e));
      links_so = i.links_so;
      here_so = i.here_so;
    })
    | no k ↦ rw (ne_eqb c b k) (record {
      holds_so = rw (ne_eqb b c (λ e. k (sym e))) i.holds_so;
      learned_so = λ t r. rw (ne_eqb b c (λ e. k (sym e))) (i.learned_so t r);
      links_so = i.links_so;
      here_so = i.here_so;
    })
  ]

does_so : (b : ℕ) (l : Local) (w : World) (e : Ev) → Stands Local (view b) b l w → is_comes e ≡ false → is_takes_of b e ≡ false → there rules e ≡ true → Stands Local (view b) b (does b e l) (step rules e w)
unfolding does
does_so b l w (Sends s d) i c t h = cond_both (ltb s (2 ^ 60) && ltb d (2 ^ 60)) (send_by rules s d (w.holds (w.home s)) w) w (λ u. Stands Local (view b) b l u) (λ _. sends_stays b l w i s d (w.holds (w.home s))) (λ _. i)
does_so b l w (Comes j) i c t h = absurd (grind arith)
does_so b l w (Lost j) i c t h = stays b l w i _ refl refl refl refl
does_so b l w (Link a d v) i c t h = record {
  holds_so = i.holds_so;
  learned_so = i.learned_so;
  links_so = λ e. ap (λ u. cond (eqb b a && eqb e d) v (cond (eqb b d && eqb e a) v u)) (i.links_so e);
  here_so = i.here_so;
}
does_so b l w (Announced u) i c t h = announced_stays b l w i u (tree_of u.number w.trees)
does_so b l w (Takes d n) i c t h = takes_stays b l w i d n t (tree_of n w.trees)
does_so b l w (Moves s d) i c t h = moves_so b l w i s d h
does_so b l w (Forgets d n q) i c t h = forgets_one b l w i d n q
does_so b l w (Falls d) i c t h = falls_so b l w i d

pub given_code : (b : ℕ) → b < 128 → Code rules b
unfolding numbers find
given_code b lt = record {
  State = Local;
  view = view b;
  begin = record { memory = started b []; up = λ c. false; here = λ q. eqb 0 b; ordered = λ _. refl };
  does = does b;
  comes = comes;
  takes = takes;
  goes = λ l. first_of (numbers (held_by l.memory));
  on = on b;
  hands = hands b;
  begins = record { holds_so = refl; learned_so = λ t q. refl; links_so = λ c. refl; here_so = λ q. refl };
  does_so = λ l w e. does_so b l w e;
  takes_so = λ l w t. takes_so b l w t;
  goes_so = λ l w i. ap first_of i.holds_so;
  comes_so = λ l w x t i e known. subst (λ c. Stands Local (view c) c l w → (fs : List Ev) × T (only_forgets c fs) × Stands Local (view c) c (comes x t l) (steps rules fs (handle rules x (This t) w))) e (comes_at x t l w) i;
  keeps = λ l w x t i e known held. subst (λ c. Stands Local (view c) c l w → is_in x.frame.tree (w.holds c) ≡ true → (view c).learned (comes x t l) x.frame.tree x.frame.from ≡ came_by x.trail) e
      (keeps_at x t l w) i held;
  on_so = λ l w x t i e known. subst (λ c. c < 128 → Stands Local (view c) c l w →
      (on c x t l ≡ cond (is_in x.frame.tree (w.holds c)) (toward t w.up x (knows w x) 128) []) × (hands c x t l ≡ cond (is_in x.frame.tree (w.holds c)) (gets rules w x (knows w x) (2 ^ 60)) [])) e (on_at x t l w) lt i;
}
