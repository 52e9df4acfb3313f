-- What is promised of Fabric for both values of `lax` gives what is promised of Net: a run of Net is one of Fabric with
-- `lax`, in which a link that comes or goes is two beliefs. Assumes nothing.
use Rattle.std.proofs.Common.{◌≡◌, ℕ, zero, suc, ◌<◌, ◌≤◌, Bool, true, false, cond, not, ◌||◌, T, List, [], ◌∷◌, ◌++◌, length, sym, refl, ap, ◌∙◌, subst, arith}
use mathlib.Core.List.{Memᴰ}
use Rattle.std.proofs.lemmas.Bool.Decides.{nat_tests}
use Rattle.trees.specs.Tree.{Tree, looks, is_in}
use Rattle.bridges.specs.Net.{Copy, Where, Unknown, Got, Rules, World, Found, NoTree, This, tree_of, toward, may_get, gets, knows, learns, handle, comes, take_if, two, without, with_copies, at, Ev, Sends, Comes, Lost, Link, Announced, Takes, Moves, Forgets, Falls, step, world}
use Rattle.bridges.specs.Promise as P
use Rattle.bridges.specs.Promise.{Whole, Main, sent_in, moved, only_comes, none_of, count_got, NotWrong, Rests, Linked}
use Rattle.bridges.specs.Fabric.{Event, Send, Arrive, Lose, Believe, Announce, Adopt, Move, Forget, Crash, Turn, run, handed, receive, arrives, adopt_if}
use Rattle.bridges.specs.Guarantee as G
use Rattle.bridges.specs.Guarantee.{Assured, Guaranteed, sent_by, makes, count_all, stays, moves, remembered, quietly, quiet, origin}

translated : List Ev → List Event
translated [] = []
translated (Sends s d ∷ es) = Send s d ∷ translated es
translated (Comes i ∷ es) = Arrive i ∷ translated es
translated (Lost i ∷ es) = Lose i ∷ translated es
translated (Link a b c ∷ es) = Believe a b c ∷ (Believe b a c ∷ translated es)
translated (Announced t ∷ es) = Announce t ∷ translated es
translated (Takes b n ∷ es) = Adopt b n ∷ translated es
translated (Moves s b ∷ es) = Move s b ∷ translated es
translated (Forgets b n s ∷ es) = Forget b n s ∷ translated es
translated (Falls b ∷ es) = Crash b ∷ translated es

-- one event

gets_so : (r : Rules) (w : World) (x : Copy) (k : Where) (n : ℕ) → gets r w x k n ≡ handed true r w x k n
unfolding gets handed
gets_so r w x k zero = refl
gets_so r w x k (suc s) = ap (λ (gs : List Got). cond (may_get r w x k s) (record { frame = x.frame.number; station = s; bridge = x.at } ∷ gs) gs) (gets_so r w x k s)

handle-so : (r : Rules) (x : Copy) (f : Found) (w : World) → handle r x f w ≡ receive true r x f w
handle-so r x NoTree w = refl
handle-so r x (This t) w = λ i. cond (is_in x.frame.tree (w.holds x.at))
    (record {
      home = w.home;
      up = w.up;
      trees = w.trees;
      holds = w.holds;
      learned = learns x w.learned;
      copies = toward t w.up x (knows w x) r.bridges ++ w.copies;
      got = gets_so r w x (knows w x) r.stations i ++ w.got;
      next = w.next;
    }) w

comes_so : (r : Rules) (i : ℕ) (xs : List Copy) (w : World) → comes r i xs w ≡ arrives true r i xs w
unfolding comes arrives
comes_so r i [] w = refl
comes_so r zero (x ∷ xs) w = handle-so r x (tree_of x.frame.tree w.trees) w
comes_so r (suc i) (x ∷ xs) w = comes_so r i xs w

or_no : (x : Bool) → x ≡ (x || false)
or_no true = refl
or_no false = refl

takes_so : (r : Rules) (b n : ℕ) (f : Found) (w : World) → take_if r b n f w ≡ adopt_if true r b n f w
takes_so r b n NoTree w = refl
takes_so r b n (This t) w = λ i. cond (or_no (not (looks r.bridges t)) i) w (record {
  home = w.home;
  up = w.up;
  trees = w.trees;
  holds = at b (two (n ∷ w.holds b)) w.holds;
  learned = w.learned;
  copies = w.copies;
  got = w.got;
  next = w.next;
})

-- a run of Net is one of Fabric
same : (r : Rules) (es : List Ev) → world r es ≡ run true r (translated es)
unfolding world run translated
same r [] = refl
same r (Sends s d ∷ es) = ap (step r (Sends s d)) (same r es)
same r (Comes i ∷ es) = ap (step r (Comes i)) (same r es) ∙ comes_so r i (run true r (translated es)).copies (with_copies (without i (run true r (translated es)).copies) (run true r (translated es)))
same r (Lost i ∷ es) = ap (step r (Lost i)) (same r es)
same r (Link a b c ∷ es) = ap (step r (Link a b c)) (same r es)
same r (Announced t ∷ es) = ap (step r (Announced t)) (same r es)
same r (Takes b n ∷ es) = ap (step r (Takes b n)) (same r es) ∙ takes_so r b n (tree_of n (run true r (translated es)).trees) (run true r (translated es))
same r (Moves s b ∷ es) = ap (step r (Moves s b)) (same r es)
same r (Forgets b n s ∷ es) = ap (step r (Forgets b n s)) (same r es)
same r (Falls b ∷ es) = ap (step r (Falls b)) (same r es)

translated-append : (fs es : List Ev) → translated (fs ++ es) ≡ translated fs ++ translated es
unfolding translated
translated-append [] es = refl
translated-append (Sends s d ∷ fs) es = ap (λ (gs : List Event). Send s d ∷ gs) (translated-append fs es)
translated-append (Comes i ∷ fs) es = ap (λ (gs : List Event). Arrive i ∷ gs) (translated-append fs es)
translated-append (Lost i ∷ fs) es = ap (λ (gs : List Event). Lose i ∷ gs) (translated-append fs es)
translated-append (Link a b c ∷ fs) es = ap (λ (gs : List Event). Believe a b c ∷ (Believe b a c ∷ gs)) (translated-append fs es)
translated-append (Announced t ∷ fs) es = ap (λ (gs : List Event). Announce t ∷ gs) (translated-append fs es)
translated-append (Takes b n ∷ fs) es = ap (λ (gs : List Event). Adopt b n ∷ gs) (translated-append fs es)
translated-append (Moves s b ∷ fs) es = ap (λ (gs : List Event). Move s b ∷ gs) (translated-append fs es)
translated-append (Forgets b n s ∷ fs) es = ap (λ (gs : List Event). Forget b n s ∷ gs) (translated-append fs es)
translated-append (Falls b ∷ fs) es = ap (λ (gs : List Event). Crash b ∷ gs) (translated-append fs es)

-- what is said of events

sent_so : (r : Rules) (es : List Ev) (f s d : ℕ) → sent_by true r (translated es) f s d ≡ true → sent_in r es f s d ≡ true
unfolding translated sent_in sent_by
sent_so r [] f s d e = e
sent_so r (Sends a c ∷ es) f s d e = grind (arith, nat_tests, sent_so r es f s d, ap (λ (w : World). w.next) (same r es))
sent_so r (Comes i ∷ es) f s d e = sent_so r es f s d e
sent_so r (Lost i ∷ es) f s d e = sent_so r es f s d e
sent_so r (Link a b c ∷ es) f s d e = sent_so r es f s d e
sent_so r (Announced t ∷ es) f s d e = sent_so r es f s d e
sent_so r (Takes b n ∷ es) f s d e = sent_so r es f s d e
sent_so r (Moves a b ∷ es) f s d e = sent_so r es f s d e
sent_so r (Forgets b n a ∷ es) f s d e = sent_so r es f s d e
sent_so r (Falls b ∷ es) f s d e = sent_so r es f s d e

stays-so : (s : ℕ) (es : List Ev) → moved s es ≡ false → stays s (translated es) ≡ true
unfolding translated moved stays
stays-so s [] e = refl
stays-so s (Sends a d ∷ es) e = stays-so s es e
stays-so s (Comes i ∷ es) e = stays-so s es e
stays-so s (Lost i ∷ es) e = stays-so s es e
stays-so s (Link a b c ∷ es) e = stays-so s es e
stays-so s (Announced t ∷ es) e = stays-so s es e
stays-so s (Takes b n ∷ es) e = stays-so s es e
stays-so s (Moves a b ∷ es) e = grind (arith, nat_tests, stays-so s es)
stays-so s (Forgets b n a ∷ es) e = stays-so s es e
stays-so s (Falls b ∷ es) e = stays-so s es e

-- while copies only come, all is quiet and nothing is forgotten
quiet_so : (r : Rules) (t : Tree) (f d : ℕ) (gs : List Event) (fs : List Ev) → T (only_comes fs) → quietly true r t f d gs (translated fs) ≡ true
unfolding only_comes translated quietly
quiet_so r t f d gs [] o = refl
quiet_so r t f d gs (Comes i ∷ fs) o = quiet_so r t f d gs fs o
quiet_so r t f d gs (Sends a b ∷ fs) o = absurd o
quiet_so r t f d gs (Lost i ∷ fs) o = absurd o
quiet_so r t f d gs (Link a b c ∷ fs) o = absurd o
quiet_so r t f d gs (Announced u ∷ fs) o = absurd o
quiet_so r t f d gs (Takes b n ∷ fs) o = absurd o
quiet_so r t f d gs (Moves a b ∷ fs) o = absurd o
quiet_so r t f d gs (Forgets b n a ∷ fs) o = absurd o
quiet_so r t f d gs (Falls b ∷ fs) o = absurd o

remembered-so : (n s : ℕ) (fs : List Ev) → T (only_comes fs) → remembered n s (translated fs) ≡ true
unfolding only_comes translated remembered
remembered-so n s [] o = refl
remembered-so n s (Comes i ∷ fs) o = remembered-so n s fs o
remembered-so n s (Sends a b ∷ fs) o = absurd o
remembered-so n s (Lost i ∷ fs) o = absurd o
remembered-so n s (Link a b c ∷ fs) o = absurd o
remembered-so n s (Announced u ∷ fs) o = absurd o
remembered-so n s (Takes b m ∷ fs) o = absurd o
remembered-so n s (Moves a b ∷ fs) o = absurd o
remembered-so n s (Forgets b m a ∷ fs) o = absurd o
remembered-so n s (Falls b ∷ fs) o = absurd o

count_within : (f s b : ℕ) (gs : List Got) → count_got f s b gs ≤ count_all f s gs
unfolding count_got count_all
count_within f s b [] = omega arith
count_within f s b (g ∷ gs) = grind (arith, nat_tests, count_within f s b gs)

-- announcing and adopting, back in Net
back : List Event → List Ev
back [] = []
back (Announce t ∷ es) = Announced t ∷ back es
back (Adopt b n ∷ es) = Takes b n ∷ back es
back (Send s d ∷ es) = []
back (Arrive i ∷ es) = []
back (Lose i ∷ es) = []
back (Believe a b c ∷ es) = []
back (Move s b ∷ es) = []
back (Forget b n s ∷ es) = []
back (Crash b ∷ es) = []
back (Turn b n s ok ∷ es) = []

record Back (fs : List Event) : Type 0 where
  there_so : translated (back fs) ≡ fs
  trees_only : T (P.only_trees (back fs))
  length-so : length (back fs) ≡ length fs

back_so : (fs : List Event) → T (G.only_trees fs) → Back fs
unfolding back translated G.only_trees P.only_trees
back_so [] o = record { there_so = refl; trees_only = tt; length-so = refl }
back_so (Announce t ∷ fs) o = let b : Back fs = back_so fs o in
    record { there_so = ap (λ (gs : List Event). Announce t ∷ gs) b.there_so; trees_only = b.trees_only; length-so = ap suc b.length-so }
back_so (Adopt c n ∷ fs) o = let b : Back fs = back_so fs o in
    record { there_so = ap (λ (gs : List Event). Adopt c n ∷ gs) b.there_so; trees_only = b.trees_only; length-so = ap suc b.length-so }
back_so (Send s d ∷ fs) o = absurd o
back_so (Arrive i ∷ fs) o = absurd o
back_so (Lose i ∷ fs) o = absurd o
back_so (Believe a b c ∷ fs) o = absurd o
back_so (Move s b ∷ fs) o = absurd o
back_so (Forget b n s ∷ fs) o = absurd o
back_so (Crash b ∷ fs) o = absurd o
back_so (Turn b n s ok ∷ fs) o = absurd o

-- two runs of Net one after the other
same_after : (r : Rules) (fs es : List Ev) → world r (fs ++ es) ≡ run true r (translated fs ++ translated es)
same_after r fs es = same r (fs ++ es) ∙ ap (run true r) (translated-append fs es)

module _ (r : Rules) (es : List Ev) (g : Assured true r (translated es)) where
  right_colour : (x : Got) → Memᴰ x (world r es).got → (s : ℕ) × (d : ℕ) × (sent_in r es x.frame s d ≡ true) × (r.colour x.station ≡ r.colour s)
  right_colour x m =
      let z = g.right_vlan x (subst (λ (w : World). Memᴰ x w.got) (same r es) m) in
      (z.0, z.1, sent_so r es x.frame z.0 z.1 z.2, z.3)

  learnt_right : (later before : List Ev) (t : Tree) → es ≡ later ++ (Announced t ∷ before) → tree_of t.number (world r before).trees ≡ NoTree → ((b : ℕ) → r.bridges ≤ b → t.above b ≡ b) →
      (s b : ℕ) → s < r.stations → b < r.bridges → moved s later ≡ false → NotWrong r (world r es) t b s ((world r es).learned b t.number s)
  unfolding translated
  learnt_right later before t split new out s b hs hb still =
      subst (λ (w : World). NotWrong r w t b s (w.learned b t.number s)) (sym (same r es))
      (g.learnt_right (translated later) (translated before) t (ap translated split ∙ translated-append later (Announced t ∷ before))
      (subst (λ (w : World). tree_of t.number w.trees ≡ NoTree) (same r before) new) out s b hs hb (stays-so s later still))

  arrives-so : (t : Tree) → looks r.bridges t ≡ true → Rests r (world r es) t → (s d : ℕ) → s < r.stations → d < r.stations → (s ≡ d → ⊥) → r.colour s ≡ r.colour d → (world r es).home s < r.bridges → (world r es).home d < r.bridges →
      ((b : ℕ) → b < r.bridges → NotWrong r (world r es) t b d ((world r es).learned b t.number d)) → none_of (world r es).next (world r es).copies ≡ true →
      ((x : Copy) → Memᴰ x (world r es).copies → x.frame.from ≡ d → ⊥) →
      (fs : List Ev) → T (only_comes fs) → none_of (world r es).next (world r (fs ++ (Sends s d ∷ es))).copies ≡ true →
      (count_got (world r es).next d ((world r es).home d) (world r (fs ++ (Sends s d ∷ es))).got ≡ 1) ×
      (((b : ℕ) → b < r.bridges → (world r es).learned b t.number d ≡ Unknown → ⊥) → (q b : ℕ) → (q ≡ d → ⊥) → count_got (world r es).next q b (world r (fs ++ (Sends s d ∷ es))).got ≡ 0)
  unfolding translated
  arrives-so t l rest s d hs hd ne col home-s home-d right none silent fs only left = (
    (λ i. count_got (e i).next d ((e i).home d) (u i).got) ∙ done.0,
    λ all q b nq. (λ i. count_got (e i).next q b (u i).got) ∙ nobody q b
        (done.2 (λ c h k. all c h (ap (λ (w : World). w.learned c t.number d) e ∙ k)) (remembered-so t.number d fs only) q nq),
  )
    where
      v : World
      v = run true r (translated es)

      e : world r es ≡ v
      e = same r es

      u : world r (fs ++ (Sends s d ∷ es)) ≡ run true r (translated fs ++ (Send s d ∷ translated es))
      u = same_after r fs (Sends s d ∷ es)

      done : (count_got v.next d (v.home d) (run true r (translated fs ++ (Send s d ∷ translated es))).got ≡ 1) ×
          (count_all v.next d (run true r (translated fs ++ (Send s d ∷ translated es))).got ≡ 1) ×
          (((b : ℕ) → b < r.bridges → v.learned b t.number d ≡ Unknown → ⊥) → remembered t.number d (translated fs) ≡ true →
          (q : ℕ) → (q ≡ d → ⊥) → count_all v.next q (run true r (translated fs ++ (Send s d ∷ translated es))).got ≡ 0)
      done = g.arrives t l (subst (λ (w : World). Rests r w t) e rest) s d hs hd ne col
          (subst (λ (w : World). w.home s < r.bridges) e home-s) (subst (λ (w : World). w.home d < r.bridges) e home-d)
          (λ b h. subst (λ (w : World). NotWrong r w t b d (w.learned b t.number d)) e (right b h))
          (λ x m from on. absurd (silent x (subst (λ (w : World). Memᴰ x w.copies) (sym e) m) from))
          (translated fs) (quiet_so r t v.next d (Send s d ∷ translated es) fs only)
          ((λ i. none_of (sym e i).next (sym u i).copies) ∙ left)

      nobody : (q b : ℕ) → count_all v.next q (run true r (translated fs ++ (Send s d ∷ translated es))).got ≡ 0 →
          count_got v.next q b (run true r (translated fs ++ (Send s d ∷ translated es))).got ≡ 0
      nobody q b z = omega (arith, count_within v.next q b (run true r (translated fs ++ (Send s d ∷ translated es))).got)

  linked_so : (w v : World) → w ≡ v → {b : ℕ} → Linked r w b → Linked r v b
  linked_so w v e {b} l = subst (λ (x : World). Linked r x b) e l

  rest_so : 0 < r.bridges → ((b : ℕ) → b < r.bridges → Linked r (world r es) b) →
      (fs : List Ev) × T (P.only_trees fs) × (length fs ≤ suc r.bridges) × (t : Tree) × (looks r.bridges t ≡ true) × Rests r (world r (fs ++ es)) t
  rest_so some all = (
    back z.0,
    k.trees_only,
    (let h : length z.0 ≤ suc r.bridges = z.2 in omega (arith, k.length-so)),
    z.3,
    z.4,
    subst (λ (w : World). Rests r w z.3) (sym (same_after r (back z.0) es ∙ ap (λ (fs : List Event). run true r (fs ++ translated es)) k.there_so)) z.5,
  )
    where
      z : (fs : List Event) × T (G.only_trees fs) × (length fs ≤ suc r.bridges) × (t : Tree) × (looks r.bridges t ≡ true) × Rests r (run true r (fs ++ translated es)) t
      z = g.can_rest some (λ b h. linked_so _ _ (same r es) (all b h))

      k : Back z.0
      k = back_so z.0 z.1

pub main_from : Guaranteed → Main
main_from g r es = record {
  no_round = λ x m. a.no_round x (subst (λ (w : World). Memᴰ x w.copies) (same r es) m);
  not_twice = λ f s b. subst (λ (w : World). count_got f s b w.got ≤ 1) (sym (same r es)) (a.not_twice f s b);
  right_colour = right_colour r es a;
  learnt_right = learnt_right r es a;
  arrives = arrives-so r es a;
  can_rest = rest_so r es a;
}
  where
    a : Assured true r (translated es)
    a = g true r (translated es)
