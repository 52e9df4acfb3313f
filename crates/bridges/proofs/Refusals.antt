-- An event that is answered by a fault changes nothing, but that the copy which came is gone. Assumes nothing.
use Rattle.std.proofs.Common.{◌≡◌, ℕ, zero, suc, Bool, true, false, cond, not, ◌&&◌, ◌||◌, List, [], ◌∷◌, refl, ap}
use Rattle.std.proofs.lemmas.Bool.{cond_both, cond-true, cond-false}
use Rattle.trees.specs.Tree.{looks, is_in}
use Rattle.bridges.specs.Net.{Copy, Rules, World, Found, NoTree, This, tree_of, without, with_copies, send_by}
use Rattle.bridges.specs.Fabric.{Send, Arrive, Lose, Believe, Announce, Adopt, Move, Forget, Crash, Turn, receive, arrives, is_newest, adopt_if}
use Rattle.bridges.specs.Trace.{copy_at, carry_answer, arrive_answer, send_answer, adopt_answer, RefusalsChangeNothing}

-- a frame is carried on where it isn't refused
carried : (n : ℕ) (ns : List ℕ) → (carry_answer n ns ≡ 0 → ⊥) → is_in n ns ≡ false
unfolding is_in
carried n [] fault = refl
carried n (m ∷ ns) fault = cond_both (is_in n (m ∷ ns)) 0 4 (λ a. (a ≡ 0 → ⊥) → is_in n (m ∷ ns) ≡ false) (λ e f. absurd (f refl)) (λ e f. e) fault

not-received : (lax : Bool) (r : Rules) (x : Copy) (f : Found) (w : World) → is_in x.frame.tree (w.holds x.at) ≡ false → receive lax r x f w ≡ w
not-received lax r x NoTree w e = refl
not-received lax r x (This t) w e = cond-false _ _ w e

not-arrived : (lax : Bool) (r : Rules) (i : ℕ) (xs : List Copy) (w : World) → (arrive_answer w (copy_at i xs) ≡ 0 → ⊥) → arrives lax r i xs w ≡ w
unfolding copy_at arrives
not-arrived lax r i [] w fault = refl
not-arrived lax r zero (x ∷ xs) w fault = not-received lax r x (tree_of x.frame.tree w.trees) w (carried x.frame.tree (w.holds x.at) fault)
not-arrived lax r (suc i) (x ∷ xs) w fault = not-arrived lax r i xs w fault

not-sent : (r : Rules) (s d : ℕ) (ns : List ℕ) (w : World) → (send_answer ns ≡ 0 → ⊥) → send_by r s d ns w ≡ w
unfolding send_by
not-sent r s d [] w fault = refl
not-sent r s d (n ∷ ns) w fault = absurd (fault refl)

not-let : (t : Bool) (a : ℕ) (v w : World) → ((a ≡ 0 → ⊥) → v ≡ w) → (cond t a 2 ≡ 0 → ⊥) → cond t v w ≡ w
not-let true a v w same fault = same fault
not-let false a v w same fault = refl

not-adopted : (lax : Bool) (r : Rules) (b n : ℕ) (f : Found) (w : World) → (adopt_answer r f ≡ 0 → ⊥) → adopt_if lax r b n f w ≡ w
not-adopted lax r b n NoTree w fault = refl
not-adopted lax r b n (This t) w fault = by (looks r.bridges t) refl
  where
    by : (v : Bool) → looks r.bridges t ≡ v → adopt_if lax r b n (This t) w ≡ w
    by true e = absurd (fault (cond-true _ _ _ e))
    by false e = cond-true _ w _ (ap (λ (v : Bool). not v || (not lax && is_newest n (w.holds b))) e)

pub refusals : RefusalsChangeNothing
refusals lax r (Send s d) w fault = not-let _ (send_answer (w.holds (w.home s))) _ w (not-sent r s d (w.holds (w.home s)) w) fault
refusals lax r (Arrive i) w fault = not-arrived lax r i w.copies (with_copies (without i w.copies) w) fault
refusals lax r (Adopt b n) w fault = not-adopted lax r b n (tree_of n w.trees) w fault
refusals lax r (Lose i) w fault = absurd (fault refl)
refusals lax r (Believe a b c) w fault = absurd (fault refl)
refusals lax r (Announce t) w fault = absurd (fault refl)
refusals lax r (Move s b) w fault = absurd (fault refl)
refusals lax r (Forget b n s) w fault = absurd (fault refl)
refusals lax r (Crash b) w fault = absurd (fault refl)
refusals lax r (Turn b n s ok) w fault = absurd (fault refl)
