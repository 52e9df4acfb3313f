-- Over whatever happens to a row its frames keep their order, and none is lost unseen.
use Rattle.std.proofs.Common.{◌≡◌, ℕ, ◌+◌, ◌<◌, ◌≤◌, Bool, true, false, cond, List, [], ◌∷◌, ◌++◌, length, take, drop, sym, refl, ap, ◌∙◌, subst, arith, length-append, take-append-drop}
use Rattle.std.proofs.lemmas.Bool.Decides.{nat_tests}
use Rattle.std.proofs.lemmas.List.{append_assoc, append-nil, length_push}
use Rattle.rows.specs.Events.{Event, Comes, Leaves, Clears, takes, History, begin, happens, history, Among, none, but, too, InOrder, Accounted, NothingLost, NeverAbove16}

abbrev Frames : Type 0
Frames = List (List ℕ)

among_more : {xs ys : Frames} → (f : List ℕ) → Among xs ys → Among xs (ys ++ f ∷ [])
among_more f none = but none
among_more f (but a) = but (among_more f a)
among_more f (too a) = too (among_more f a)

among_both : {xs ys : Frames} → (f : List ℕ) → Among xs ys → Among (xs ++ f ∷ []) (ys ++ f ∷ [])
among_both f none = too none
among_both f (but a) = but (among_both f a)
among_both f (too a) = too (among_both f a)

among_nothing : (ys : Frames) → Among [] ys
among_nothing [] = none
among_nothing (y ∷ ys) = but (among_nothing ys)

-- a front of what is among ys is among ys
among_front : (xs zs : Frames) {ws ys : Frames} → ws ≡ xs ++ zs → Among ws ys → Among xs ys
among_front [] zs e a = among_nothing _
among_front (x ∷ xs) zs e none = absurd (grind arith)
among_front (x ∷ xs) zs e (but a) = but (among_front (x ∷ xs) zs e a)
among_front (x ∷ xs) zs e (too {ys = ys} {y = y} a) =
    let same : y ≡ x = cc in
    let rest = among_front xs zs (cc) a in
    subst (λ v. Among (x ∷ xs) (v ∷ ys)) (sym same) (too rest)

among_long : {xs ys : Frames} → Among xs ys → length xs ≤ length ys
among_long none = omega arith
among_long (but a) = let h = among_long a in omega arith
among_long (too a) = let h = among_long a in omega arith

-- all of them: no more, no fewer
among_all : {xs ys : Frames} → Among xs ys → length xs ≡ length ys → xs ≡ ys
among_all none e = refl
among_all (but a) e = absurd (let h = among_long a in omega arith)
among_all (too {y = y} a) e = ap (λ zs. y ∷ zs) (among_all a (omega arith))

record Kept (h : History) : Type 0 where
  order : Among (h.left ++ h.waits) h.came
  count : length h.came ≡ length h.left + length h.waits + h.refused + h.cleared
  small : length h.waits ≤ 16

comes : (f : List ℕ) (h : History) → (t : Bool) → t ≡ takes f h.waits → Kept h → Kept (record h { came = h.came ++ f ∷ []; waits = cond t (h.waits ++ f ∷ []) h.waits; refused = cond t h.refused (h.refused + 1) })
comes f h true e k =
    let room : length h.waits < 16 = grind (arith, nat_tests) in
    let long = length_push h.waits f in
    let came = length_push h.came f in
    let old = k.count in
    record { order = rw append_assoc at (among_both f k.order); count = omega arith; small = omega arith }
comes f h false e k =
    let came = length_push h.came f in
    let old = k.count in
    record { order = among_more f k.order; count = omega arith; small = k.small }

keeps : (e : Event) (h : History) → Kept h → Kept (happens e h)
unfolding happens
keeps (Comes f) h k = comes f h (takes f h.waits) refl k
keeps Leaves h k =
    let parts : take 1 h.waits ++ drop 1 h.waits ≡ h.waits = take-append-drop 1 h.waits in
    let all : (h.left ++ take 1 h.waits) ++ drop 1 h.waits ≡ h.left ++ h.waits = append_assoc h.left (take 1 h.waits) (drop 1 h.waits) ∙ ap (λ ws. h.left ++ ws) parts in
    let one = length-append h.left (take 1 h.waits) in
    let two = length-append (take 1 h.waits) (drop 1 h.waits) in
    let three = ap length parts in
    let old = k.count in
    let few = k.small in
    record { order = subst (λ ws. Among ws h.came) (sym all) k.order; count = omega arith; small = omega arith }
keeps Clears h k =
    let old = k.count in
    record { order = rw append-nil (among_front h.left h.waits refl k.order); count = omega arith; small = omega arith }

keeps_all : (es : List Event) (h : History) → Kept h → Kept (history es h)
unfolding history
keeps_all [] h k = k
keeps_all (e ∷ es) h k = keeps_all es (happens e h) (keeps e h k)

always : (es : List Event) → Kept (history es begin)
always es = keeps_all es begin (record { order = none; count = omega arith; small = omega arith })

pub in_order : InOrder
in_order es = (always es).order

pub accounted : Accounted
accounted es = (always es).count

pub nothing_lost : NothingLost
nothing_lost es fit kept =
    let k = always es in
    let h = history es begin in
    let both = length-append h.left h.waits in
    let old = k.count in
    among_all k.order (omega arith)

pub never_above_16 : NeverAbove16
never_above_16 es = (always es).small
