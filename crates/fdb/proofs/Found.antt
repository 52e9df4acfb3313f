-- What is found of a station after an entry was put in its place, after some were left out, and who is the oldest.
use Rattle.std.proofs.Common.{◌≡◌, ℕ, ◌+◌, ◌<◌, ◌≤◌, Bool, true, false, cond, not, eqb, ltb, List, [], ◌∷◌, length, Some, None, filter, Option, refl, arith}
use Rattle.std.proofs.lemmas.Bool.Decides.{nat_tests}
use Rattle.std.proofs.lemmas.Bool.{and_parts}
use Rattle.fdb.specs.declared.entry.Entry.{Entry}
use Rattle.fdb.proofs.Ordered.{find-kept}
use Rattle.fdb.specs.Entries.{above, ascending, find, put, without, oldest, longer, earlier}

pub find-put : (e : Entry) (es : List Entry) → find e.station (put e es) ≡ Some e
unfolding find put
find-put e [] = grind (arith, nat_tests)
find-put e (x ∷ xs) = grind (arith, nat_tests, find-put e xs)

pub find-put-other : (k : ℕ) (e : Entry) (es : List Entry) → (k ≡ e.station → ⊥) → find k (put e es) ≡ find k es
unfolding find put
find-put-other k e [] n = grind (arith, nat_tests)
find-put-other k e (x ∷ xs) n = grind (arith, nat_tests, find-put-other k e xs n)

pub find-without : (s : ℕ) (es : List Entry) → find s (without s es) ≡ None
unfolding find without
find-without s [] = refl
find-without s (x ∷ xs) = grind (arith, nat_tests, find-without s xs)

pub find-without-other : (k s : ℕ) (es : List Entry) → (k ≡ s → ⊥) → find k (without s es) ≡ find k es
unfolding find without
find-without-other k s [] n = refl
find-without-other k s (x ∷ xs) n = grind (arith, nat_tests, find-without-other k s xs n)

pub find-above : (s k : ℕ) (es : List Entry) (e : Entry) → above s es ≡ true → find k es ≡ Some e → s < k
unfolding find above
find-above s k [] e a h = grind arith
find-above s k (x ∷ xs) e a h = let p = and_parts (ltb s x.station) (above s xs) a in grind (arith, nat_tests, find-above s k xs e p.1)

above-none : (s : ℕ) (es : List Entry) → above s es ≡ true → find s es ≡ None
unfolding find above
above-none s [] a = refl
above-none s (x ∷ xs) a = let p = and_parts (ltb s x.station) (above s xs) a in grind (arith, nat_tests, above-none s xs p.1)

-- how many are held after an entry was put in its place, or a station left out
pub length-put-new : (e : Entry) (es : List Entry) → ascending es ≡ true → find e.station es ≡ None → length (put e es) ≡ length es + 1
unfolding ascending find put
length-put-new e [] a h = refl
length-put-new e (x ∷ xs) a h = let p = and_parts (above x.station xs) (ascending xs) a in grind (arith, nat_tests, length-put-new e xs p.1)

pub length-put-known : (e : Entry) (es : List Entry) (x : Entry) → ascending es ≡ true → find e.station es ≡ Some x → length (put e es) ≡ length es
unfolding ascending find put
length-put-known e [] y a h = grind arith
length-put-known e (x ∷ xs) y a h =
    let p = and_parts (above x.station xs) (ascending xs) a in
    grind (arith, nat_tests, length-put-known e xs y p.1, find-above x.station e.station xs y p.0)

pub length-kept : (p : Entry → Bool) (es : List Entry) → length (filter p es) ≤ length es
length-kept p [] = omega arith
length-kept p (x ∷ xs) = let h = length-kept p xs in grind (arith, nat_tests)

pub length_without : (s : ℕ) (es : List Entry) (x : Entry) → find s es ≡ Some x → length (without s es) < length es
unfolding find without
length_without s [] x h = grind arith
length_without s (y ∷ ys) x h = grind (arith, nat_tests, length_without s ys x, length-kept (λ z. not (eqb z.station s)) ys)

-- the oldest: not the one that is kept, held, and heard no later than any other
pub oldest-other : (keep : ℕ) (es : List Entry) (v : Entry) → oldest keep es ≡ Some v → v.station ≡ keep → ⊥
unfolding oldest
oldest-other keep [] v h e = grind arith
oldest-other keep (x ∷ xs) v h e = grind (arith, nat_tests, oldest-other keep xs v)

pub oldest-held : (keep : ℕ) (es : List Entry) (v : Entry) → ascending es ≡ true → oldest keep es ≡ Some v → find v.station es ≡ Some v
unfolding oldest ascending find
oldest-held keep [] v a h = grind arith
oldest-held keep (x ∷ xs) v a h =
    let p = and_parts (above x.station xs) (ascending xs) a in
    grind (arith, nat_tests, oldest-held keep xs v p.1, find-above x.station v.station xs v p.0)

pub oldest-none-kept : (keep k : ℕ) (es : List Entry) (x : Entry) → oldest keep es ≡ None → find k es ≡ Some x → k ≡ keep
unfolding oldest find
oldest-none-kept keep k [] x o h = grind arith
oldest-none-kept keep k (y ∷ ys) x o h = grind (arith, nat_tests, oldest-none-kept keep k ys x)

pub oldest-first : (keep k : ℕ) (es : List Entry) (v x : Entry) → oldest keep es ≡ Some v → find k es ≡ Some x → (k ≡ keep → ⊥) → earlier x v ≡ false
unfolding oldest find
oldest-first keep k [] v x o h n = grind arith
oldest-first keep k (y ∷ ys) v x o h n = go (oldest keep ys) refl o h (λ w q f. oldest-first keep k ys w x q f n)
  where
    go : (z : Option Entry) → oldest keep ys ≡ z → cond (eqb y.station keep) z (longer y z) ≡ Some v → cond (eqb y.station k) (Some y) (find k ys) ≡ Some x →
        ((w : Entry) → oldest keep ys ≡ Some w → find k ys ≡ Some x → earlier x w ≡ false) → earlier x v ≡ false
    go None q t u ih = grind (arith, nat_tests, oldest-none-kept keep k ys x q)
    go (Some z) q t u ih = grind (arith, nat_tests, ih z q)

-- what is found after all that is old was forgotten
pub find-kept-yes : (p : Entry → Bool) (k : ℕ) (es : List Entry) (e : Entry) → find k es ≡ Some e → p e ≡ true → find k (filter p es) ≡ Some e
unfolding find
find-kept-yes p k [] e h t = grind arith
find-kept-yes p k (x ∷ xs) e h t = grind (arith, nat_tests, find-kept-yes p k xs e)

pub find-kept-no : (p : Entry → Bool) (k : ℕ) (es : List Entry) (e : Entry) → ascending es ≡ true → find k es ≡ Some e → p e ≡ false → find k (filter p es) ≡ None
unfolding find ascending
find-kept-no p k [] e a h t = refl
find-kept-no p k (x ∷ xs) e a h t =
    let q = and_parts (above x.station xs) (ascending xs) a in
    grind (arith, nat_tests, find-kept-no p k xs e q.1, find-kept x.station p xs (above-none x.station xs q.0))
