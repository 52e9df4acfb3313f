-- Entries in the order of their stations: what stands at which index, and that the order stays.
use Rattle.std.proofs.Common.{◌≡◌, ℕ, zero, suc, ◌<◌, ◌≤◌, Bool, true, cond, ltb, List, [], ◌∷◌, length, get_or, set, is_some, Some, None, filter, Option, sym, refl, ◌∙◌, inl, inr, arith}
use Rattle.std.proofs.lemmas.Bool.Decides.{nat_tests}
use Rattle.std.proofs.lemmas.Bool.{and_parts, le-ltb, cond_both, cases_lt}
use Rattle.std.specs.List.{insert, remove}
use Rattle.fdb.specs.declared.entry.Entry.{Entry}
use Rattle.fdb.specs.Entries.{no_entry, above, ascending, find, put, without, oldest, remembered, fresh}
use Rattle.fdb.specs.Search.{StandsAt, BelongsAt}
use Rattle.fdb.specs.Contents.{most, evicted, room_for, learned}

-- what is above s stands above s at every index
pub above_at : (s : ℕ) (xs : List Entry) → above s xs ≡ true → (k : ℕ) → k < length xs → s < (get_or xs k no_entry).station
unfolding above
above_at s [] h k l = absurd (omega arith)
above_at s (x ∷ xs) h zero l = grind (arith, nat_tests)
above_at s (x ∷ xs) h (suc k) l = above_at s xs (and_parts (ltb s x.station) (above s xs) h).1 k (omega arith)

pub rises : (es : List Entry) → ascending es ≡ true → (i j : ℕ) → i < j → j < length es → (get_or es i no_entry).station < (get_or es j no_entry).station
unfolding ascending
rises [] h i j l b = absurd (omega arith)
rises (x ∷ xs) h i zero l b = absurd (omega arith)
rises (x ∷ xs) h zero (suc j) l b = above_at x.station xs (and_parts (above x.station xs) (ascending xs) h).0 j (omega arith)
rises (x ∷ xs) h (suc i) (suc j) l b = rises xs (and_parts (above x.station xs) (ascending xs) h).1 i j (omega arith) (omega arith)

-- what is found of a station that stands at an index, or at none
pub find_at : (s : ℕ) (es : List Entry) → ascending es ≡ true → (i : ℕ) → i < length es → (get_or es i no_entry).station ≡ s → find s es ≡ Some (get_or es i no_entry)
unfolding ascending find
find_at s [] h i l e = absurd (omega arith)
find_at s (x ∷ xs) h zero l e = grind (arith, nat_tests)
find_at s (x ∷ xs) h (suc i) l e =
    let p = and_parts (above x.station xs) (ascending xs) h in
    let a = above_at x.station xs p.0 i (omega arith) in grind (arith, nat_tests, find_at s xs p.1 i (omega arith) e)

pub find-nowhere : (s : ℕ) (es : List Entry) → ((k : ℕ) → k < length es → (get_or es k no_entry).station ≡ s → ⊥) → find s es ≡ None
unfolding find
find-nowhere s [] h = refl
find-nowhere s (x ∷ xs) h = let n = h 0 (omega arith) in grind (arith, nat_tests, find-nowhere s xs (λ k l. h (suc k) (omega arith)))

-- an entry written over that of its station, or inserted at its place, is put in its place
pub put-set : (e : Entry) (es : List Entry) → ascending es ≡ true → (i : ℕ) → i < length es → (get_or es i no_entry).station ≡ e.station → set es i e ≡ put e es
unfolding ascending put
put-set e [] h i l q = absurd (omega arith)
put-set e (x ∷ xs) h zero l q = grind (arith, nat_tests)
put-set e (x ∷ xs) h (suc i) l q =
    let p = and_parts (above x.station xs) (ascending xs) h in
    let a = above_at x.station xs p.0 i (omega arith) in grind (arith, nat_tests, put-set e xs p.1 i (omega arith) q)

pub put-inserted : (e : Entry) (es : List Entry) (i : ℕ) → i ≤ length es → ((k : ℕ) → k < i → (get_or es k no_entry).station < e.station) →
    ((k : ℕ) → i ≤ k → k < length es → e.station < (get_or es k no_entry).station) → insert es i e ≡ put e es
unfolding put
put-inserted e [] zero l b a = refl
put-inserted e [] (suc i) l b a = absurd (omega arith)
put-inserted e (x ∷ xs) zero l b a = let q = a 0 (omega arith) (omega arith) in grind (arith, nat_tests)
put-inserted e (x ∷ xs) (suc i) l b a =
    let q = b 0 (omega arith) in
    grind (arith, nat_tests, put-inserted e xs i (omega arith) (λ k m. b (suc k) (omega arith)) (λ k m n. a (suc k) (omega arith) (omega arith)))

-- what stands at an index taken out is all but its station
without-above : (s : ℕ) (xs : List Entry) → above s xs ≡ true → without s xs ≡ xs
unfolding above without
without-above s [] h = refl
without-above s (x ∷ xs) h = let p = and_parts (ltb s x.station) (above s xs) h in grind (arith, nat_tests, without-above s xs p.1)

pub removed_without : (es : List Entry) → ascending es ≡ true → (i : ℕ) → i < length es → remove es i ≡ without (get_or es i no_entry).station es
unfolding ascending without
removed_without [] h i l = absurd (omega arith)
removed_without (x ∷ xs) h zero l = grind (arith, nat_tests, without-above x.station xs (and_parts (above x.station xs) (ascending xs) h).0)
removed_without (x ∷ xs) h (suc i) l =
    let p = and_parts (above x.station xs) (ascending xs) h in
    let a = above_at x.station xs p.0 i (omega arith) in grind (arith, nat_tests, removed_without xs p.1 i (omega arith))

-- the order stays when an entry is put in its place, and when some are left out
above-put : (s : ℕ) (e : Entry) (xs : List Entry) → s < e.station → above s xs ≡ true → above s (put e xs) ≡ true
unfolding above put
above-put s e [] l h = grind (arith, nat_tests)
above-put s e (x ∷ xs) l h = let p = and_parts (ltb s x.station) (above s xs) h in grind (arith, nat_tests, above-put s e xs l p.1)

above-below : (s t : ℕ) (xs : List Entry) → s < t → above t xs ≡ true → above s xs ≡ true
unfolding above
above-below s t [] l h = refl
above-below s t (x ∷ xs) l h = let p = and_parts (ltb t x.station) (above t xs) h in grind (arith, nat_tests, above-below s t xs l p.1)

pub ascending-put : (e : Entry) (es : List Entry) → ascending es ≡ true → ascending (put e es) ≡ true
unfolding ascending put above
ascending-put e [] h = refl
ascending-put e (x ∷ xs) h =
    let p = and_parts (above x.station xs) (ascending xs) h in
    grind (arith, nat_tests, ascending-put e xs p.1, above-put x.station e xs, above-below e.station x.station xs)

above_kept : (s : ℕ) (p : Entry → Bool) (xs : List Entry) → above s xs ≡ true → above s (filter p xs) ≡ true
unfolding above
above_kept s p [] h = refl
above_kept s p (x ∷ xs) h = let q = and_parts (ltb s x.station) (above s xs) h in grind (arith, nat_tests, above_kept s p xs q.1)

pub ascending-kept : (p : Entry → Bool) (es : List Entry) → ascending es ≡ true → ascending (filter p es) ≡ true
unfolding ascending above
ascending-kept p [] h = refl
ascending-kept p (x ∷ xs) h =
    let q = and_parts (above x.station xs) (ascending xs) h in grind (arith, nat_tests, ascending-kept p xs q.1, above_kept x.station p xs q.0)

-- where a station stands or belongs, by the stations at each index
pub stands_at : (s : ℕ) (es : List Entry) → ascending es ≡ true → (i : ℕ) → i < length es → (get_or es i no_entry).station ≡ s → StandsAt s es i
stands_at s es h i l e = (l, find_at s es h i l e, λ x q. put-set x es h i l (e ∙ sym q))

pub belongs_at : (s : ℕ) (es : List Entry) (i : ℕ) → i ≤ length es → ((k : ℕ) → k < i → (get_or es k no_entry).station < s) →
    ((k : ℕ) → i ≤ k → k < length es → s < (get_or es k no_entry).station) → BelongsAt s es i
belongs_at s es i l b a = (
  l,
  find-nowhere s es (λ k m e. elim (cases_lt k i) [ inl p ↦ (let q = b k p in omega arith) | inr p ↦ (let q = a k p m in omega arith) ]),
  λ x q. put-inserted x es i l (λ k m. let p = b k m in omega arith) (λ k m n. let p = a k m n in omega arith),
)

-- of two stations one is not the one that is kept
pub oldest-some : (keep : ℕ) (es : List Entry) → ascending es ≡ true → oldest keep es ≡ None → length es < 2
unfolding ascending above oldest
oldest-some keep [] h n = omega arith
oldest-some keep (x ∷ []) h n = omega arith
oldest-some keep (x ∷ y ∷ ys) h n = absurd (grind (arith, nat_tests))

pub find-kept : (s : ℕ) (p : Entry → Bool) (es : List Entry) → find s es ≡ None → find s (filter p es) ≡ None
unfolding find
find-kept s p [] n = refl
find-kept s p (x ∷ xs) n = grind (arith, nat_tests, find-kept s p xs)

-- room is made for a new station: the order stays, and it is still new
pub room_ascending : (keep : ℕ) (es : List Entry) → ascending es ≡ true → ascending (room_for keep es) ≡ true
unfolding room_for without
room_ascending keep es h =
    cond_both (ltb (length es) most) es (evicted (oldest keep es) es) (λ xs. ascending xs ≡ true) (λ _. h) (λ _. go (oldest keep es))
  where
    go : (v : Option Entry) → ascending (evicted v es) ≡ true
    go None = h
    go (Some v) = ascending-kept _ es h

-- what is held once room was made stands in order
pub made_ascending : (keep : ℕ) (es xs : List Entry) → ascending es ≡ true → xs ≡ room_for keep es → ascending xs ≡ true
made_ascending keep es xs h e = rw e (room_ascending keep es h)

pub room_new : (s keep : ℕ) (es : List Entry) → find s es ≡ None → find s (room_for keep es) ≡ None
unfolding room_for without
room_new s keep es h =
    cond_both (ltb (length es) most) es (evicted (oldest keep es) es) (λ xs. find s xs ≡ None) (λ _. h) (λ _. go (oldest keep es))
  where
    go : (v : Option Entry) → find s (evicted v es) ≡ None
    go None = h
    go (Some v) = find-kept s _ es h

pub room_free : (keep : ℕ) (es : List Entry) → length es < 4096 → es ≡ room_for keep es
unfolding room_for
room_free keep es l = grind (arith, nat_tests)

pub room_full : (keep : ℕ) (es : List Entry) (v : Entry) → 4096 ≤ length es → oldest keep es ≡ Some v → without v.station es ≡ room_for keep es
unfolding room_for
room_full keep es v m o = rw (le-ltb (length es) most m, o) refl

pub room_removed : (keep : ℕ) (es : List Entry) (i : ℕ) → ascending es ≡ true → 4096 ≤ length es → i < length es → oldest keep es ≡ Some (get_or es i no_entry) → remove es i ≡ room_for keep es
room_removed keep es i h m l o = removed_without es h i l ∙ room_full keep es (get_or es i no_entry) m o

-- what is held after a station was heard, as one that is known and as a new one
pub learned-known : (e : Entry) (keep : ℕ) (es : List Entry) (x : Entry) → find e.station es ≡ Some x → put e es ≡ learned e keep es
unfolding learned
learned-known e keep es x h = rw h refl

pub learned-new : (e : Entry) (keep : ℕ) (es : List Entry) → find e.station es ≡ None → put e (room_for keep es) ≡ learned e keep es
unfolding learned
learned-new e keep es h = rw h refl

pub learned-ascending : (e : Entry) (keep : ℕ) (es : List Entry) → ascending es ≡ true → ascending (learned e keep es) ≡ true
unfolding learned
learned-ascending e keep es h =
    ascending-put e (cond (is_some (find e.station es)) es (room_for keep es))
    (cond_both (is_some (find e.station es)) es (room_for keep es) (λ xs. ascending xs ≡ true) (λ _. h) (λ _. room_ascending keep es h))

pub noted : (e : Entry) (keep : ℕ) (es : List Entry) (i : ℕ) → StandsAt e.station es i → set es i e ≡ learned e keep es
noted e keep es i s = s.2 e refl ∙ learned-known e keep es (get_or es i no_entry) s.1

pub ascending-remembered : (now : ℕ) (es : List Entry) → ascending es ≡ true → ascending (remembered now es) ≡ true
unfolding remembered
ascending-remembered now es h = ascending-kept (fresh now) es h
