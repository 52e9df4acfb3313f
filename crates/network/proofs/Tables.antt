-- What a table says of a station once another was heard, and once time has passed.
use Rattle.std.proofs.Common.{◌≡◌, ℕ, Bool, true, false, cond, ◌&&◌, eqb, ltb, ◌⊎◌, List, [], ◌∷◌, length, is_some, Some, None, Option, sym, refl, ap, ◌∙◌, subst, inl, inr, arith}
use native.Mathlib.Decide.{ℕ_discrete}
use Rattle.std.proofs.lemmas.Bool.Decides.{nat_tests}
use Rattle.std.proofs.lemmas.Bool.{eq-eqb, ne_eqb, cond_both}
use Rattle.trees.specs.Tree.{is_in}
use Rattle.fdb.specs.declared.entry.Entry.{Entry}
use Rattle.fdb.specs.Entries as entries
use Rattle.fdb.specs.Entries.{ascending, find, put, without, oldest, remembered, fresh}
use Rattle.fdb.specs.Contents.{most, evicted, room_for, learned}
use Rattle.fdb.proofs.Found.{find-put, find-put-other, find-without, find-without-other, oldest-other, find-kept-yes, find-kept-no}
use Rattle.fdb.proofs.Ordered.{find-kept}
use Rattle.ports.specs.Places.{Place, Nowhere, AtPort, Toward, place_of, place_at}

-- where a station is, by some entries
abbrev pub look : List Entry → ℕ → Place
look es q = place_of (entries.place_of es q)

abbrev pub found : Option Entry → Place
found e = place_of (entries.where_is e)

-- what is known of a station stays, or is forgotten
abbrev pub Fades : Place → Place → Type 0
Fades old new = (new ≡ old) ⊎ (new ≡ Nowhere)

pub look-put : (e : Entry) (es : List Entry) (q : ℕ) → look (put e es) q ≡ cond (eqb q e.station) (place_at e.location) (look es q)
look-put e es q = elim (ℕ_discrete q e.station) [
  | yes h ↦ rw (eq-eqb q e.station h) (subst (λ s. look (put e es) s ≡ place_at e.location) (sym h) (ap found (find-put e es)))
  | no k ↦ rw (ne_eqb q e.station k) (ap found (find-put-other q e es k))
]

-- room is made: of all but the one that is kept what was known stays or is forgotten
room_finds : (keep q : ℕ) (es : List Entry) → (find q (room_for keep es) ≡ find q es) ⊎ ((find q (room_for keep es) ≡ None) × (q ≡ keep → ⊥))
unfolding room_for
room_finds keep q es =
    cond_both (ltb (length es) most) es (evicted (oldest keep es) es) (λ xs. (find q xs ≡ find q es) ⊎ ((find q xs ≡ None) × (q ≡ keep → ⊥))) (λ _. inl refl)
    (λ _. go (oldest keep es) refl)
  where
    go : (v : Option Entry) → oldest keep es ≡ v → (find q (evicted v es) ≡ find q es) ⊎ ((find q (evicted v es) ≡ None) × (q ≡ keep → ⊥))
    go None o = inl refl
    go (Some v) o = elim (ℕ_discrete q v.station) [
      | yes h ↦ inr (subst (λ s. find q (without s es) ≡ None) h (find-without q es), λ k. oldest-other keep es v o (sym h ∙ k))
      | no k ↦ inl (find-without-other q v.station es k)
    ]

learned-finds : (e : Entry) (keep q : ℕ) (es : List Entry) → (find q (learned e keep es) ≡ find q (put e es)) ⊎ ((find q (learned e keep es) ≡ None) × (q ≡ keep → ⊥))
unfolding learned
learned-finds e keep q es = elim (ℕ_discrete q e.station) [
  | yes h ↦ inl (subst (λ s. find s (put e room) ≡ find s (put e es)) (sym h) (find-put e room ∙ sym (find-put e es)))
  | no k ↦ cond_both (is_some (find e.station es)) es (room_for keep es) (λ xs. (find q (put e xs) ≡ find q (put e es)) ⊎ ((find q (put e xs) ≡ None) × (q ≡ keep → ⊥)))
      (λ _. inl refl) (λ _. go k (room_finds keep q es))
]
  where
    room : List Entry
    room = cond (is_some (find e.station es)) es (room_for keep es)

    go : (q ≡ e.station → ⊥) → (find q (room_for keep es) ≡ find q es) ⊎ ((find q (room_for keep es) ≡ None) × (q ≡ keep → ⊥)) →
        (find q (put e (room_for keep es)) ≡ find q (put e es)) ⊎ ((find q (put e (room_for keep es)) ≡ None) × (q ≡ keep → ⊥))
    go k (inl h) = inl (find-put-other q e (room_for keep es) k ∙ (h ∙ sym (find-put-other q e es k)))
    go k (inr h) = inr (find-put-other q e (room_for keep es) k ∙ h.0, h.1)

-- a station is heard: as if it were put in its place, but for who had to go; and the one that is kept doesn't go
pub learned-fades : (e : Entry) (keep : ℕ) (es : List Entry) (q : ℕ) → Fades (look (put e es) q) (look (learned e keep es) q)
learned-fades e keep es q = elim (learned-finds e keep q es) [ inl h ↦ inl (ap found h) | inr h ↦ inr (ap found h.0) ]

pub learned-keeps : (e : Entry) (keep : ℕ) (es : List Entry) → look (learned e keep es) keep ≡ cond (eqb keep e.station) (place_at e.location) (look es keep)
learned-keeps e keep es = elim (learned-finds e keep keep es) [ inl h ↦ ap found h ∙ look-put e es keep | inr h ↦ absurd (h.1 refl) ]

pub learned-here : (e : Entry) (keep : ℕ) (es : List Entry) → look (learned e keep es) e.station ≡ place_at e.location
unfolding learned
learned-here e keep es = ap found (find-put e (cond (is_some (find e.station es)) es (room_for keep es)))

-- one station is forgotten
pub look-without : (q : ℕ) (es : List Entry) (r : ℕ) → look (without q es) r ≡ cond (eqb r q) Nowhere (look es r)
look-without q es r = elim (ℕ_discrete r q) [
  | yes h ↦ rw (eq-eqb r q h) (subst (λ s. look (without q es) s ≡ Nowhere) (sym h) (ap found (find-without q es)))
  | no k ↦ rw (ne_eqb r q k) (ap found (find-without-other r q es k))
]

-- time has passed
pub remembered-fades : (now : ℕ) (es : List Entry) → ascending es ≡ true → (q : ℕ) → Fades (look es q) (look (remembered now es) q)
unfolding remembered
remembered-fades now es a q = go (find q es) refl
  where
    fresh-or-not : (x : Entry) → find q es ≡ Some x → (t : Bool) → fresh now x ≡ t → Fades (look es q) (look (remembered now es) q)
    fresh-or-not x h true f = inl (ap found (find-kept-yes (fresh now) q es x h f ∙ sym h))
    fresh-or-not x h false f = inr (ap found (find-kept-no (fresh now) q es x a h f))

    go : (x : Option Entry) → find q es ≡ x → Fades (look es q) (look (remembered now es) q)
    go None h = inr (ap found (find-kept q (fresh now) es h))
    go (Some x) h = fresh-or-not x h (fresh now x) refl

abbrev pub nowhere : Place → Bool
nowhere Nowhere = true
nowhere (AtPort i) = false
nowhere (Toward c) = false

-- the stations of which nothing is known any more
unfoldable pub gone : (ℕ → Place) → List Entry → List ℕ
gone new [] = []
gone new (e ∷ es) = cond (nowhere (new e.station)) (e.station ∷ gone new es) (gone new es)

pub gone-so : (new : ℕ → Place) (es : List Entry) (q : ℕ) → is_in q (gone new es) ≡ (nowhere (new q) && is_some (find q es))
unfolding gone is_in find
gone-so new [] q = grind (arith, nat_tests)
gone-so new (e ∷ es) q = elim (ℕ_discrete e.station q) [
  | yes h ↦ subst (λ s. is_in s (cond (nowhere (new e.station)) (e.station ∷ gone new es) (gone new es)) ≡ (nowhere (new s) && is_some (cond (eqb e.station s) (Some e) (find s es)))) h
      (let i = gone-so new es e.station in grind (arith, nat_tests))
  | no k ↦ let i = gone-so new es q in grind (arith, nat_tests)
]
