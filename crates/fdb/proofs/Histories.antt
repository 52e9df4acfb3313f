-- Whatever happened to a table: what it says is the last thing that was heard, and who went was heard before all that stayed.
use Rattle.std.proofs.Common.{◌≡◌, ℕ, ◌+◌, ◌-◌, ◌^◌, ◌<◌, ◌≤◌, Bool, true, false, cond, ◌||◌, ltb, leb, List, [], ◌∷◌, length, is_some, Some, None, filter, Option, sym, refl, ap, ◌∙◌, inl, inr, arith}
use Rattle.std.proofs.lemmas.Bool.Decides.{nat_tests}
use Rattle.std.proofs.lemmas.Bool.{and_parts, cases_eq, cases_lt, lt-ltb, le-ltb, leb-true, eq-eqb, ne_eqb, or_parts, both_ways}
use Rattle.fdb.specs.declared.station.Station.{Station}
use Rattle.fdb.specs.declared.entry.Location.{Location}
use Rattle.fdb.specs.declared.entry.Entry.{Entry}
use Rattle.fdb.specs.Address.{group_address}
use Rattle.fdb.specs.Entries.{ascending, find, oldest, earlier, remembered, fresh, where_is, place_of}
use Rattle.fdb.specs.Contents.{Contents, most, number_of, room_for, learned, learnt, entry_of}
use Rattle.fdb.specs.Learning.{Sound}
use Rattle.fdb.specs.History.{Event, Heard, Passed, Cleared, after, clock, rising, hears, Sighting, last_heard, goes, is_of, evicted_since, History, Longest}
use Rattle.fdb.proofs.Ordered.{find-kept}
use Rattle.fdb.proofs.Found.{find-put, find-put-other, oldest-other, oldest-held, oldest-first, find-kept-yes, find-kept-no}
use Rattle.fdb.proofs.Learns.{stayed, went, left, learns, ages}

-- who is heard: a group, never; the station itself; another
data Who (k : ℕ) (s : Station) : Type 0 where
  group : group_address s.address ≡ true → hears k s ≡ false → Who k s
  itself : group_address s.address ≡ false → k ≡ number_of s → hears k s ≡ true → Who k s
  another : group_address s.address ≡ false → (k ≡ number_of s → ⊥) → hears k s ≡ false → Who k s

who : (k : ℕ) (s : Station) → Who k s
who k s = go (group_address s.address) refl
  where
    go : (b : Bool) → group_address s.address ≡ b → Who k s
    go true g = group g (rw g refl)
    go false g = elim (cases_eq k (number_of s)) [ inl e ↦ itself g e (rw (g, eq-eqb (number_of s) k (sym e)) refl) | inr n ↦ another g n (rw (g, ne_eqb (number_of s) k (λ e. n (sym e))) refl) ]

-- the address of a group changes nothing
learnt-group : (s : Station) (at : Location) (tick : ℕ) (keep : Station) (c : Contents) → group_address s.address ≡ true → learnt s at tick keep c ≡ c
learnt-group s at tick keep c g = rw g refl

-- what is found after a station was heard: of itself, and of another
find-itself : (s : Station) (at : Location) (tick : ℕ) (keep : Station) (c : Contents) → group_address s.address ≡ false →
    find (number_of s) (learnt s at tick keep c).entries ≡ Some (entry_of s at tick c.heard)
unfolding learned
find-itself s at tick keep c g = rw g (find-put (entry_of s at tick c.heard) _)

data Another (s : Station) (at : Location) (tick : ℕ) (keep : Station) (c : Contents) (k : ℕ) : Type 0 where
  same : find k (learnt s at tick keep c).entries ≡ find k c.entries → Another s at tick keep c k
  gone : find k (learnt s at tick keep c).entries ≡ None → is_of k (goes s keep c) ≡ true → Another s at tick keep c k

find-another : (s : Station) (at : Location) (tick : ℕ) (keep : Station) (c : Contents) (k : ℕ) → group_address s.address ≡ false → (k ≡ number_of s → ⊥) → Another s at tick keep c k
unfolding learned
find-another s at tick keep c k g n = go (find (number_of s) c.entries) refl
  where
    e : Entry
    e = entry_of s at tick c.heard

    go : (f : Option Entry) → find (number_of s) c.entries ≡ f → Another s at tick keep c k
    go (Some x) q = same (rw (g, q) (find-put-other k e c.entries n))
    go None q = elim (left (number_of keep) k c.entries) [
      | stayed h ↦ same (rw (g, q) (find-put-other k e (room_for (number_of keep) c.entries) n ∙ h))
      | went v m o w h ↦ gone (rw (g, q) (find-put-other k e (room_for (number_of keep) c.entries) n ∙ h))
          (rw (g, q, le-ltb (length c.entries) most m, o) (eq-eqb v.station k w))
    ]

-- what is found after some were left out was found before
find-kept-back : (p : Entry → Bool) (k : ℕ) (es : List Entry) (e : Entry) → ascending es ≡ true → find k (filter p es) ≡ Some e → find k es ≡ Some e
find-kept-back p k es e a h = go (find k es) refl
  where
    go : (f : Option Entry) → find k es ≡ f → find k es ≡ Some e
    go None q = absurd (let z : ◌≡◌ {A = ℕ} 0 1 = cc (find-kept k p es q) in omega arith)
    go (Some x) q = fits (p x) refl
      where
        fits : (b : Bool) → p x ≡ b → find k es ≡ Some e
        fits true t = cc (find-kept-yes p k es x q t)
        fits false t = absurd (let z : ◌≡◌ {A = ℕ} 0 1 = cc (find-kept-no p k es x a q t) in omega arith)

-- what is remembered, as what is left out of the rest
unremembered : (tick : ℕ) (es : List Entry) (k : ℕ) → find k (filter (fresh tick) es) ≡ find k (remembered tick es)
unfolding remembered
unremembered tick es k = refl

pub sound_after : (es : List Event) → Sound (after es)
unfolding after ascending
sound_after [] = record { sorted = refl; within = omega arith }
sound_after (Heard s at tick keep ∷ es) = go (group_address s.address) refl (sound_after es)
  where
    go : (b : Bool) → group_address s.address ≡ b → Sound (after es) → Sound (learnt s at tick keep (after es))
    go true g ok = rw (learnt-group s at tick keep (after es) g) ok
    go false g ok = (learns s at tick keep (after es) ok g).sound
sound_after (Passed tick ∷ es) = (ages tick (after es) (sound_after es)).sound
sound_after (Cleared ∷ es) = record { sorted = refl; within = omega arith }

-- what is held of a station is the last thing that was heard of it
abbrev Shows : ℕ → Entry → List Event → Type 0
Shows k e es = (h : Sighting) × (last_heard k es ≡ Some h) × (h.at ≡ e.location) × (h.tick ≡ e.tick)

shows : (es : List Event) (k : ℕ) (e : Entry) → find k (after es).entries ≡ Some e → Shows k e es
unfolding after last_heard find
shows [] k e f = absurd (let z : ◌≡◌ {A = ℕ} 0 1 = cc in omega arith)
shows (Heard s at tick keep ∷ es) k e f = go (who k s) (shows es k e)
  where
    go : Who k s → (find k (after es).entries ≡ Some e → Shows k e es) → Shows k e (Heard s at tick keep ∷ es)
    go (group g n) ih = rw n (ih (ap (λ c. find k c.entries) (sym (learnt-group s at tick keep (after es) g)) ∙ f))
    go (itself g q y) ih =
        let z : e ≡ entry_of s at tick (after es).heard = cc (find-itself s at tick keep (after es) g) in
        (record { at = at; tick = tick; turn = length es }, rw y refl, ap (λ x. x.location) (sym z), ap (λ x. x.tick) (sym z))
    go (another g n y) ih = elim (find-another s at tick keep (after es) k g n) [
      | same h ↦ rw y (ih (sym h ∙ f))
      | gone h i ↦ absurd (let z : ◌≡◌ {A = ℕ} 0 1 = cc in omega arith)
    ]
shows (Passed tick ∷ es) k e f = shows es k e (find-kept-back (fresh tick) k (after es).entries e (sound_after es).sorted (unremembered tick (after es).entries k ∙ f))
shows (Cleared ∷ es) k e f = absurd (let z : ◌≡◌ {A = ℕ} 0 1 = cc in omega arith)

-- what is heard of another says nothing of a station
last_other : (k : ℕ) (s : Station) (at : Location) (tick : ℕ) (keep : Station) (es : List Event) → hears k s ≡ false → last_heard k (Heard s at tick keep ∷ es) ≡ last_heard k es
unfolding last_heard
last_other k s at tick keep es n = rw n refl

last_itself : (k : ℕ) (s : Station) (at : Location) (tick : ℕ) (keep : Station) (es : List Event) → hears k s ≡ true →
    last_heard k (Heard s at tick keep ∷ es) ≡ Some (record { at = at; tick = tick; turn = length es })
unfolding last_heard
last_itself k s at tick keep es y = rw y refl

last_passed : (k tick : ℕ) (es : List Event) → last_heard k (Passed tick ∷ es) ≡ last_heard k es
unfolding last_heard
last_passed k tick es = refl

evicted_other : (k : ℕ) (s : Station) (at : Location) (tick : ℕ) (keep : Station) (es : List Event) → hears k s ≡ false →
    evicted_since k (Heard s at tick keep ∷ es) ≡ (is_of k (goes s keep (after es)) || evicted_since k es)
unfolding evicted_since
evicted_other k s at tick keep es n = rw n refl

same_tick : (o : Option Sighting) (h w : Sighting) (t : ℕ) → o ≡ Some h → o ≡ Some w → w.tick ≡ t → h.tick ≡ t
same_tick o h w t p q e = let z : h ≡ w = cc in ap (λ x. x.tick) z ∙ e

-- what was heard less than 300 ticks ago, and did not go, is held
held_still : (es : List Event) → rising es ≡ true → (k : ℕ) (h : Sighting) → last_heard k es ≡ Some h → clock es < h.tick + 300 → evicted_since k es ≡ false → find k (after es).entries ≡ None → ⊥
unfolding rising last_heard clock evicted_since after
held_still [] r k h l c v f = let z : ◌≡◌ {A = ℕ} 0 1 = cc in omega arith
held_still (Heard s at tick keep ∷ es) r k h l c v f = go (who k s) (held_still es rs.1 k h)
  where
    rs : (leb (clock es) tick ≡ true) × (rising es ≡ true)
    rs = and_parts (leb (clock es) tick) (rising es) r

    go : Who k s → (last_heard k es ≡ Some h → clock es < h.tick + 300 → evicted_since k es ≡ false → find k (after es).entries ≡ None → ⊥) → ⊥
    go (group g n) ih = ih (sym (last_other k s at tick keep es n) ∙ l) (omega (arith, leb-true (clock es) tick rs.0))
        (or_parts (is_of k (goes s keep (after es))) (evicted_since k es) (sym (evicted_other k s at tick keep es n) ∙ v)).1 (ap (λ d. find k d.entries) (sym (learnt-group s at tick keep (after es) g)) ∙ f)
    go (itself g q y) ih = let z : ◌≡◌ {A = ℕ} 0 1 = cc (find-itself s at tick keep (after es) g) in omega arith
    go (another g n y) ih =
        let ps : (is_of k (goes s keep (after es)) ≡ false) × (evicted_since k es ≡ false)
        = or_parts (is_of k (goes s keep (after es))) (evicted_since k es) (sym (evicted_other k s at tick keep es y) ∙ v) in
        elim (find-another s at tick keep (after es) k g n) [
          | same q ↦ ih (sym (last_other k s at tick keep es y) ∙ l) (omega (arith, leb-true (clock es) tick rs.0)) ps.1 (sym q ∙ f)
          | gone q i ↦ both_ways (is_of k (goes s keep (after es))) ps.0 i
        ]
held_still (Passed tick ∷ es) r k h l c v f = go (find k (after es).entries) refl (held_still es rs.1 k h l (omega (arith, leb-true (clock es) tick rs.0)) v)
  where
    rs : (leb (clock es) tick ≡ true) × (rising es ≡ true)
    rs = and_parts (leb (clock es) tick) (rising es) r

    go : (o : Option Entry) → find k (after es).entries ≡ o → (find k (after es).entries ≡ None → ⊥) → ⊥
    go None q ih = ih q
    go (Some e) q ih =
        let w = shows es k e q in
        let t : h.tick ≡ e.tick = same_tick (last_heard k es) h w.0 e.tick l w.1 w.3 in
        let y : find k (filter (fresh tick) (after es).entries) ≡ Some e = find-kept-yes (fresh tick) k (after es).entries e q (lt-ltb tick (e.tick + 300) (omega arith)) in
        let z : ◌≡◌ {A = ℕ} 0 1 = cc (unremembered tick (after es).entries k) in omega arith
held_still (Cleared ∷ es) r k h l c v f = let z : ◌≡◌ {A = ℕ} 0 1 = cc in omega arith

gone_already : (es : List Event) (k tick : ℕ) → find k (after es).entries ≡ None → find k (after (Passed tick ∷ es)).entries ≡ None
unfolding after remembered
gone_already es k tick q = find-kept k (fresh tick) (after es).entries q

gone_now : (es : List Event) (k tick : ℕ) (e : Entry) → find k (after es).entries ≡ Some e → e.tick + 300 ≤ tick → find k (after (Passed tick ∷ es)).entries ≡ None
unfolding after remembered
gone_now es k tick e q l = find-kept-no (fresh tick) k (after es).entries e (sound_after es).sorted q (le-ltb tick (e.tick + 300) l)

pub history : History
history es r k = record {
  last = λ at p. named at (find k (after es).entries) refl p;
  known = λ h l c v. remembers h l (find k (after es).entries) refl (held_still es r k h l c v);
  forgotten = λ h tick l o. forgets h tick l o (find k (after es).entries) refl;
}
  where
    named : (at : Location) (o : Option Entry) → find k (after es).entries ≡ o → where_is o ≡ Some at → (h : Sighting) × (last_heard k es ≡ Some h) × (h.at ≡ at)
    named at None q p = absurd (let z : ◌≡◌ {A = ℕ} 0 1 = cc in omega arith)
    named at (Some e) q p = let w = shows es k e q in let z : e.location ≡ at = cc in (w.0, w.1, w.2 ∙ z)

    remembers : (h : Sighting) → last_heard k es ≡ Some h → (o : Option Entry) → find k (after es).entries ≡ o → (find k (after es).entries ≡ None → ⊥) → place_of (after es).entries k ≡ Some h.at
    remembers h l None q n = absurd (n q)
    remembers h l (Some e) q n =
        let w = shows es k e q in let z : h ≡ w.0 = cc w.1 in
        rw q (ap (λ x. Some x) (sym w.2 ∙ ap (λ x. x.at) (sym z)))

    forgets : (h : Sighting) (tick : ℕ) → last_heard k es ≡ Some h → h.tick + 300 ≤ tick → (o : Option Entry) → find k (after es).entries ≡ o → place_of (after (Passed tick ∷ es)).entries k ≡ None
    forgets h tick l m None q = ap where_is (gone_already es k tick q)
    forgets h tick l m (Some e) q =
        let w = shows es k e q in
        let t : h.tick ≡ e.tick = same_tick (last_heard k es) h w.0 e.tick l w.1 w.3 in
        ap where_is (gone_now es k tick e q (omega arith))

-- what a station was heard at stands in the order in which all was heard
heard-few : (es : List Event) → (after es).heard ≤ length es
unfolding after
heard-few [] = omega arith
heard-few (Heard s at tick keep ∷ es) = let h = heard-few es in grind (arith, nat_tests)
heard-few (Passed tick ∷ es) = let h = heard-few es in omega arith
heard-few (Cleared ∷ es) = omega arith

heard-next : (s : Station) (at : Location) (tick : ℕ) (keep : Station) (c : Contents) → group_address s.address ≡ false → c.heard < 2 ^ 64 - 1 → (learnt s at tick keep c).heard ≡ c.heard + 1
heard-next s at tick keep c g l = grind (arith, nat_tests)

turn_below : (k : ℕ) (es : List Event) (h : Sighting) → last_heard k es ≡ Some h → h.turn < length es
unfolding last_heard
turn_below k [] h l = grind arith
turn_below k (Heard s at tick keep ∷ es) h l = grind (arith, nat_tests, turn_below k es h)
turn_below k (Passed tick ∷ es) h l = let q = turn_below k es h l in omega arith
turn_below k (Cleared ∷ es) h l = grind arith

-- no two stations are heard at once
turns_differ : (j k : ℕ) (es : List Event) (g h : Sighting) → last_heard j es ≡ Some g → last_heard k es ≡ Some h → (j ≡ k → ⊥) → g.turn ≡ h.turn → ⊥
unfolding last_heard
turns_differ j k [] g h p q n e = grind arith
turns_differ j k (Heard s at tick keep ∷ es) g h p q n e = grind (arith, nat_tests, turns_differ j k es g h, turn_below j es g, turn_below k es h)
turns_differ j k (Passed tick ∷ es) g h p q n e = turns_differ j k es g h p q n e
turns_differ j k (Cleared ∷ es) g h p q n e = grind arith

-- what was found of another before a station was heard
before : (s : Station) (at : Location) (tick : ℕ) (keep : Station) (c : Contents) (k : ℕ) (e : Entry) → group_address s.address ≡ false → (k ≡ number_of s → ⊥) →
    find k (learnt s at tick keep c).entries ≡ Some e → find k c.entries ≡ Some e
before s at tick keep c k e g n f =
    elim (find-another s at tick keep c k g n) [ same h ↦ sym h ∙ f | gone h i ↦ absurd (let z : ◌≡◌ {A = ℕ} 0 1 = cc in omega arith) ]

-- every entry is older than what will be heard next
older : (es : List Event) → rising es ≡ true → length es < 2 ^ 64 - 1 → (k : ℕ) (e : Entry) → find k (after es).entries ≡ Some e → (e.order < (after es).heard) × (e.tick ≤ clock es)
unfolding rising clock after find
older [] r m k e f = absurd (let z : ◌≡◌ {A = ℕ} 0 1 = cc in omega arith)
older (Heard s at tick keep ∷ es) r m k e f = go (who k s) (older es rs.1 (omega arith) k e)
  where
    rs : (leb (clock es) tick ≡ true) × (rising es ≡ true)
    rs = and_parts (leb (clock es) tick) (rising es) r

    few : (after es).heard < 2 ^ 64 - 1
    few = let h = heard-few es in omega arith

    late : clock es ≤ tick
    late = leb-true (clock es) tick rs.0

    go : Who k s → (find k (after es).entries ≡ Some e → (e.order < (after es).heard) × (e.tick ≤ clock es)) → (e.order < (learnt s at tick keep (after es)).heard) × (e.tick ≤ tick)
    go (group g n) ih =
        let q = learnt-group s at tick keep (after es) g in
        let i = ih (ap (λ c. find k c.entries) (sym q) ∙ f) in (omega (arith, ap (λ c. c.heard) q), omega (arith, late))
    go (itself g q y) ih =
        let z : e ≡ entry_of s at tick (after es).heard = cc (find-itself s at tick keep (after es) g) in
        (omega (arith, ap (λ x. x.order) z, heard-next s at tick keep (after es) g few), omega (arith, ap (λ x. x.tick) z))
    go (another g n y) ih =
        let i = ih (before s at tick keep (after es) k e g n f) in (omega (arith, heard-next s at tick keep (after es) g few), omega (arith, late))
older (Passed tick ∷ es) r m k e f =
    let rs : (leb (clock es) tick ≡ true) × (rising es ≡ true) = and_parts (leb (clock es) tick) (rising es) r in
    let i = older es rs.1 (omega arith) k e (find-kept-back (fresh tick) k (after es).entries e (sound_after es).sorted (unremembered tick (after es).entries k ∙ f)) in
    (i.0, omega (arith, leb-true (clock es) tick rs.0))
older (Cleared ∷ es) r m k e f = absurd (let z : ◌≡◌ {A = ℕ} 0 1 = cc in omega arith)

-- of two that are held the one that was heard sooner is the earlier
sooner : (es : List Event) → rising es ≡ true → length es < 2 ^ 64 - 1 → (j k : ℕ) (d e : Entry) (g h : Sighting) → find j (after es).entries ≡ Some d → find k (after es).entries ≡ Some e →
    last_heard j es ≡ Some g → last_heard k es ≡ Some h → g.turn < h.turn → (d.order < e.order) × (d.tick ≤ e.tick)
unfolding rising after find
sooner [] r m j k d e g h fj fk lj lk t = absurd (let z : ◌≡◌ {A = ℕ} 0 1 = cc in omega arith)
sooner (Heard s at tick keep ∷ es) r m j k d e g h fj fk lj lk t = go (who j s) (who k s) (sooner es rs.1 (omega arith) j k d e g h)
  where
    rs : (leb (clock es) tick ≡ true) × (rising es ≡ true)
    rs = and_parts (leb (clock es) tick) (rising es) r

    late : clock es ≤ tick
    late = leb-true (clock es) tick rs.0

    was : (i : ℕ) → hears i s ≡ false → (w : Sighting) → last_heard i (Heard s at tick keep ∷ es) ≡ Some w → last_heard i es ≡ Some w
    was i n w l = sym (last_other i s at tick keep es n) ∙ l

    go : Who j s → Who k s →
        (find j (after es).entries ≡ Some d → find k (after es).entries ≡ Some e → last_heard j es ≡ Some g → last_heard k es ≡ Some h → g.turn < h.turn → (d.order < e.order) × (d.tick ≤ e.tick)) →
        (d.order < e.order) × (d.tick ≤ e.tick)
    go (group a n) (group b o) ih =
        let q = learnt-group s at tick keep (after es) a in
        ih (ap (λ c. find j c.entries) (sym q) ∙ fj) (ap (λ c. find k c.entries) (sym q) ∙ fk) (was j n g lj) (was k o h lk) t
    go (group a n) (itself b p o) ih = absurd (both_ways (group_address s.address) b a)
    go (group a n) (another b p o) ih = absurd (both_ways (group_address s.address) b a)
    go (itself a p n) w ih =
        let z : g ≡ record { at = at; tick = tick; turn = length es } = cc (last_itself j s at tick keep es n) in
        let q = turn_below k (Heard s at tick keep ∷ es) h lk in absurd (omega (arith, ap (λ x. x.turn) z))
    go (another a p n) (group b o) ih = absurd (both_ways (group_address s.address) a b)
    go (another a p n) (itself b q o) ih =
        let z : e ≡ entry_of s at tick (after es).heard = cc (find-itself s at tick keep (after es) b) in
        let i = older es rs.1 (omega arith) j d (before s at tick keep (after es) j d a p fj) in
        (omega (arith, ap (λ x. x.order) z), omega (arith, ap (λ x. x.tick) z, late))
    go (another a p n) (another b q o) ih =
        ih (before s at tick keep (after es) j d a p fj) (before s at tick keep (after es) k e b q fk) (was j n g lj) (was k o h lk) t
sooner (Passed tick ∷ es) r m j k d e g h fj fk lj lk t =
    sooner es (and_parts (leb (clock es) tick) (rising es) r).1 (omega arith) j k d e g h
    (find-kept-back (fresh tick) j (after es).entries d (sound_after es).sorted (unremembered tick (after es).entries j ∙ fj))
    (find-kept-back (fresh tick) k (after es).entries e (sound_after es).sorted (unremembered tick (after es).entries k ∙ fk))
    (sym (last_passed j tick es) ∙ lj) (sym (last_passed k tick es) ∙ lk) t
sooner (Cleared ∷ es) r m j k d e g h fj fk lj lk t = absurd (let z : ◌≡◌ {A = ℕ} 0 1 = cc in omega arith)

only_some : {X : Type 0} (b : Bool) (o : Option X) (v : X) → cond b None o ≡ Some v → o ≡ Some v
only_some true o v h = absurd (let z : ◌≡◌ {A = ℕ} 0 1 = cc in omega arith)
only_some false o v h = h

pub longest : Longest
longest es r m s keep v o = (
  oldest-other (number_of keep) held v old,
  λ k e f n u h w lk lv. elim (cases_lt w.turn h.turn) [
    | inl l ↦ l
    | inr l ↦ absurd (
        let t = turns_differ k v.station es h w lk lv u in
        let q = sooner es r m k v.station e v h w f (oldest-held (number_of keep) held v (sound_after es).sorted old) lk lv (omega (arith, t)) in
        let b : earlier e v ≡ true = grind (arith, nat_tests) in
        both_ways (earlier e v) (oldest-first (number_of keep) k held v e old f n) b)
  ],
)
  where
    held : List Entry
    held = (after es).entries

    old : oldest (number_of keep) (after es).entries ≡ Some v
    old = only_some (group_address s.address || (is_some (find (number_of s) (after es).entries) || ltb (length (after es).entries) most)) (oldest (number_of keep) (after es).entries) v o
