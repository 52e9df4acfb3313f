-- What is known after a station was heard, and after time has passed.
use Rattle.std.proofs.Common.{◌≡◌, ℕ, ◌+◌, ◌<◌, ◌≤◌, Bool, true, false, cond, ltb, ◌⊎◌, List, length, is_some, Some, None, Option, sym, refl, ap, ◌∙◌, subst, inl, inr, arith}
use Rattle.std.proofs.lemmas.Bool.{ltb-true, ltb-false, cases_eq, lt-ltb, le-ltb}
use Rattle.fdb.specs.declared.entry.Entry.{Entry}
use Rattle.fdb.specs.Entries.{ascending, find, put, without, oldest, earlier, remembered, fresh, where_is}
use Rattle.fdb.specs.Contents.{most, number_of, room_for, learned, entry_of}
use Rattle.fdb.specs.Learning.{Sound, Evicts, Learning}
use Rattle.fdb.specs.Ageing.{Ageing}
use Rattle.fdb.specs.declared.table.Table.{Table}
use Rattle.fdb.specs.Held.{contents}
use Rattle.fdb.proofs.Ordered.{room_ascending, learned-ascending, ascending-remembered, oldest-some, room_new, find-kept}
use Rattle.fdb.proofs.Found.{find-put, find-put-other, find-without, find-without-other, length-put-new, length-put-known, length-kept, length_without, oldest-other, oldest-held, oldest-first, find-kept-yes, find-kept-no}

-- what is found of a station after room was made: what was, or nothing, of the one that went
pub data Left (keep k : ℕ) (es : List Entry) : Type 0 where
  stayed : find k (room_for keep es) ≡ find k es → Left keep k es
  went : (v : Entry) → most ≤ length es → oldest keep es ≡ Some v → v.station ≡ k → find k (room_for keep es) ≡ None → Left keep k es

pub left : (keep k : ℕ) (es : List Entry) → Left keep k es
unfolding room_for
left keep k es = go (ltb (length es) most) refl
  where
    out : (v : Option Entry) → oldest keep es ≡ v → ltb (length es) most ≡ false → Left keep k es
    out None o f = stayed (rw (f, o) refl)
    out (Some v) o f = elim (cases_eq k v.station) [
      | inl p ↦ went v (ltb-false (length es) most f) o (sym p) (rw (f, o) (subst (λ s. find k (without s es) ≡ None) p (find-without k es)))
      | inr n ↦ stayed (rw (f, o) (find-without-other k v.station es n))
    ]

    go : (b : Bool) → ltb (length es) most ≡ b → Left keep k es
    go true t = stayed (rw t refl)
    go false f = out (oldest keep es) refl f

-- room is made: there is a place
pub room-length : (keep : ℕ) (es : List Entry) → ascending es ≡ true → length es ≤ most → length (room_for keep es) < most
unfolding room_for
room-length keep es a l = go (ltb (length es) most) refl
  where
    out : (v : Option Entry) → oldest keep es ≡ v → ltb (length es) most ≡ false → length (room_for keep es) < most
    out None o f = absurd (let q = oldest-some keep es a o in let m = ltb-false (length es) most f in omega arith)
    out (Some v) o f = rw (f, o) (let q = length_without v.station es v (oldest-held keep es v a o) in omega arith)

    go : (b : Bool) → ltb (length es) most ≡ b → length (room_for keep es) < most
    go true t = rw t (ltb-true (length es) most t)
    go false f = out (oldest keep es) refl f

pub learned-length : (e : Entry) (keep : ℕ) (es : List Entry) → ascending es ≡ true → length es ≤ most → length (learned e keep es) ≤ most
unfolding learned
learned-length e keep es a l = go (find e.station es) refl
  where
    go : (f : Option Entry) → find e.station es ≡ f → length (learned e keep es) ≤ most
    go None q = rw q (let h = length-put-new e (room_for keep es) (room_ascending keep es a) (room_new e.station keep es q) in let r = room-length keep es a l in omega arith)
    go (Some x) q = rw q (let h = length-put-known e es x a q in omega arith)

pub learns : Learning
unfolding learned
learns s at tick keep c ok g = record {
  here = rw g (ap where_is (find-put e (room (find (number_of s) c.entries))));
  others = λ k n. rw g (other k n (find (number_of s) c.entries) refl);
  safe = λ n. rw g (safely n (find (number_of s) c.entries) refl);
  sound = rw g (record { sorted = learned-ascending e (number_of keep) c.entries ok.sorted; within = learned-length e (number_of keep) c.entries ok.sorted ok.within });
}
  where
    e : Entry
    e = entry_of s at tick c.heard

    room : Option Entry → List Entry
    room f = cond (is_some f) c.entries (room_for (number_of keep) c.entries)

    other : (k : ℕ) → (k ≡ number_of s → ⊥) → (f : Option Entry) → find (number_of s) c.entries ≡ f →
        (find k (put e (room f)) ≡ find k c.entries) ⊎ ((find k (put e (room f)) ≡ None) × Evicts c (number_of s) (number_of keep) k)
    other k n (Some x) q = inl (find-put-other k e c.entries n)
    other k n None q = elim (left (number_of keep) k c.entries) [
      | stayed h ↦ inl (find-put-other k e (room_for (number_of keep) c.entries) n ∙ h)
      | went v m o w h ↦ inr (
        find-put-other k e (room_for (number_of keep) c.entries) n ∙ h,
        record {
          full = omega (arith, ok.within);
          new = q;
          other = λ p. oldest-other (number_of keep) c.entries v o (w ∙ p);
          longest = λ d x j fd fx p.
              let z : d ≡ v = cc (oldest-held (number_of keep) c.entries v ok.sorted o) in
              subst (λ y. earlier x y ≡ false) (sym z) (oldest-first (number_of keep) j c.entries v x o fx p);
        },
      )
    ]

    safely : (number_of keep ≡ number_of s → ⊥) → (f : Option Entry) → find (number_of s) c.entries ≡ f → find (number_of keep) (put e (room f)) ≡ find (number_of keep) c.entries
    safely n f q = elim (other (number_of keep) n f q) [ inl h ↦ h | inr h ↦ absurd (h.1.other refl) ]

pub ages : Ageing
unfolding remembered
ages tick c ok = record {
  young = λ k e h l. find-kept-yes (fresh tick) k c.entries e h (lt-ltb tick (e.tick + 300) l);
  old = λ k e h l. find-kept-no (fresh tick) k c.entries e ok.sorted h (le-ltb tick (e.tick + 300) l);
  unknown = λ k h. find-kept k (fresh tick) c.entries h;
  sound = record { sorted = ascending-remembered tick c.entries ok.sorted; within = let h = length-kept (fresh tick) c.entries in omega (arith, ok.within) };
}

-- what a table in memory holds is sound, for those who use the theorems
pub sound_table : (t : Table) → Sound (contents t)
sound_table t = record { sorted = t.sorted; within = omega (arith, t.room, t.entries.ok.0) }
