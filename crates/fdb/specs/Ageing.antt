-- What is known after time has passed: what was heard in the last 300 ticks, as it was, and nothing else.
use Rattle.std.specs.Prelude.{◌≡◌, ℕ, ◌+◌, ◌<◌, ◌≤◌, Some, None}
use Rattle.fdb.specs.declared.entry.Entry.{Entry}
use Rattle.fdb.specs.Entries.{find}
use Rattle.fdb.specs.Contents.{Contents, aged}
use Rattle.fdb.specs.Learning.{Sound}

pub record Forgets (tick : ℕ) (before after : Contents) : Type 0 where
  pub young : (k : ℕ) (e : Entry) → find k before.entries ≡ Some e → tick < e.tick + 300 → find k after.entries ≡ Some e
  pub old : (k : ℕ) (e : Entry) → find k before.entries ≡ Some e → e.tick + 300 ≤ tick → find k after.entries ≡ None
  pub unknown : (k : ℕ) → find k before.entries ≡ None → find k after.entries ≡ None
  pub sound : Sound after

abbrev pub Ageing : Type 0
Ageing = (tick : ℕ) (c : Contents) → Sound c → Forgets tick c (aged tick c)
