-- What is known after a station was heard: where it is; of every other station what was known, but for one that may have gone for want of room.
use Rattle.std.specs.Prelude.{◌≡◌, ℕ, ◌≤◌, true, false, ◌⊎◌, length, Some, None, ◌≢◌}
use Rattle.fdb.specs.declared.station.Station.{Station}
use Rattle.fdb.specs.declared.entry.Location.{Location}
use Rattle.fdb.specs.declared.entry.Entry.{Entry}
use Rattle.fdb.specs.Address.{group_address}
use Rattle.fdb.specs.Entries.{ascending, find, place_of, earlier}
use Rattle.fdb.specs.Contents.{Contents, most, number_of, learnt}

-- what every table holds: each station once, and no more than there is room for
pub record Sound (c : Contents) : Type 0 where
  pub sorted : ascending c.entries ≡ true
  pub within : length c.entries ≤ most

-- hearing s, in a frame for keep, took station k out: there was no room, s was new, and k is the longest unheard of, and not keep
pub record Evicts (c : Contents) (s keep k : ℕ) : Type 0 where
  pub full : length c.entries ≡ most
  pub new : find s c.entries ≡ None
  pub other : k ≡ keep → ⊥
  pub longest : (e x : Entry) (j : ℕ) → find k c.entries ≡ Some e → find j c.entries ≡ Some x → (j ≢ keep) → earlier x e ≡ false

pub record Learns (s : Station) (at : Location) (keep : Station) (before after : Contents) : Type 0 where
  pub here : place_of after.entries (number_of s) ≡ Some at
  pub others :
      (k : ℕ) → (k ≢ number_of s) → (find k after.entries ≡ find k before.entries) ⊎ ((find k after.entries ≡ None) × Evicts before (number_of s) (number_of keep) k)
  pub safe : (number_of keep ≢ number_of s) → find (number_of keep) after.entries ≡ find (number_of keep) before.entries
  pub sound : Sound after

abbrev pub Learning : Type 0
Learning =
    (s : Station) (at : Location) (tick : ℕ) (keep : Station) (c : Contents) → Sound c → group_address s.address ≡ false → Learns s at keep c (learnt s at tick keep c)
