-- Whatever happened to a table since it was made, what it says of a station is the last thing that was heard of it, or nothing.
use Rattle.std.specs.Prelude.{◌≡◌, ℕ, ◌+◌, ◌-◌, ◌^◌, ◌<◌, ◌≤◌, Bool, true, false, cond, not, ◌&&◌, ◌||◌, List, [], ◌∷◌, length, is_some, Some, None, Option, ◌==◌, ◌≢◌, nat_le, nat_lt}
use Rattle.fdb.specs.declared.station.Station.{Station}
use Rattle.fdb.specs.declared.entry.Location.{Location}
use Rattle.fdb.specs.declared.entry.Entry.{Entry}
use Rattle.fdb.specs.Address.{group_address}
use Rattle.fdb.specs.Entries.{find, place_of, oldest}
use Rattle.fdb.specs.Contents.{Contents, empty, most, number_of, learnt, aged}

-- a station was heard, in a frame for another; a tick came; the tree was given up
pub data Event : Type 0 where
  Heard : (s : Station) (at : Location) (tick : ℕ) (keep : Station) → Event
  Passed : (tick : ℕ) → Event
  Cleared : Event

-- a table after all that happened, the newest first
unfoldable pub after : List Event → Contents
after [] = empty
after (Heard s at tick keep ∷ es) = learnt s at tick keep (after es)
after (Passed tick ∷ es) = aged tick (after es)
after (Cleared ∷ es) = empty

-- the last tick
unfoldable pub clock : List Event → ℕ
clock [] = 0
clock (Heard s at tick keep ∷ es) = tick
clock (Passed tick ∷ es) = tick
clock (Cleared ∷ es) = clock es

-- time does not go back
unfoldable pub rising : List Event → Bool
rising [] = true
rising (Heard s at tick keep ∷ es) = nat_le (clock es) tick && rising es
rising (Passed tick ∷ es) = nat_le (clock es) tick && rising es
rising (Cleared ∷ es) = rising es

-- station k is the one that is heard; the address of a group is never heard
abbrev pub hears : ℕ → Station → Bool
hears k s = not (group_address s.address) && number_of s == k

-- where and when a station was heard; turn: how much had happened before
pub record Sighting : Type 0 where
  pub at : Location
  pub tick : ℕ
  pub turn : ℕ

-- the last time that a station was heard, since the tree is used
unfoldable pub last_heard : ℕ → List Event → Option Sighting
last_heard k [] = None
last_heard k (Heard s at tick keep ∷ es) = cond (hears k s) (Some (record { at = at; tick = tick; turn = length es })) (last_heard k es)
last_heard k (Passed tick ∷ es) = last_heard k es
last_heard k (Cleared ∷ es) = None

-- which entry goes when s is heard, in a frame for keep
abbrev pub goes : Station → Station → Contents → Option Entry
goes s keep c =
    cond (group_address s.address || (is_some (find (number_of s) c.entries) || nat_lt (length c.entries) most)) None (oldest (number_of keep) c.entries)

abbrev pub is_of : ℕ → Option Entry → Bool
is_of k None = false
is_of k (Some e) = e.station == k

-- station k went for want of room since it was last heard
unfoldable pub evicted_since : ℕ → List Event → Bool
evicted_since k [] = false
evicted_since k (Heard s at tick keep ∷ es) = not (hears k s) && (is_of k (goes s keep (after es)) || evicted_since k es)
evicted_since k (Passed tick ∷ es) = evicted_since k es
evicted_since k (Cleared ∷ es) = false

pub record Remembers (es : List Event) (k : ℕ) : Type 0 where
  -- what is said of a station is the last thing that was heard of it
  pub last : (at : Location) → place_of (after es).entries k ≡ Some at → (h : Sighting) × (last_heard k es ≡ Some h) × (h.at ≡ at)
  -- what was heard less than 300 ticks ago is known, unless it went for want of room
  pub known : (h : Sighting) → last_heard k es ≡ Some h → clock es < h.tick + 300 → evicted_since k es ≡ false → place_of (after es).entries k ≡ Some h.at
  -- what was heard 300 ticks ago, or before, is forgotten when a tick comes
  pub forgotten : (h : Sighting) (tick : ℕ) → last_heard k es ≡ Some h → h.tick + 300 ≤ tick → place_of (after (Passed tick ∷ es)).entries k ≡ None

-- whatever happened, if time did not go back
abbrev pub History : Type 0
History = (es : List Event) → rising es ≡ true → (k : ℕ) → Remembers es k

-- who goes for want of room was heard before every other that is held, but for the one that is kept: of equals in a tick the one heard first. So it is while the count of what was heard fits its 64 bits
abbrev pub Longest : Type 0
Longest =
    (es : List Event) → rising es ≡ true → length es < 2 ^ 64 - 1 → (s keep : Station) (v : Entry) → goes s keep (after es) ≡ Some v →
    (v.station ≢ number_of keep) × ((k : ℕ) (e : Entry) → find k (after es).entries ≡ Some e → (k ≢ number_of keep) → (k ≢ v.station) →
    (h : Sighting) (w : Sighting) → last_heard k es ≡ Some h → last_heard v.station es ≡ Some w → w.turn < h.turn)
