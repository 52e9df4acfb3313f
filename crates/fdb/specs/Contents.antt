-- All that a table says and will do: its entries, and how much it has heard; and what hearing a station and the passing of time make of it.
use Rattle.std.specs.Prelude.{ℕ, ◌+◌, ◌-◌, ◌^◌, cond, List, [], length, is_some, Some, None, Option, nat_lt}
use Rattle.fdb.specs.declared.station.Station.{Station}
use Rattle.fdb.specs.declared.entry.Location.{Location}
use Rattle.fdb.specs.declared.entry.Entry.{Entry}
use Rattle.fdb.specs.Address.{station_number, group_address}
use Rattle.fdb.specs.Entries.{find, put, without, oldest, remembered}

-- entries: of each station what was last heard. heard: how many times a station was heard
pub record Contents : Type 0 where
  pub entries : List Entry
  pub heard : ℕ

-- nothing was heard yet
abbrev pub empty : Contents
empty = record { entries = []; heard = 0 }

-- the most entries that a table holds
abbrev pub most : ℕ
most = 4096

abbrev pub number_of : Station → ℕ
number_of s = station_number s.address s.vlan

abbrev pub evicted : Option Entry → List Entry → List Entry
evicted None es = es
evicted (Some v) es = without v.station es

-- room for one more: of a full table the longest unheard of goes, never the station that is kept
unfoldable pub room_for : ℕ → List Entry → List Entry
room_for keep es = cond (nat_lt (length es) most) es (evicted (oldest keep es) es)

-- a station is heard: what was held of it is replaced; a new one is given room first
unfoldable pub learned : Entry → ℕ → List Entry → List Entry
learned e keep es = put e (cond (is_some (find e.station es)) es (room_for keep es))

-- the count of what was heard stops at the largest number of 64 bits
abbrev pub next : ℕ → ℕ
next n = cond (nat_lt n (2 ^ 64 - 1)) (n + 1) n

abbrev pub entry_of : Station → Location → ℕ → ℕ → Entry
entry_of s at tick order = record { station = number_of s; location = at; tick = tick; order = order }

-- a station is heard at a place and a tick, in a frame for the station that is kept; the address of a group sends nothing
abbrev pub learnt : Station → Location → ℕ → Station → Contents → Contents
learnt s at tick keep c =
    cond (group_address s.address) c (record { entries = learned (entry_of s at tick c.heard) (number_of keep) c.entries; heard = next c.heard })

-- what was not heard of for 300 ticks is forgotten
abbrev pub aged : ℕ → Contents → Contents
aged tick c = record { entries = remembered tick c.entries; heard = c.heard }
