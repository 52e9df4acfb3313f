-- What is held of stations, as a plain list of entries: what is found in it, and what it becomes when a station is heard, when time passes, and when there is no room.
use Rattle.std.specs.Prelude.{ℕ, ◌+◌, Bool, true, cond, not, ◌&&◌, ◌||◌, List, [], ◌∷◌, Some, None, filter, Option, ◌==◌, nat_lt}
use Rattle.fdb.specs.declared.entry.Location.{Location}
use Rattle.fdb.specs.declared.entry.Location.TheVariants.{Here}
use Rattle.fdb.specs.declared.entry.Entry.{Entry}

-- what stands past the end of a list of entries
abbrev pub no_entry : Entry
no_entry = record { station = 0; location = Here 0; tick = 0; order = 0 }

-- every entry is of a higher station
unfoldable pub above : ℕ → List Entry → Bool
above s [] = true
above s (x ∷ xs) = nat_lt s x.station && above s xs

-- entries stand in the order of their stations, each station once
unfoldable pub ascending : List Entry → Bool
ascending [] = true
ascending (x ∷ xs) = above x.station xs && ascending xs

-- what is held of a station
unfoldable pub find : ℕ → List Entry → Option Entry
find s [] = None
find s (x ∷ xs) = cond (x.station == s) (Some x) (find s xs)

abbrev pub where_is : Option Entry → Option Location
where_is None = None
where_is (Some e) = Some e.location

-- where a station is, as far as is known
abbrev pub place_of : List Entry → ℕ → Option Location
place_of es s = where_is (find s es)

-- an entry put in its place, instead of what was held of its station
unfoldable pub put : Entry → List Entry → List Entry
put e [] = e ∷ []
put e (x ∷ xs) = cond (nat_lt x.station e.station) (x ∷ put e xs) (cond (x.station == e.station) (e ∷ xs) (e ∷ x ∷ xs))

-- all but one station
unfoldable pub without : ℕ → List Entry → List Entry
without s es = filter (λ x. not (x.station == s)) es

-- heard at an earlier tick, or sooner in the same
abbrev pub earlier : Entry → Entry → Bool
earlier a b = nat_lt a.tick b.tick || (a.tick == b.tick && nat_lt a.order b.order)

-- the one of two that was heard earlier
abbrev pub longer : Entry → Option Entry → Option Entry
longer x None = Some x
longer x (Some y) = cond (earlier y x) (Some y) (Some x)

-- the longest unheard of, of all but one station
unfoldable pub oldest : ℕ → List Entry → Option Entry
oldest keep [] = None
oldest keep (x ∷ xs) = cond (x.station == keep) (oldest keep xs) (longer x (oldest keep xs))

-- heard in the last 300 ticks
abbrev pub fresh : ℕ → Entry → Bool
fresh now e = nat_lt now (e.tick + 300)

-- what is left when all that is older is forgotten
unfoldable pub remembered : ℕ → List Entry → List Entry
remembered now es = filter (fresh now) es
