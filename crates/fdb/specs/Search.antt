-- Where an entry stands in a run of entries, or would.
use Rattle.std.specs.Prelude.{◌≡◌, ℕ, ◌<◌, ◌≤◌, List, length, Some, None, slice_index_or, slice_set}
use Rattle.std.specs.List.{insert}
use Rattle.fdb.specs.declared.entry.Entry.{Entry}
use Rattle.fdb.specs.Entries.{no_entry, find, put}

-- what is held of a station stands at i: an entry put in its place is written there
abbrev pub StandsAt : ℕ → List Entry → ℕ → Type 0
StandsAt s es i = (i < length es) × (find s es ≡ Some (slice_index_or es i no_entry)) × ((e : Entry) → e.station ≡ s → slice_set es i e ≡ put e es)

-- nothing is held of a station: an entry put in its place is inserted at i
abbrev pub BelongsAt : ℕ → List Entry → ℕ → Type 0
BelongsAt s es i = (i ≤ length es) × (find s es ≡ None) × ((e : Entry) → e.station ≡ s → insert es i e ≡ put e es)
