-- What each slot, row and budget holds at most, whatever was done with it and whoever wrote to it.
use Rattle.std.specs.Prelude.{ℕ, ◌≤◌, [], length, slice_index_or}
use Rattle.rows.specs.declared.budget.Budget.{Budget}
use Rattle.rows.specs.declared.row.Row.{Row}
use Rattle.rows.specs.declared.slot.Slot.{Slot}
use Rattle.rows.specs.Budget.{sent_of}
use Rattle.rows.specs.Row.{waiting}
use Rattle.rows.specs.Slot.{frame}

abbrev pub SmallSlots : Type 0
SmallSlots = (s : Slot) → length (frame s) ≤ 1529

abbrev pub SmallRows : Type 0
SmallRows = (q : Row) → length (waiting q) ≤ 16

-- each frame that waits, not only the first
abbrev pub SmallFrames : Type 0
SmallFrames = (q : Row) (k : ℕ) → length (slice_index_or (waiting q) k []) ≤ 1529

abbrev pub SmallBudgets : Type 0
SmallBudgets = (b : Budget) → sent_of b ≤ 64
