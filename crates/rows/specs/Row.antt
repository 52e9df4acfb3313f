-- The frames that wait in a row, the one that came first in front.
use Rattle.std.specs.Prelude.{ℕ, zero, suc, ◌+◌, ◌%◌, List, [], ◌∷◌, vec_items, slice_index_or}
use Rattle.rows.specs.Slot.{frame}
use Rattle.rows.specs.declared.row.Row.{Row}

abbrev pub frames_from : List (List ℕ) → ℕ → ℕ → List (List ℕ)
frames_from fs h zero = []
frames_from fs h (suc n) = slice_index_or fs (h % 16) [] ∷ frames_from fs (h + 1) n

abbrev pub waiting : Row → List (List ℕ)
waiting q = frames_from (mathlib.Core.List.map frame (vec_items q.slots)) q.head q.used
