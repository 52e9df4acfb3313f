-- The bounds of each slot, row and budget, for whoever holds one.
use Rattle.std.proofs.Common.{ℕ, zero, suc, ◌+◌, ◌≤◌, List, [], ◌∷◌, map, length, get_or, take, arith}
use Rattle.rows.specs.Slot.{frame}
use Rattle.rows.specs.Row.{frames_from}
use Rattle.rows.specs.declared.slot.Slot.{Slot}
use Rattle.rows.specs.Bounds.{SmallSlots, SmallRows, SmallFrames, SmallBudgets}
use Rattle.rows.proofs.Rings.{length-frames}

take_short : (n : ℕ) (xs : List ℕ) → length (take n xs) ≤ n
take_short zero xs = omega arith
take_short (suc n) [] = omega arith
take_short (suc n) (x ∷ xs) = let rest = take_short n xs in omega arith

pub small_slots : SmallSlots
small_slots s = let short = take_short s.len s.bytes in let within = s.within in omega arith

pub small_rows : SmallRows
small_rows q = let many = length-frames (map frame q.slots.items) q.head q.used in let ring = q.ring.2 in omega arith

pub small_budgets : SmallBudgets
small_budgets b = omega (arith, b.within)

each_small : (ss : List Slot) (i : ℕ) → length (get_or (map frame ss) i []) ≤ 1529
each_small [] i = omega arith
each_small (s ∷ ss) zero = small_slots s
each_small (s ∷ ss) (suc i) = each_small ss i

from_small : (ss : List Slot) (h n k : ℕ) → length (get_or (frames_from (map frame ss) h n) k []) ≤ 1529
from_small ss h zero k = omega arith
from_small ss h (suc n) zero = each_small ss _
from_small ss h (suc n) (suc k) = from_small ss (h + 1) n k

pub small_frames : SmallFrames
small_frames q k = let small = from_small q.slots.items q.head q.used k in omega arith
