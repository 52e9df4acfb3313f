use Rattle.std.proofs.Common.{◌≡◌, ℕ, ◌<◌, length, get_or, [], ◌∷◌}
use Rattle.messages.proofs.tree.pairs.Given as goal

abbrev pub invariant-loop-k : goal.invariant-loop-k
invariant-loop-k l = (length l.cell-items ≡ 128) × ((j : ℕ) → j < l.k → get_or l.cell-items j [] ≡ get_or l.tree.parent j 0 ∷ (get_or l.tree.depth j 0 ∷ []))
