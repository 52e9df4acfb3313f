-- How many frames left in this tick.
use Rattle.std.specs.Prelude.{ℕ}
use Rattle.rows.specs.declared.budget.Budget.{Budget}

abbrev pub sent_of : Budget → ℕ
sent_of b = b.sent
