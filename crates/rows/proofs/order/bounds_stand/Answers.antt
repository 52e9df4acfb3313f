use Rattle.rows.proofs.Bounds.{small_slots, small_rows, small_frames, small_budgets}
use Rattle.rows.proofs.order.bounds_stand.Goals as goal

pub returns : goal.returns
returns c = record { slots = small_slots; rows = small_rows; frames = small_frames; budgets = small_budgets }
