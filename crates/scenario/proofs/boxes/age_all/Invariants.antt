use Rattle.std.proofs.Common.{◌≡◌, ℕ, ◌<◌, cond, ltb, length, get_or, None}
use Rattle.forwarding.specs.State.{aged_state}
use Rattle.scenario.specs.Slots.{state_in, become}
use Rattle.scenario.proofs.boxes.age_all.Given as goal

abbrev pub invariant-loop-slot : goal.invariant-loop-slot
invariant-loop-slot l =
    (length l.bridges ≡ length l.initial.bridges)
    × ((n : ℕ) → n < 6 → state_in (get_or l.bridges n None) ≡ cond (ltb n l.slot-index) (become (aged_state l.tick) (state_in (get_or l.initial.bridges n None))) (state_in (get_or l.initial.bridges n None)))
