use Rattle.std.proofs.Common.{◌≡◌}
use Rattle.scenario.proofs.player.Player.carry.Given as goal

abbrev pub invariant-loop-copy : goal.invariant-loop-copy
invariant-loop-copy l = (l.self.clock ≡ l.initial.self.clock) × (l.self.forest ≡ l.initial.self.forest)
