use Rattle.std.proofs.Common.{◌≡◌}
use Rattle.scenario.specs.Plans.{spread}
use Rattle.scenario.proofs.plans.spread_over.Given as goal

abbrev pub invariant-loop-node : goal.invariant-loop-node
invariant-loop-node l = l.filled ≡ spread l.node l.wiring.nodes l.values l.initial.filled
