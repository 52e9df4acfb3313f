use Rattle.std.proofs.Common.{◌≡◌, ◌≤◌}
use Rattle.scenario.specs.Plans.{depth_of, up_from}
use Rattle.scenario.proofs.plans.Plan.depth_of.Given as goal

abbrev pub invariant-loop-step : goal.invariant-loop-step
invariant-loop-step l =
    (l.at ≡ up_from l._step l.self.wiring.now.nodes l.self.parents.now l.node) × (l.depth ≡ depth_of l._step l.self.wiring.now.nodes l.self.parents.now l.node) × (l.depth ≤ l._step)
