use Rattle.std.proofs.Common.{◌≡◌, ◌≤◌, sym, arith, rules}
use Rattle.std.proofs.lemmas.Grind.{common_steps}
use Rattle.scenario.specs.Plans.{rises}
use Rattle.scenario.proofs.Steps.{up_none, up_step, depth_none, depth_step}
use Rattle.scenario.proofs.plans.Plan.depth_of.Goals as goal

pub loop-step-init : goal.loop-step-init
loop-step-init c = (sym (up_none _ _ _), sym (depth_none _ _ _), search rules)

pub loop-step-preserved : goal.loop-step-preserved
loop-step-preserved c =
    let risen : c.from-depth.result ≡ rises c.args.self.now.wiring.now.nodes c.args.self.now.parents.now c.loop-step.at = grind (arith, common_steps) in
    let most : c.from-depth.result ≤ 1 = grind (arith, common_steps) in (
      up_step c.loop-step._step _ _ _ _ _ c.loop-step.invariant.0 c.above_box-above.ensures,
      depth_step c.loop-step._step _ _ _ _ _ _ c.loop-step.invariant.0 c.loop-step.invariant.1 risen,
      omega (arith, c.loop-step.invariant.2, most),
    )
