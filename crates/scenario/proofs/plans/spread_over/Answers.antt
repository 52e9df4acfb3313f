use Rattle.std.proofs.Common.{sym}
use Rattle.scenario.proofs.Steps.{spread_none, spread-step}
use Rattle.scenario.proofs.plans.spread_over.Goals as goal

pub loop-node-init : goal.loop-node-init
loop-node-init c = sym (spread_none _ _ _)

pub loop-node-preserved : goal.loop-node-preserved
loop-node-preserved c = spread-step c.loop-node.node c.args.wiring.now.nodes c.args.values.now c.args.row c.loop-node.filled _ c.loop-node.invariant c.spread_one.ensures
