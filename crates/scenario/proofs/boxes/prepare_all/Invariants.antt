use Rattle.scenario.specs.Boxes.{PreparedBelow}
use Rattle.scenario.proofs.boxes.prepare_all.Given as goal

abbrev pub invariant-loop-node : goal.invariant-loop-node
invariant-loop-node l = PreparedBelow l.wiring.nodes l.node l.initial.bridges l.bridges
