use Rattle.std.proofs.Common.{None, sym, arith}
use Rattle.std.proofs.lemmas.List.{get_or_default}
use Rattle.scenario.proofs.Steps.{relinked-none, relinked-step}
use Rattle.scenario.proofs.links.relink.Goals as goal

pub loop-port-init : goal.loop-port-init
loop-port-init c = sym (relinked-none _ _)

pub loop-port-preserved : goal.loop-port-preserved
loop-port-preserved c = relinked-step c.loop-port.port c.args.links.now _ _ _ _ (get_or_default c.args.links.now c.loop-port.port c.index-links-port.result None (omega arith)) c.loop-port.invariant c.set_link-next.ensures.after
