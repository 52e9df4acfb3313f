use Rattle.std.proofs.Common.{◌≡◌}
use Rattle.forwarding.specs.Holding.{state_of}
use Rattle.scenario.specs.Links.{relinked_all}
use Rattle.scenario.proofs.links.relink.Given as goal

abbrev pub invariant-loop-port : goal.invariant-loop-port
invariant-loop-port l = state_of l.told ≡ relinked_all l.port l.links (state_of l.initial.told)
