use Rattle.std.proofs.Common.{◌≡◌, true, false, rules, tests}
use Rattle.std.proofs.lemmas.Iterator.{YieldsList-from_slice, IsFirst-from_position}
use Rattle.ports.specs.Ports.{leads}
use Rattle.ports.proofs.Onward.{lowest_from}
use Rattle.ports.proofs.lowest.lowest_port.Goals as goal

pub returns : goal.returns
returns c =
    let b = c.args.neighbour.value in
    lowest_from c.args.ports.now b c.position.result c.and_then.result c.told-ports
    (IsFirst-from_position _ _ c.position.result (λ p. leads p b ≡ true) (λ p. leads p b ≡ false) c.position.ensures.ran (YieldsList-from_slice c.args.ports.now cc) (λ x q k. search (rules, tests)) (λ x q k. search (rules, tests)))
    (search rules)
