use Rattle.std.proofs.Common.{false, rules, arith}
use borrow.Author.Tests.{tests}
use Rattle.ports.specs.Ports.{ports_of}
use Rattle.ports.specs.Places.{came_of}
use Rattle.ports.specs.Outward.{to_stations}
use Rattle.ports.proofs.Each.{made_at}
use Rattle.ports.proofs.egress.to_stations.Goals as goal

pub returns : goal.returns
returns c = λ p h. made_at (to_stations (ports_of c.args.ports.now) c.args.frame.vlan.value (came_of c.args.frame.ingress)) (λ i y q k. search (rules, tests)) c.from_fn.result false 0 16 p c.from_fn.ensures.items.each (omega arith) h
