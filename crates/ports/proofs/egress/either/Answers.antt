use Rattle.std.proofs.Common.{◌||◌, false, get_or, rules, arith}
use borrow.Author.Tests.{tests}
use Rattle.ports.proofs.Each.{made_at}
use Rattle.ports.proofs.egress.either.Goals as goal

pub returns : goal.returns
returns c = λ p h. made_at (λ p. get_or c.args.a.now p false || get_or c.args.b.now p false) (λ i y q k. search (rules, tests)) c.from_fn.result false 0 16 p c.from_fn.ensures.items.each (omega arith) h
