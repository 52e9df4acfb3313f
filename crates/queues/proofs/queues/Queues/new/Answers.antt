use Rattle.std.proofs.Common.{arith, rules}
use Rattle.queues.proofs.Ports.{idle_all}
use Rattle.queues.proofs.queues.Queues.new.Goals as goal

pub returns : goal.returns
returns c =
    let made = c.in_ok-try_resize_with.ensures.items in
    idle_all _ _ _ _ _ _ 16 made.3 c.new-ports.ensures.items made.2 (omega (arith, c.try_resize_with.new.self.ok.0, c.in_ok-try_resize_with.ensures.len)) (λ p x q k. search rules)
