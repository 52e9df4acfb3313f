use Rattle.std.proofs.Common.{◌≡◌, true, false, is_ok, IsErr, Result, Ok, Err, refl, ◌∙◌, arith}
use Rattle.queues.proofs.Ports.{port_came}
use Rattle.queues.proofs.queues.Queues.enqueue.Goals as goal

not_ok : {A E : Type 0} (r : Result A E) → IsErr r → is_ok r ≡ false
not_ok (Ok x) h = absurd (grind arith)
not_ok (Err e) h = refl

pub returns-in_err-enqueue-clause-after : goal.returns-in_err-enqueue-clause-after
returns-in_err-enqueue-clause-after c =
    let is = c.in_ok-queue.ensures.ok_part in
    let here = rw is at c.get_mut.ensures.value in
    let within = rw is at c.get_mut.ensures.variant in
    port_came _ c.args.self.now.ports.items c.args.port c.in_ok-queue.queue.now c.enqueue.new.self c.args.bytes.now (omega (arith, c.args.self.now.ports.ok.0, within.0 refl)) here c.in_err-enqueue.ensures.after
    (not_ok _ c.from_residual-in_err-enqueue.ensures.0 ∙ c.in_err-enqueue.ensures.taken)

pub returns-clause-after : goal.returns-clause-after
returns-clause-after c =
    let is = c.in_ok-queue.ensures.ok_part in
    let here = rw is at c.get_mut.ensures.value in
    let within = rw is at c.get_mut.ensures.variant in
    port_came true c.args.self.now.ports.items c.args.port c.in_ok-queue.queue.now c.enqueue.new.self c.args.bytes.now (omega (arith, c.args.self.now.ports.ok.0, within.0 refl)) here c.in_ok-enqueue.ensures.after c.in_ok-enqueue.ensures.taken
