use Rattle.std.proofs.Common.{refl, ap, ◌∙◌, arith}
use Rattle.rows.specs.Slot.{frame}
use Rattle.rows.specs.Row.{waiting}
use Rattle.queues.specs.Port.{Port, port_of, with_frame}
use Rattle.queues.proofs.Ports.{port_set, port_same, room_at_lem}
use Rattle.queues.proofs.queues.Queues.place.Goals as goal

pub returns : goal.returns
returns c =
    let q : Port = port_of c.index_mut.result.now in (
      (
        refl,
        (λ w some. port_set c.args.self.now.ports.items c.args.port c.index_mut.result.now _ (with_frame (frame w)) (omega (arith, c.args.self.now.ports.ok.0)) c.index_mut.ensures.value
            (ap (λ v. record { control = q.control; frames = v; sent = q.sent }) (c.push.follows.holds w some))),
        (λ none. port_same c.args.self.now.ports.items c.args.port c.index_mut.result.now _ (omega (arith, c.args.self.now.ports.ok.0)) c.index_mut.ensures.value
            (ap (λ r. record { control = q.control; frames = waiting r; sent = q.sent }) (c.push.follows.holds-at-none none))),
      ),
      record {
        lent = tt;
        lent_facts = (c.push.ensures.lent_facts.0 ∙ room_at_lem c.args.self.now.ports.items c.args.port c.index_mut.result.now (omega arith) (omega (arith, c.args.self.now.ports.ok.0)) c.index_mut.ensures.value, c.push.ensures.lent_facts.1);
      },
    )
