use Rattle.std.proofs.Common.{◌≡◌, ◌<◌, ◌+◌, ◌%◌, true, length, is_some, refl, arith}
use Rattle.std.proofs.lemmas.Bool.Decides.{nat_tests}
use Rattle.std.proofs.lemmas.List.{length-set}
use Rattle.rows.proofs.Rings.{length-frames, slots_push, lent_empty, never_none}
use Rattle.rows.proofs.row.Row.push.Goals as goal

pub returns : goal.returns
returns c =
    let r = c.args.self.now in
    let within : (r.head + r.used) % 16 < length r.slots.items = omega (arith, r.slots.ok.0) in
    let some : is_some c.get_mut.result ≡ true = c.get_mut.ensures.item.2 (simp length-set within) in (
      (refl, (λ w _. slots_push r.slots.items r.head r.used _ _ w (omega (arith, r.slots.ok.0)) (omega arith) refl), (λ none. never_none _ some none)),
      record {
        lent = tt;
        lent_facts = (rw length-frames (grind (arith, nat_tests, some)), lent_empty c.get_mut.result _ _ _ within c.clear.ensures c.get_mut.ensures.item.1);
      },
    )
