use Rattle.std.proofs.Common.{◌≡◌, rules, sym, ap, ◌∙◌}
use Rattle.sets.specs.Sets.{has}
use Rattle.ports.specs.Ports.{ports_of}
use Rattle.ports.proofs.Onward.{one_more, none_more}
use Rattle.ports.proofs.targets.ports_to.Goals as goal
use Rattle.ports.proofs.targets.ports_to.Goals.{Joined-contains, then-contains, else-contains}

-- the bridge at c has the number c
same : (c : Joined-contains) → c.unwrap-neighbour.result.value ≡ c.neighbours.c
same c = search rules

pub neighbours-preserved : goal.neighbours-preserved
neighbours-preserved c = elim c.if-contains.branch [
  | then-contains w ↦ one_more (has c.args.neighbours.bits) (has c.neighbours.rest.bits) (has c.if-contains.rest.bits) (ports_of c.args.ports.now) c.neighbours.c c.unwrap-neighbour.result.value
      c.neighbours.flags c.if-contains.flags w.lowest_port.result
      c.unwrap-neighbour.result.ok (same c) c.neighbours.invariant (sym c.contains.ensures ∙ w.if-contains.true) w.lowest_port.ensures (w.flags-is ∙ w.mark.ensures)
      (λ k h. ap (λ s. has s.bits k) w.rest-is ∙ w.without-rest.ensures k h)
  | else-contains w ↦ none_more (has c.args.neighbours.bits) (has c.neighbours.rest.bits) (has c.if-contains.rest.bits) (ports_of c.args.ports.now) c.neighbours.c c.unwrap-neighbour.result.value
      c.neighbours.flags c.if-contains.flags
      c.unwrap-neighbour.result.ok (same c) c.neighbours.invariant (sym c.contains.ensures ∙ w.if-contains.false) w.flags-is (λ k. ap (λ s. has s.bits k) w.rest-is)
]
