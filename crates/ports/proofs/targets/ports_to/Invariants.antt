use Rattle.std.proofs.Common.{◌≡◌, ℕ, ◌<◌, false, not, ◌&&◌, ltb, length, get_or}
use Rattle.sets.specs.Sets.{has}
use Rattle.ports.specs.Ports.{ports_of, onward}
use Rattle.ports.proofs.targets.ports_to.Given as goal

-- what is left are the neighbours from c on, and the flags are those of the neighbours below c
abbrev pub invariant-neighbours : goal.invariant-neighbours
invariant-neighbours l =
    (length l.flags ≡ 16) × ((k : ℕ) → k < 128 → has l.rest.bits k ≡ (not (ltb k l.c) && has l.initial.rest.bits k)) ×
    ((p : ℕ) → p < 16 → get_or l.flags p false ≡ onward (λ k. ltb k l.c && has l.initial.rest.bits k) (ports_of l.ports) p)
