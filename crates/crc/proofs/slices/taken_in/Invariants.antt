use Rattle.std.proofs.Common.{◌≡◌, ℕ, ◌<◌, length, get_or}
use Rattle.crc.specs.Crc.{through, all_ones}
use Rattle.crc.proofs.slices.taken_in.Given as goal

abbrev pub invariant-loop-rest : goal.invariant-loop-rest
invariant-loop-rest l = (through l.register l.rest ≡ through all_ones l.bytes) × ((i : ℕ) → get_or l.rest i 0 < 256)

abbrev pub decreases-loop-rest : goal.decreases-loop-rest
decreases-loop-rest l = length l.rest
