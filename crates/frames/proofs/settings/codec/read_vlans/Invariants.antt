use Rattle.std.proofs.Common.{◌≡◌, ℕ, ◌<◌, ◌≤◌, length, get_or, []}
use Rattle.wire.specs.Bytes.{two}
use Rattle.frames.proofs.settings.codec.read_vlans.Given as goal

abbrev pub invariant-loop-port : goal.invariant-loop-port
invariant-loop-port l = (length l.vlans ≡ 16) × ((j : ℕ) → j < l.port → get_or l.vlans j 0 ≡ two (get_or l.cells j []) 0) × ((j : ℕ) → l.port ≤ j → j < 16 → get_or l.vlans j 0 ≡ 0)
