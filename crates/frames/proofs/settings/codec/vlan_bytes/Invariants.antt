use Rattle.std.proofs.Common.{◌≡◌, ℕ, ◌<◌, length, get_or, []}
use Rattle.wire.specs.Bytes.{in_two}
use Rattle.frames.proofs.settings.codec.vlan_bytes.Given as goal

abbrev pub invariant-loop-port : goal.invariant-loop-port
invariant-loop-port l = (length l.cell-items ≡ 16) × ((j : ℕ) → j < l.port → get_or l.cell-items j [] ≡ in_two (get_or l.vlans j 0))
