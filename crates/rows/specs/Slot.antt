-- The frame that a slot holds: its first `len` bytes.
use Rattle.std.specs.Prelude.{ℕ, List, take}
use Rattle.rows.specs.declared.slot.Slot.{Slot}

abbrev pub frame : Slot → List ℕ
frame s = take s.len s.bytes
