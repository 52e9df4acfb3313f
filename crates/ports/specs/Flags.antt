-- A flag for each port. Assumes nothing.
use Rattle.std.specs.Prelude.{◌≡◌, ℕ, ◌<◌, Bool, true, false, List, Some, None, Option, slice_set, slice_index_or}
use Rattle.ports.specs.declared.port.PortId.{PortId}

-- the flags with that of a port set, if there is one
abbrev pub marked : List Bool → Option PortId → List Bool
marked flags None = flags
marked flags (Some p) = slice_set flags p.value true

-- sixteen flags say of each port what `out` says of it
abbrev pub Flags : List Bool → (ℕ → Bool) → Type 0
Flags flags out = (p : ℕ) → p < 16 → slice_index_or flags p false ≡ out p
