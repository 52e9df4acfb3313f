-- Boxes with their ports.
use Rattle.std.specs.Prelude.{ℕ, ◌-◌, min, cond, List, [], ◌++◌, get_or, replicate, nat_lt, slice_index_or, slice_set}
use Rattle.scan.specs.declared.parts.PortRef.{PortRef}
use Rattle.wiring.specs.declared.boxes.Power.{Power}
use Rattle.wiring.specs.declared.boxes.Power.TheVariants as power
use Rattle.wiring.specs.declared.boxes.Port.{Port}
use Rattle.wiring.specs.declared.boxes.Port.TheVariants as port
use Rattle.wiring.specs.declared.boxes.Node.{Node}

-- what stands where no box is
abbrev pub no_box : Node
no_box = record { power = power.Absent; number = 0; ports = [] }

-- boxes are numbered from 0 to 5, ports from 0 to 15
abbrev pub power_at : List Node → ℕ → Power
power_at ns n = cond (nat_lt n 6) (get_or ns n no_box).power power.Absent

abbrev pub number_at : List Node → ℕ → ℕ
number_at ns n = cond (nat_lt n 6) (get_or ns n no_box).number 0

abbrev pub port_at : List Node → PortRef → Port
port_at ns p = cond (nat_lt p.node 6) (cond (nat_lt p.port 16) (slice_index_or (get_or ns p.node no_box).ports p.port port.Absent) port.Absent) port.Absent

-- a port used for something else
abbrev pub used_port : Node → ℕ → Port → Node
used_port n k x = record { power = n.power; number = n.number; ports = slice_set n.ports k x }

abbrev pub with_port : List Node → PortRef → Port → List Node
with_port ns p x = cond (nat_lt p.node 6) (cond (nat_lt p.port 16) (slice_set ns p.node (used_port (slice_index_or ns p.node no_box) p.port x)) ns) ns

-- a box switched on or off
abbrev pub switched : Node → Power → Node
switched n x = record { power = x; number = n.number; ports = n.ports }

abbrev pub with_power : List Node → ℕ → Power → List Node
with_power ns n x = cond (nat_lt n 6) (slice_set ns n (switched (slice_index_or ns n no_box) x)) ns

-- the first ports are free, and the others aren't there
unfoldable pub ports_of : ℕ → List Port
ports_of n = replicate (min n 16) port.Free ++ replicate (16 - min n 16) port.Absent

-- a box that is there, on, with free ports
abbrev pub with_box : List Node → ℕ → ℕ → ℕ → List Node
with_box ns n ports k = cond (nat_lt n 6) (slice_set ns n (record { power = power.On; number = k; ports = ports_of ports })) ns
