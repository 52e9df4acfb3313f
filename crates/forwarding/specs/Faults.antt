-- The numbers of refusals. Assumes nothing.
use Rattle.std.specs.Prelude.{ℕ}
use Rattle.forwarding.specs.declared.fault.Fault.{Fault}
use Rattle.forwarding.specs.declared.fault.Fault.TheVariants.{GroupSender, NoSuchPort, NotATrunk, NoVlan, NoTree, NotForUs, UnknownTree}

abbrev pub fault_number : Fault → ℕ
fault_number GroupSender = 1
fault_number NoSuchPort = 2
fault_number NotATrunk = 2
fault_number NoVlan = 3
fault_number NoTree = 3
fault_number NotForUs = 4
fault_number UnknownTree = 4
