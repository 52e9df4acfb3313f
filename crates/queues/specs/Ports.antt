-- The ports of a bridge, in the order of their numbers.
use Rattle.std.specs.Prelude.{ℕ, Bool, cond, ◌&&◌, List, map, length, None, vec_items, Option, nat_lt, slice_index_or, slice_set}
use Rattle.queues.specs.Port.{Port, Output, port_of, idle, out_of}
use Rattle.queues.specs.declared.queues.Queues.{Queues}

abbrev pub ports_of : Queues → List Port
ports_of q = map port_of (vec_items q.ports)

abbrev pub port_at : ℕ → List Port → Port
port_at i ps = slice_index_or ps i idle

-- port i as f leaves it, the others as they were; nothing changes where there is no port i
abbrev pub changed : ℕ → (Port → Port) → List Port → List Port
changed i f ps = slice_set ps i (f (port_at i ps))

-- whether port i is there and has room for another frame
abbrev pub room_at : ℕ → List Port → Bool
room_at i ps = nat_lt i 16 && nat_lt (length (port_at i ps).frames) 16

abbrev pub out_at : ℕ → List Port → Option Output
out_at i ps = cond (nat_lt i 16) (out_of (port_at i ps)) None
