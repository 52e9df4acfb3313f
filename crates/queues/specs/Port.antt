-- What waits at a port, what leaves next, and what then waits.
use Rattle.std.specs.Prelude.{ℕ, ◌+◌, cond, List, [], ◌∷◌, ◌++◌, drop, Some, None, Option, nat_lt}
use Rattle.rows.specs.Row.{waiting}
use Rattle.rows.specs.Budget.{sent_of}
use Rattle.pending.specs.Waits.{Waits, Message, nothing, waits, next_of, without}
use Rattle.queues.specs.declared.port.PortQueue.{PortQueue}

pub record Port : Type 0 where
  pub control : Waits
  pub frames : List (List ℕ)
  pub sent : ℕ

abbrev pub port_of : PortQueue → Port
port_of q = record { control = waits q.pending; frames = waiting q.row; sent = sent_of q.budget }

abbrev pub idle : Port
idle = record { control = nothing; frames = []; sent = 0 }

pub data Output : Type 0 where
  Says : Message → Output
  Carries : List ℕ → Output

abbrev pub message_in : Option Output → Option Message
message_in None = None
message_in (Some (Says m)) = Some m
message_in (Some (Carries f)) = None

abbrev pub frame_in : Option Output → Option (List ℕ)
frame_in None = None
frame_in (Some (Says m)) = None
frame_in (Some (Carries f)) = Some f

-- a frame leaves only where no message waits, and if fewer than 64 left in this tick
abbrev pub frame_out : List (List ℕ) → ℕ → Option Output
frame_out [] n = None
frame_out (f ∷ fs) n = cond (nat_lt n 64) (Some (Carries f)) None

abbrev pub out_from : Option Message → Port → Option Output
out_from (Some m) p = Some (Says m)
out_from None p = frame_out p.frames p.sent

abbrev pub out_of : Port → Option Output
out_of p = out_from (next_of p.control) p

-- what waits once that has left
abbrev pub without_out : Option Output → Port → Port
without_out None p = p
without_out (Some (Says m)) p = record p { control = without m p.control }
without_out (Some (Carries f)) p = record p { frames = drop 1 p.frames; sent = p.sent + 1 }

abbrev pub after_out : Port → Port
after_out p = without_out (out_of p) p

-- a frame waits behind the others
abbrev pub with_frame : List ℕ → Port → Port
with_frame f p = record p { frames = p.frames ++ f ∷ [] }

abbrev pub with_control : Waits → Port → Port
with_control w p = record p { control = w }

-- a tick passed
abbrev pub refilled : Port → Port
refilled p = record p { sent = 0 }

-- a hold-down began
abbrev pub emptied : Port → Port
emptied p = record p { frames = [] }
