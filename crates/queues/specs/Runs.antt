-- Everything that can happen at a port, and what it comes to.
use Rattle.std.specs.Prelude.{◌≡◌, ℕ, ◌+◌, ◌<◌, ◌≤◌, List, [], ◌∷◌, ◌++◌, Some, None, Option}
use Rattle.rows.specs.Events as row
use Rattle.pending.specs.Waits.{Waits}
use Rattle.pending.specs.Words.{at}
use Rattle.queues.specs.Port.{Port, Output, Says, Carries, idle, out_of, after_out, with_control, refilled, emptied}

-- a frame comes; the messages that wait become others; something leaves; a tick passes; a hold-down begins
pub data Event : Type 0 where
  Comes : List ℕ → Event
  Tells : Waits → Event
  Leaves : Event
  Ticks : Event
  Clears : Event

abbrev pub step : Event → Port → Port
step (Comes f) p = record p { frames = row.after (row.Comes f) p.frames }
step (Tells w) p = with_control w p
step Leaves p = after_out p
step Ticks p = refilled p
step Clears p = emptied p

unfoldable pub run : List Event → Port → Port
run [] p = p
run (e ∷ es) p = run es (step e p)

abbrev pub frames_come : List Event → List (List ℕ)
frames_come [] = []
frames_come (Comes f ∷ es) = f ∷ frames_come es
frames_come (Tells w ∷ es) = frames_come es
frames_come (Leaves ∷ es) = frames_come es
frames_come (Ticks ∷ es) = frames_come es
frames_come (Clears ∷ es) = frames_come es

-- the frame, if what leaves is one
abbrev pub frames_out : Option Output → List (List ℕ)
frames_out None = []
frames_out (Some (Says m)) = []
frames_out (Some (Carries f)) = f ∷ []

abbrev pub leaving : Event → Port → List (List ℕ)
leaving (Comes f) p = []
leaving (Tells w) p = []
leaving Leaves p = frames_out (out_of p)
leaving Ticks p = []
leaving Clears p = []

-- the frames that leave in a run, in the order in which they do
unfoldable pub frames_leave : List Event → Port → List (List ℕ)
frames_leave [] p = []
frames_leave (e ∷ es) p = leaving e p ++ frames_leave es (step e p)

-- how many frames left since the last tick, n before the run
abbrev pub counted : Option Output → ℕ → ℕ
counted None n = n
counted (Some (Says m)) n = n
counted (Some (Carries f)) n = n + 1

abbrev pub count : Event → Port → ℕ → ℕ
count (Comes f) p n = n
count (Tells w) p n = n
count Leaves p n = counted (out_of p) n
count Ticks p n = 0
count Clears p n = n

unfoldable pub in_tick : List Event → Port → ℕ → ℕ
in_tick [] p n = n
in_tick (e ∷ es) p n = in_tick es (step e p) (count e p n)

-- Frames leave by a port in the order in which they came to it, none of them twice, whatever messages come between.
abbrev pub PortOrder : Type 0
PortOrder = (es : List Event) → row.Among (frames_leave es idle ++ (run es idle).frames) (frames_come es)

-- Never more than 64 frames leave by a port in one tick.
abbrev pub Within64 : Type 0
Within64 = (es : List Event) → in_tick es idle 0 ≤ 64

-- A frame leaves only while no message waits.
abbrev pub MessagesFirst : Type 0
MessagesFirst = (p : Port) (f : List ℕ) → out_of p ≡ Some (Carries f) → (k b : ℕ) → b < 128 → at p.control k b ≡ None
