-- Order, the budget of a tick, and messages first, over whatever happens at a port.
use Rattle.std.proofs.Common.{◌≡◌, ℕ, ◌<◌, ◌≤◌, List, [], ◌∷◌, ◌++◌, take, drop, Some, None, Option, sym, refl, ap, ◌∙◌, subst, arith}
use Rattle.std.proofs.lemmas.Bool.Decides.{nat_tests}
use Rattle.std.proofs.lemmas.List.{append_assoc, append-nil}
use Rattle.rows.specs.Events as row
use Rattle.rows.specs.Events.{History, history, happens, begin}
use Rattle.rows.proofs.Orders.{in_order}
use Rattle.pending.specs.Waits.{Message, next_of}
use Rattle.pending.proofs.Words.{none_left}
use Rattle.queues.specs.Port.{Port, Output, Says, Carries, idle, out_of, out_from, frame_out, without_out}
use Rattle.queues.specs.Runs.{Event, Comes, Tells, Leaves, Ticks, Clears, step, run, frames_come, frames_out, leaving, frames_leave, counted, count, in_tick, PortOrder, Within64, MessagesFirst}

-- what an output does to the row
row_out : Option Output → List row.Event
row_out None = []
row_out (Some (Says m)) = []
row_out (Some (Carries f)) = row.Leaves ∷ []

row_event : Event → Port → List row.Event
row_event (Comes f) p = row.Comes f ∷ []
row_event (Tells w) p = []
row_event Leaves p = row_out (out_of p)
row_event Ticks p = []
row_event Clears p = row.Clears ∷ []

row_events : List Event → Port → List row.Event
row_events [] p = []
row_events (e ∷ es) p = row_event e p ++ row_events es (step e p)

then : (xs ys : List row.Event) (h : History) → history (xs ++ ys) h ≡ history ys (history xs h)
unfolding history
then [] ys h = refl
then (x ∷ xs) ys h = then xs ys (happens x h)

-- a frame leaves only from the front
front : (fs : List (List ℕ)) (n : ℕ) (f : List ℕ) → frame_out fs n ≡ Some (Carries f) → (take 1 fs ≡ f ∷ []) × (n < 64)
front [] n f e = absurd (grind arith)
front (g ∷ gs) n f e = (grind (arith, nat_tests, e), grind (arith, nat_tests, e))

from : (o : Option Message) (p : Port) (f : List ℕ) → out_from o p ≡ Some (Carries f) → (o ≡ None) × (take 1 p.frames ≡ f ∷ []) × (p.sent < 64)
from (Some m) p f e = absurd (grind arith)
from None p f e = let h = front p.frames p.sent f e in (refl, h.0, h.1)

-- a row's history that has come as far as a port
record With (h : History) (p : Port) (left came : List (List ℕ)) : Type 0 where
  waits : h.waits ≡ p.frames
  gone : h.left ≡ left
  arrived : h.came ≡ came

out_with : (o : Option Output) (h : History) (p : Port) (left came : List (List ℕ)) → ((f : List ℕ) → o ≡ Some (Carries f) → take 1 p.frames ≡ f ∷ []) → With h p left came → With (history (row_out o) h) (without_out o p) (left ++ frames_out o) came
unfolding row_out history happens
out_with None h p left came is w = record { waits = w.waits; gone = w.gone ∙ sym (append-nil left); arrived = w.arrived }
out_with (Some (Says m)) h p left came is w = record { waits = w.waits; gone = w.gone ∙ sym (append-nil left); arrived = w.arrived }
out_with (Some (Carries f)) h p left came is w =
    let one : take 1 h.waits ≡ f ∷ [] = ap (take 1) w.waits ∙ is f refl in
    record { waits = ap (drop 1) w.waits; gone = ap (λ xs. xs ++ take 1 h.waits) w.gone ∙ ap (λ xs. left ++ xs) one; arrived = w.arrived }

arriving : Event → List (List ℕ)
arriving e = frames_come (e ∷ [])

step-with : (e : Event) (h : History) (p : Port) (left came : List (List ℕ)) → With h p left came → With (history (row_event e p) h) (step e p) (left ++ leaving e p) (came ++ arriving e)
unfolding row_event row_out history happens arriving
step-with (Comes f) h p left came w = record { waits = ap (row.after (row.Comes f)) w.waits; gone = w.gone ∙ sym (append-nil left); arrived = ap (λ xs. xs ++ f ∷ []) w.arrived }
step-with (Tells x) h p left came w = record { waits = w.waits; gone = w.gone ∙ sym (append-nil left); arrived = w.arrived ∙ sym (append-nil came) }
step-with Leaves h p left came w =
    let o = out_with (out_of p) h p left came (λ f e. (from (next_of p.control) p f e).1) w in
    record { waits = o.waits; gone = o.gone; arrived = o.arrived ∙ sym (append-nil came) }
step-with Ticks h p left came w = record { waits = w.waits; gone = w.gone ∙ sym (append-nil left); arrived = w.arrived ∙ sym (append-nil came) }
step-with Clears h p left came w = record { waits = refl; gone = w.gone ∙ sym (append-nil left); arrived = w.arrived ∙ sym (append-nil came) }

come_more : (e : Event) (es : List Event) → frames_come (e ∷ es) ≡ arriving e ++ frames_come es
unfolding arriving
come_more (Comes f) es = refl
come_more (Tells w) es = refl
come_more Leaves es = refl
come_more Ticks es = refl
come_more Clears es = refl

run-with : (es : List Event) (h : History) (p : Port) (left came : List (List ℕ)) → With h p left came → With (history (row_events es p) h) (run es p) (left ++ frames_leave es p) (came ++ frames_come es)
unfolding row_events history run frames_leave
run-with [] h p left came w = record { waits = w.waits; gone = w.gone ∙ sym (append-nil left); arrived = w.arrived ∙ sym (append-nil came) }
run-with (e ∷ es) h p left came w =
    let r = run-with es (history (row_event e p) h) (step e p) (left ++ leaving e p) (came ++ arriving e) (step-with e h p left came w) in
    let t = then (row_event e p) (row_events es (step e p)) h in
    record {
      waits = ap (λ (x : History). x.waits) t ∙ r.waits;
      gone = ap (λ (x : History). x.left) t ∙ r.gone ∙ append_assoc left (leaving e p) (frames_leave es (step e p));
      arrived = ap (λ (x : History). x.came) t ∙ r.arrived ∙ append_assoc came (arriving e) (frames_come es) ∙ ap (λ xs. came ++ xs) (sym (come_more e es));
    }

pub port_order : PortOrder
port_order es =
    let w = run-with es begin idle [] [] (record { waits = refl; gone = refl; arrived = refl }) in
    let a = in_order (row_events es idle) in
    subst (λ xs. row.Among (xs ++ (run es idle).frames) (frames_come es)) w.gone (subst (λ xs. row.Among ((history (row_events es idle) begin).left ++ xs) (frames_come es)) w.waits (subst (λ xs. row.Among ((history (row_events es idle) begin).left ++ (history (row_events es idle) begin).waits) xs) w.arrived a))

count-out : (o : Option Output) (p : Port) (n : ℕ) → ((f : List ℕ) → o ≡ Some (Carries f) → p.sent < 64) → n ≡ p.sent → p.sent ≤ 64 → (counted o n ≡ (without_out o p).sent) × ((without_out o p).sent ≤ 64)
count-out None p n is e h = (e, h)
count-out (Some (Says m)) p n is e h = (e, h)
count-out (Some (Carries f)) p n is e h = let less = is f refl in (omega arith, omega arith)

count-step : (e : Event) (p : Port) (n : ℕ) → n ≡ p.sent → p.sent ≤ 64 → (count e p n ≡ (step e p).sent) × ((step e p).sent ≤ 64)
count-step (Comes f) p n e h = (e, h)
count-step (Tells w) p n e h = (e, h)
count-step Leaves p n e h = count-out (out_of p) p n (λ f q. (from (next_of p.control) p f q).2) e h
count-step Ticks p n e h = (refl, omega arith)
count-step Clears p n e h = (e, h)

count-run : (es : List Event) (p : Port) (n : ℕ) → n ≡ p.sent → p.sent ≤ 64 → in_tick es p n ≤ 64
unfolding in_tick
count-run [] p n e h = omega arith
count-run (e ∷ es) p n q h = let s = count-step e p n q h in count-run es (step e p) (count e p n) s.0 s.1

pub within_64 : Within64
within_64 es = count-run es idle 0 refl (omega arith)

pub messages_first : MessagesFirst
messages_first p f e = none_left p.control (from (next_of p.control) p f e).0
