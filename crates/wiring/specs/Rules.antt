-- What a script may do to boxes, ports and cables.
use Rattle.std.specs.Prelude.{◌≡◌, ℕ, Bool, true, false, cond, ◌&&◌, List, Ok, Err, Result, ◌==◌, nat_lt}
use Rattle.scan.specs.declared.parts.PortRef.{PortRef}
use Rattle.script.specs.declared.faults.Expected.{Expected}
use Rattle.script.specs.declared.faults.Expected.TheVariants as expected
use Rattle.script.specs.Grammar.{thus}
use Rattle.wiring.specs.declared.boxes.Power.{Power}
use Rattle.wiring.specs.declared.boxes.Power.TheVariants as power
use Rattle.wiring.specs.declared.boxes.Port.{Port}
use Rattle.wiring.specs.declared.boxes.Port.TheVariants as port
use Rattle.wiring.specs.declared.boxes.Node.{Node}
use Rattle.wiring.specs.Boxes.{power_at, port_at, with_port, with_power, with_box}

-- x is what was to come: the new value, or a refusal that changes nothing
abbrev pub Did : {X : Type 0} → Result X Expected → Result (Unit {0}) Expected → X → X → Type 0
Did x (Ok _) before after = x ≡ Ok after
Did x (Err e) before after = (x ≡ Err e) × (after ≡ before)

abbrev pub same_port : PortRef → PortRef → Bool
same_port p q = p.node == q.node && p.port == q.port

-- a port that is there
abbrev pub want_there : Port → Result (Unit {0}) Expected
want_there port.Absent = Err expected.PortThere
want_there port.Free = Ok tt
want_there (port.Access v) = Ok tt
want_there (port.Cabled q) = Ok tt

-- a box that is there
abbrev pub want_box : Power → Result (Unit {0}) Expected
want_box power.Absent = Err expected.BoxThere
want_box power.On = Ok tt
want_box power.Off = Ok tt

-- a port that is free
abbrev pub want_free : Port → Result (Unit {0}) Expected
want_free port.Absent = Err expected.PortThere
want_free port.Free = Ok tt
want_free (port.Access v) = Err expected.FreePort
want_free (port.Cabled q) = Err expected.FreePort

-- an access port
abbrev pub want_access : Port → Result (Unit {0}) Expected
want_access port.Absent = Err expected.PortThere
want_access port.Free = Err expected.AccessPort
want_access (port.Access v) = Ok tt
want_access (port.Cabled q) = Err expected.AccessPort

abbrev pub cabled_to : Port → PortRef → Bool
cabled_to port.Absent q = false
cabled_to port.Free q = false
cabled_to (port.Access v) q = false
cabled_to (port.Cabled p) q = same_port p q

abbrev pub if_absent : Power → Result (List Node) Expected → Result (List Node) Expected
if_absent power.Absent x = x
if_absent power.On x = Err expected.NewBox
if_absent power.Off x = Err expected.NewBox

abbrev pub box_added : List Node → ℕ → ℕ → ℕ → Result (List Node) Expected
box_added ns n ports k = cond (nat_lt 5 n) (Err expected.BoxNumber) (if_absent (power_at ns n) (Ok (with_box ns n ports k)))

abbrev pub access_set : List Node → PortRef → ℕ → Result (List Node) Expected
access_set ns p v = thus (want_free (port_at ns p)) (λ _. Ok (with_port ns p (port.Access v)))

abbrev pub cabled : List Node → PortRef → PortRef → Result (List Node) Expected
cabled ns p q =
    thus (want_free (port_at ns p)) (λ _. thus (want_free (port_at ns q)) (λ _.
    cond (same_port p q) (Err expected.FreePort) (Ok (with_port (with_port ns p (port.Cabled q)) q (port.Cabled p)))))

abbrev pub pulled : List Node → PortRef → PortRef → Result (List Node) Expected
pulled ns p q =
    thus (want_there (port_at ns p)) (λ _. thus (want_there (port_at ns q)) (λ _.
    cond (cabled_to (port_at ns p) q) (Ok (with_port (with_port ns p port.Free) q port.Free)) (Err expected.CableThere)))

abbrev pub is_same : Power → Power → Bool
is_same power.Absent power.Absent = true
is_same power.On power.On = true
is_same power.Off power.Off = true
is_same _ _ = false

-- a box that is there is switched over, unless it stands so already
abbrev pub turned : List Node → ℕ → Power → Expected → Result (List Node) Expected
turned ns n to already =
    thus (want_box (power_at ns n)) (λ _. cond (is_same (power_at ns n) to) (Err already) (Ok (with_power ns n to)))

abbrev pub fallen : List Node → ℕ → Result (List Node) Expected
fallen ns n = turned ns n power.Off expected.BoxOn

abbrev pub started : List Node → ℕ → Result (List Node) Expected
started ns n = turned ns n power.On expected.BoxOff
