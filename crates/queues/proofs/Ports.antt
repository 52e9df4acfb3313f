-- One port changed among all, and each of them in turn.
use Rattle.std.proofs.Common.{◌≡◌, ℕ, ◌+◌, ◌<◌, ◌≤◌, Bool, true, false, cond, ltb, List, [], ◌∷◌, ◌++◌, map, length, get_or, take, drop, set, replicate, Some, None, Option, is_some, IfSome, MatchOption, Bor, sym, refl, ap, ◌∙◌, arith, lt-ltb}
use Rattle.std.proofs.lemmas.List.{take-append-le, set-get_or, map-set, get_or-map, take_all, drop_all, append-nil}
use Rattle.std.proofs.lemmas.List.Edits.{map_over_more}
use Rattle.std.proofs.lemmas.Bool.Decides.{nat_tests}
use Rattle.std.specs.List.{FoldsTo}
use Rattle.rows.specs.Events.{Comes, takes, after}
use Rattle.rows.specs.Row.{waiting}
use Rattle.rows.specs.declared.row.Row.{Row}
use Rattle.queues.specs.Port.{Port, port_of, idle, with_frame}
use Rattle.queues.specs.Ports.{changed, port_at, room_at}
use Rattle.queues.specs.declared.port.PortQueue.{PortQueue}

pub port_at_lem : (qs : List PortQueue) (i : ℕ) (q : PortQueue) → i < length qs → q ≡ get_or qs i q → port_at i (map port_of qs) ≡ port_of q
port_at_lem qs i q lt is = get_or-map port_of qs i q idle lt ∙ ap port_of (sym is)

pub port_set : (qs : List PortQueue) (i : ℕ) (q q' : PortQueue) (f : Port → Port) → i < length qs → q ≡ get_or qs i q → port_of q' ≡ f (port_of q) → map port_of (set qs i q') ≡ changed i f (map port_of qs)
port_set qs i q q' f lt is e = map-set port_of qs i q' ∙ ap (λ p. set (map port_of qs) i p) (e ∙ ap f (sym (port_at_lem qs i q lt is)))

pub port_same : (qs : List PortQueue) (i : ℕ) (q q' : PortQueue) → i < length qs → q ≡ get_or qs i q → port_of q' ≡ port_of q → map port_of (set qs i q') ≡ map port_of qs
port_same qs i q q' lt is e = port_set qs i q q' (λ p. p) lt is e ∙ set-get_or (map port_of qs) i idle

pub room_at_lem : (qs : List PortQueue) (i : ℕ) (q : PortQueue) → i < 16 → i < length qs → q ≡ get_or qs i q → ltb (length (port_of q).frames) 16 ≡ room_at i (map port_of qs)
room_at_lem qs i q small lt is = rw (lt-ltb i 16 small) (ap (λ p. ltb (length p.frames) 16) (sym (port_at_lem qs i q lt is)))

-- a loop over all ports
pub port_more : (f : Port → Port) (ps : List Port) (qs : List PortQueue) (i : ℕ) (q q' : PortQueue) → i < length qs → length ps ≡ length qs → q ≡ get_or qs i q → port_of q' ≡ f (port_of q)
    → map port_of qs ≡ map f (take i ps) ++ drop i ps → map port_of (set qs i q') ≡ map f (take (i + 1) ps) ++ drop (i + 1) ps
port_more f ps qs i q q' lt long is e so =
    let here : port_of q ≡ get_or (map port_of qs) i (port_of q) = sym (get_or-map port_of qs i q (port_of q) lt ∙ ap port_of (sym is)) in
    let within : i < length ps = omega arith in
    map-set port_of qs i q' ∙ ap (λ p. set (map port_of qs) i p) e ∙ map_over_more f ps (map port_of qs) i (port_of q) within so here

pub port_all : (f : Port → Port) (ps : List Port) (xs rest : List PortQueue) (i n : ℕ) → length ps ≤ i → length xs ≡ n → map port_of xs ≡ map f (take i ps) ++ drop i ps → map port_of (take n (xs ++ rest)) ≡ map f ps
port_all f ps xs rest i n all long so =
    let front : take n (xs ++ rest) ≡ xs = rw (take-append-le n xs rest (omega arith)) (take_all n xs (omega arith)) in
    ap (map port_of) front ∙ so ∙ rw (take_all i ps all, drop_all i ps all) (append-nil (map f ps))

-- ports that are each made idle
idle_each : {F : Type 0} (step : F → PortQueue → F → Type 0) → ((p : F) (x : PortQueue) (q : F) → step p x q → port_of x ≡ idle) → (p q : F) (xs : List PortQueue) → FoldsTo step p xs q → map port_of xs ≡ replicate (length xs) idle
idle_each step each p q [] steps = refl
idle_each step each p q (x ∷ xs) steps = rw (each p x steps.0 steps.1, idle_each step each steps.0 q xs steps.2) refl

pub idle_all : {F : Type 0} (step : F → PortQueue → F → Type 0) (p q : F) (zs xs ys : List PortQueue) (n : ℕ) → FoldsTo step p xs q → zs ≡ [] → ys ≡ take n zs ++ xs → length ys ≡ n → ((p : F) (x : PortQueue) (q : F) → step p x q → port_of x ≡ idle) → map port_of ys ≡ replicate n idle
idle_all step p q zs xs ys n steps none is long each =
    let same : ys ≡ xs = is ∙ ap (λ ws. take n ws ++ xs) none ∙ ap (λ ws. ws ++ xs) (take_all n [] (omega arith)) in
    ap (map port_of) same ∙ idle_each step each p q xs steps ∙ ap (λ k. replicate k idle) (ap length (sym same) ∙ long)

-- a frame came to one port, and was taken or not
pub port_came : (ok : Bool) (qs : List PortQueue) (i : ℕ) (q : PortQueue) (r : Row) (f : List ℕ) → i < length qs → q ≡ get_or qs i q → waiting r ≡ after (Comes f) (waiting q.row) → ok ≡ takes f (waiting q.row)
    → map port_of (set qs i (record q { row = r })) ≡ cond ok (changed i (with_frame f) (map port_of qs)) (map port_of qs)
port_came true qs i q r f lt is e t =
    port_set qs i q _ (with_frame f) lt is (ap (λ v. record { control = (port_of q).control; frames = v; sent = (port_of q).sent }) (e ∙ ap (λ b. cond b (waiting q.row ++ f ∷ []) (waiting q.row)) (sym t)))
port_came false qs i q r f lt is e t =
    port_same qs i q _ lt is (ap (λ v. record { control = (port_of q).control; frames = v; sent = (port_of q).sent }) (e ∙ ap (λ b. cond b (waiting q.row ++ f ∷ []) (waiting q.row)) (sym t)))

-- the port that a look-up finds
pub port_found : (r : Option (Bor PortQueue)) (xs qs : List PortQueue) (i : ℕ) → xs ≡ qs → length qs ≡ 16 → is_some r ≡ ltb i (length xs) → IfSome r (λ x. x.now ≡ get_or xs i x.now) → MatchOption r (16 ≤ i) (λ x. (i < 16) × (port_of x.now ≡ port_at i (map port_of qs)))
port_found None xs qs i e all none item = let n = ap length e in grind (arith, nat_tests)
port_found (Some x) xs qs i e all some item =
    let n = ap length e in
    let lt : i < length qs = grind (arith, nat_tests) in
    (omega arith, sym (port_at_lem qs i x.now lt (item ∙ ap (λ ys. get_or ys i x.now) e)))
