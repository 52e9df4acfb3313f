-- That a bridge of the net does with a frame what the contracts of the code say that it does.
use Rattle.std.proofs.Common.{◌≡◌, ℕ, ◌<◌, true, false, eqb, List, length, get_or, refl, subst, arith}
use native.Mathlib.Decide.{dec_lt}
use Rattle.std.proofs.lemmas.Bool.Decides.{nat_tests}
use Rattle.std.proofs.lemmas.Bool.{eq-eqb, lt-ltb}
use Rattle.std.proofs.lemmas.List.{get_or_past}
use Rattle.fdb.specs.Address.{group_address, address_number, station_number}
use Rattle.ports.specs.declared.port.Port.{Port}
use Rattle.ports.specs.declared.port.Port.TheVariants.{Unused, Access, Trunk}
use Rattle.ports.specs.Ports.{kind_of, ports_of}
use Rattle.ports.specs.Places.{ByPort, ByBridge}
use Rattle.ports.specs.Outward.{serves}
use Rattle.forwarding.specs.State.{State}
use Rattle.forwarding.specs.Replies.{Newest, none, vlan_at, station_way, neighbour_way, after, Answers}
use Rattle.network.specs.Network.{vlan_of, locate, track_of}
use Rattle.network.specs.AsContracts.{SendsAsContract, ComesAsContract, StationsHaveNumbers, AsContracts}

-- a port that serves a VLAN is one of it, and no other
serves-vlan : (k : Port) (v : ℕ) → serves (kind_of k) v ≡ true → (vlan_at (kind_of k) ≡ v) × (eqb (vlan_at (kind_of k)) 0 ≡ false)
serves-vlan Unused v h = absurd (grind arith)
serves-vlan (Access u) v h = let o = u.ok in (grind (arith, nat_tests), grind (arith, nat_tests))
serves-vlan (Trunk l) v h = absurd (grind arith)

serves-inside : (ports : List Port) (p v : ℕ) → serves (ports_of ports p) v ≡ true → p < length ports
serves-inside ports p v h = elim (dec_lt p (length ports)) [
  | yes lt ↦ lt
  | no ge ↦ absurd (let e : get_or ports p Unused ≡ Unused = get_or_past ports p Unused (omega arith) in let z : serves (kind_of Unused) v ≡ true = subst (λ k. serves (kind_of k) v ≡ true) e h in grind arith)
]

station_way_lem : (s : State) (port v : ℕ) (from : List ℕ) → length s.ports ≡ 16 → group_address from ≡ false → serves (ports_of s.ports port) v ≡ true → none s.newest.tree ≡ false → station_way s port from ≡ Newest
station_way_lem s port v from l g h n =
    let lt : port < 16 = subst (λ m. port < m) l (serves-inside s.ports port v h) in rw (g, lt-ltb port 16 lt, (serves-vlan (get_or s.ports port Unused) v h).1, n)

sends_as_contract : SendsAsContract
sends_as_contract s s' port q d tick from to r l g h f e n c =
    subst (λ u. (s' ≡ after Newest (locate (ByPort port)) u d tick s) × Answers Newest s' (vlan_of q) (ByPort port) d r) f
    (subst (λ u. (s' ≡ after Newest (locate (ByPort port)) (station_number from (vlan_of q)) u tick s) × Answers Newest s' (vlan_of q) (ByPort port) u r) e
    (subst (λ v. (s' ≡ after Newest (locate (ByPort port)) (station_number from v) (station_number to v) tick s) × Answers Newest s' v (ByPort port) (station_number to v) r)
    (serves-vlan (get_or s.ports port Unused) (vlan_of q) h).0
    (subst (λ w. (s' ≡ after w (locate (ByPort port)) (station_number from (vlan_at (ports_of s.ports port))) (station_number to (vlan_at (ports_of s.ports port))) tick s) × Answers w s' (vlan_at (ports_of s.ports port)) (ByPort port) (station_number to (vlan_at (ports_of s.ports port))) r)
    (station_way_lem s port (vlan_of q) from l g h n) (c.after_it, c.answer))))

neighbour_way_lem : (s : State) (tree : ℕ) (from : List ℕ) → group_address from ≡ false → neighbour_way s s.number tree from ≡ track_of s tree
neighbour_way_lem s tree from g = rw (g, eq-eqb s.number s.number refl)

comes_as_contract : ComesAsContract
comes_as_contract s s' by tree q d tick from to r g f e c =
    subst (λ u. (s' ≡ after (track_of s tree) (locate (ByBridge by)) u d tick s) × Answers (track_of s tree) s' (vlan_of q) (ByBridge by) d r) f
    (subst (λ u. (s' ≡ after (track_of s tree) (locate (ByBridge by)) (station_number from (vlan_of q)) u tick s) × Answers (track_of s tree) s' (vlan_of q) (ByBridge by) u r) e
    (subst (λ w. (s' ≡ after w (locate (ByBridge by)) (station_number from (vlan_of q)) (station_number to (vlan_of q)) tick s) × Answers w s' (vlan_of q) (ByBridge by) (station_number to (vlan_of q)) r)
    (neighbour_way_lem s tree from g) (c.after_it, c.answer)))

stations_have_numbers : StationsHaveNumbers
unfolding address_number
stations_have_numbers a v h l =
    let h0 = h 0 (omega arith) in let h1 = h 1 (omega arith) in let h2 = h 2 (omega arith) in let h3 = h 3 (omega arith) in let h4 = h 4 (omega arith) in let h5 = h 5 (omega arith) in
    (omega arith, omega arith)

pub as_contracts : AsContracts
as_contracts = record { sends_so = sends_as_contract; comes_so = comes_as_contract; stations_so = stations_have_numbers }
