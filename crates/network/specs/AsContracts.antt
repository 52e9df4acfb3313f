-- That a bridge of the net does with a frame what the contracts of the code say that it does. Assumes nothing.
use Rattle.std.specs.Prelude.{◌≡◌, ℕ, ◌^◌, ◌<◌, Bool, true, false, List, length, Result, slice_index}
use Rattle.fdb.specs.Address.{group_address, station_number}
use Rattle.forwarding.specs.declared.fault.Fault.{Fault}
use Rattle.ports.specs.Ports.{ports_of}
use Rattle.ports.specs.Places.{ByPort, ByBridge}
use Rattle.ports.specs.Outward.{serves}
use Rattle.forwarding.specs.State.{State}
use Rattle.forwarding.specs.Replies.{Newest, none, after, Answers, FromStation, FromNeighbour}
use Rattle.network.specs.Network.{vlan_of, locate, track_of}

-- a station's frame, by a port that leads to its VLAN, at a bridge that has a tree: the bridge learns the sender and answers by its newest tree, as the net's step `sends` has it
abbrev pub SendsAsContract : Type 0
SendsAsContract =
    (s s' : State) (port q d tick : ℕ) (from to : List ℕ) (r : Result (List Bool) Fault) → length s.ports ≡ 16 → group_address from ≡ false →
    serves (ports_of s.ports port) (vlan_of q) ≡ true → station_number from (vlan_of q) ≡ q → station_number to (vlan_of q) ≡ d → none s.newest.tree ≡ false →
    FromStation s port from to tick s' r → (s' ≡ after Newest (locate (ByPort port)) q d tick s) × Answers Newest s' (vlan_of q) (ByPort port) d r

-- a frame for this bridge from a neighbour: the bridge does as the net's step `comes` has it, along the tree that the frame names, or refuses it
abbrev pub ComesAsContract : Type 0
ComesAsContract =
    (s s' : State) (by tree q d tick : ℕ) (from to : List ℕ) (r : Result (List Bool) Fault) → group_address from ≡ false → station_number from (vlan_of q) ≡ q →
    station_number to (vlan_of q) ≡ d → FromNeighbour s by s.number tree (vlan_of q) from to tick s' r →
    (s' ≡ after (track_of s tree) (locate (ByBridge by)) q d tick s) × Answers (track_of s tree) s' (vlan_of q) (ByBridge by) d r

-- every station has a number of the net, and the number has its VLAN
abbrev pub StationsHaveNumbers : Type 0
StationsHaveNumbers =
    (a : List ℕ) (v : ℕ) → ((i : ℕ) → i < 6 → slice_index a i < 256) → v < 4096 → (station_number a v < 2 ^ 60) × (vlan_of (station_number a v) ≡ v)

pub record AsContracts : Type 0 where
  pub sends_so : SendsAsContract
  pub comes_so : ComesAsContract
  pub stations_so : StationsHaveNumbers
