-- By which ports a frame goes out, along a tree. Assumes nothing.
use Rattle.std.specs.Prelude.{ℕ, Bool, false, ◌&&◌, ◌||◌, ◌==◌}
use Rattle.trees.specs.Tree.{Tree, joined}
use Rattle.ports.specs.Ports.{Kind, Idle, ToStations, ToBridge, onward}
use Rattle.ports.specs.Places.{Place, Nowhere, AtPort, Toward, Came, not_by_port, not_to_bridge}

-- may a port have frames of a VLAN: it leads to stations of that VLAN
abbrev pub serves : Kind → ℕ → Bool
serves Idle v = false
serves (ToStations u) v = u == v
serves (ToBridge c up) v = false

-- does it go to the stations behind a port: those of its VLAN, and not back
abbrev pub to_stations : (ℕ → Kind) → ℕ → Came → ℕ → Bool
to_stations port vlan came p = serves (port p) vlan && not_by_port came p

-- may it go on to a neighbour: joined in the tree, and not back
abbrev pub may_go_to : ℕ → Tree → Came → ℕ → Bool
may_go_to me t came c = joined t me c && not_to_bridge came c

-- a frame of a VLAN that came to bridge `me` along a tree goes out by port p: to a station of which nothing is known, by all access ports of the VLAN and on to all neighbours in the tree; to one that is here, by its port alone; to one behind a
-- neighbour, on to that one alone; and never back
abbrev pub out_by : (ℕ → Kind) → ℕ → Tree → ℕ → Came → Place → ℕ → Bool
out_by port me t vlan came Nowhere p = to_stations port vlan came p || onward (may_go_to me t came) port p
out_by port me t vlan came (AtPort q) p = q == p && to_stations port vlan came p
out_by port me t vlan came (Toward d) p = onward (λ c. (d == c) && may_go_to me t came c) port p
