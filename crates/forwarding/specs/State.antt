-- What a bridge holds and has learnt, and what each thing that happens to it makes of that. Assumes nothing.
use Rattle.std.specs.Prelude.{ℕ, Bool, true, false, cond, List, Some, None, Option, ◌==◌, slice_set}
use Rattle.trees.specs.Tree.{Tree}
use Rattle.bridges.specs.Net.{Found, NoTree, This}
use Rattle.fdb.specs.declared.entry.Location.{Location}
use Rattle.fdb.specs.Entries as entries
use Rattle.fdb.specs.Contents.{Contents, empty, learned, next, aged}
use Rattle.ports.specs.declared.port.Port.{Port}
use Rattle.ports.specs.declared.port.Port.TheVariants.{Unused, Access, Trunk}
use Rattle.ports.specs.declared.port.Link.{Link}
use Rattle.ports.specs.Ports.{Kind}
use Rattle.ports.specs.Places.{Place, place_of, Came}
use Rattle.ports.specs.Outward.{out_by}

-- a place for a tree: the tree, and what was learnt along it
pub record Slot : Type 0 where
  pub tree : Found
  pub table : Contents

-- a bridge: its number, its ports, and the two trees that it adopted last
pub record State : Type 0 where
  pub number : ℕ
  pub ports : List Port
  pub newest : Slot
  pub older : Slot

abbrev pub no_slot : Slot
no_slot = record { tree = NoTree; table = empty }

-- is it the tree with that number
abbrev pub is_tree : ℕ → Found → Bool
is_tree n NoTree = false
is_tree n (This t) = t.number == n

-- where a station is along the tree of a slot, as far as is known
abbrev pub look_in : Slot → ℕ → Place
look_in slot q = place_of (entries.place_of slot.table.entries q)

-- it starts with nothing: no tree, and nothing learnt
abbrev pub started : ℕ → List Port → State
started number ports = record { number = number; ports = ports; newest = no_slot; older = no_slot }

-- it adopts a tree: the one that was its newest is then the older, and the older goes, with all that was learnt along it; the newest again changes nothing
abbrev pub adopted : Tree → State → State
adopted t s = cond (is_tree t.number s.newest.tree) s
    (record { number = s.number; ports = s.ports; newest = record { tree = This t; table = empty }; older = s.newest })

-- what was not heard of for long is forgotten, along both trees
abbrev pub aged_slot : ℕ → Slot → Slot
aged_slot tick slot = record { tree = slot.tree; table = aged tick slot.table }

abbrev pub aged_state : ℕ → State → State
aged_state tick s = record { number = s.number; ports = s.ports; newest = aged_slot tick s.newest; older = aged_slot tick s.older }

-- it falls, and starts again with nothing but its number and its ports
abbrev pub crashed : State → State
crashed s = started s.number s.ports

-- a link by a port is believed to be up, or down, or gone
abbrev pub link_port : Option Link → Port
link_port None = Unused
link_port (Some l) = Trunk l

abbrev pub is_access : Port → Bool
is_access Unused = false
is_access (Access v) = true
is_access (Trunk l) = false

abbrev pub linked : ℕ → Option Link → State → State
linked p link s = record { number = s.number; ports = slice_set s.ports p (link_port link); newest = s.newest; older = s.older }

-- a frame from a station to another came along the tree of a slot: the sender is learnt, and never in the place of the one that the frame is for
abbrev pub heard_in : Location → ℕ → ℕ → ℕ → Slot → Slot
heard_in at from to tick slot = record {
  tree = slot.tree;
  table = record {
    entries = learned (record { station = from; location = at; tick = tick; order = slot.table.heard }) to slot.table.entries;
    heard = next slot.table.heard;
  };
}

-- by which ports it then goes out
abbrev pub goes_out : (ℕ → Kind) → ℕ → Found → ℕ → Came → Place → ℕ → Bool
goes_out port me NoTree vlan came k p = false
goes_out port me (This t) vlan came k p = out_by port me t vlan came k p
