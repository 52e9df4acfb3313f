-- Stations with their names, addresses and ports.
use Rattle.std.specs.Prelude.{ℕ, Bool, cond, not, List, [], ◌∷◌, ◌++◌, map, length, take, codes, Ok, Err, vec_items, Result, Vec, nat_lt, slice_index_or, slice_set}
use Rattle.std.specs.declared.alloc.Global.{Global}
use Rattle.std.specs.List.{prefix_len}
use Rattle.std.specs.Str.{bytes_eq, is_utf8}
use Rattle.scan.specs.declared.parts.PortRef.{PortRef}
use Rattle.script.specs.declared.faults.Expected.{Expected}
use Rattle.script.specs.declared.faults.Expected.TheVariants as expected
use Rattle.script.specs.Grammar.{thus}
use Rattle.wiring.specs.declared.boxes.Node.{Node}
use Rattle.wiring.specs.Boxes.{port_at}
use Rattle.wiring.specs.Rules.{want_access}
use Rattle.layout.specs.declared.names.Name.{Name}
use Rattle.layout.specs.declared.stations.Station.{Station}

pub record Placed : Type 0 where
  pub name : List ℕ
  pub address : List ℕ
  pub port : PortRef

-- the bytes of a name
abbrev pub text_of : Name → List ℕ
text_of n = take n.len n.bytes

-- a name as it is printed
abbrev pub shown : Name → List ℕ
shown n = cond (is_utf8 (text_of n)) (text_of n) (codes "?")

-- a station of the code
abbrev pub placed : Station → Placed
placed s = record { name = text_of s.name; address = s.address; port = s.port }

-- the place of the first station with a name, or how many there are
unfoldable pub name_index : List ℕ → List Placed → ℕ
name_index n ss = prefix_len (λ s. not (bytes_eq s.name n)) ss

-- the place of the first station with an address, or how many there are
unfoldable pub address_index : List ℕ → List Placed → ℕ
address_index a ss = prefix_len (λ s. not (bytes_eq s.address a)) ss

abbrev pub has_name : List ℕ → List Placed → Bool
has_name n ss = nat_lt (name_index n ss) (length ss)

abbrev pub has_address : List ℕ → List Placed → Bool
has_address a ss = nat_lt (address_index a ss) (length ss)

-- a station whose name is not too long and that has a name and an address of its own is put at an access port, if there are not 32 yet
abbrev pub station_added : List Node → List Placed → List ℕ → List ℕ → PortRef → Result (List Placed) Expected
station_added ns ss n a p =
    cond (nat_lt 16 (length n)) (Err expected.Name)
    (cond (has_name n ss) (Err expected.NewName)
    (cond (has_address a ss) (Err expected.NewAddress)
    (thus (want_access (port_at ns p)) (λ _.
    cond (nat_lt (length ss) 32) (Ok (ss ++ record { name = n; address = a; port = p } ∷ [])) (Err expected.StationRoom)))))

abbrev pub no_station : Placed
no_station = record { name = []; address = []; port = record { node = 0; port = 0 } }

-- a station at another port
abbrev pub put_at : Placed → PortRef → Placed
put_at s p = record { name = s.name; address = s.address; port = p }

-- a station that is there is put at another access port
abbrev pub station_moved : List Node → List Placed → List ℕ → PortRef → Result (List Placed) Expected
station_moved ns ss n p =
    cond (has_name n ss)
    (thus (want_access (port_at ns p)) (λ _. Ok (slice_set ss (name_index n ss) (put_at (slice_index_or ss (name_index n ss) no_station) p))))
    (Err expected.StationThere)

-- a name that a station has
abbrev pub want_station : List ℕ → List Placed → Result (Unit {0}) Expected
want_station n ss = cond (has_name n ss) (Ok tt) (Err expected.StationThere)

-- the stations in a list of the code
abbrev pub placed_in : Vec Station Global → List Placed
placed_in v = map placed (vec_items v)
