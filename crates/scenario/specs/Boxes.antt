-- The bridges in the boxes.
use Rattle.std.specs.Prelude.{◌≡◌, ℕ, ◌<◌, ◌≤◌, Bool, true, false, cond, ◌&&◌, List, length, Some, None, Option, ◌==◌, nat_lt, slice_index_or}
use Rattle.std.specs.List.{range_with_len, list_all}
use Rattle.wiring.specs.declared.boxes.Node.{Node}
use Rattle.wiring.specs.Boxes.{number_at}
use Rattle.ports.specs.Ports.{ports_of}
use Rattle.forwarding.specs.declared.bridge.Bridge.{Bridge}
use Rattle.forwarding.specs.State.{no_slot}
use Rattle.forwarding.specs.Holding.{state_of}
use Rattle.scenario.specs.Cables.{on_at, start_kind}
use Rattle.scenario.specs.Links.{at_port, relinked_all, LinksOf}
use Rattle.scenario.specs.Slots.{state_in, become, newest_in}
use Rattle.ports.specs.declared.port.Link.{Link}

-- the bridge in a box
abbrev pub slot_at : List (Option Bridge) → ℕ → Option Bridge
slot_at bs n = slice_index_or bs n None

-- the number of its newest tree
abbrev pub newest_at : List (Option Bridge) → ℕ → Option ℕ
newest_at bs n = cond (nat_lt n (length bs)) (newest_in (state_in (slot_at bs n))) None

-- a bridge that starts in a box that is on has its number, its access ports, and nothing else
abbrev pub Began : List Node → ℕ → Option Bridge → Type 0
Began ns n None = (on_at ns n && nat_lt (number_at ns n) 128) ≡ false
Began ns n (Some b) =
    (on_at ns n ≡ true) × (b.chassis.id.value ≡ number_at ns n) × ((p : ℕ) → p < 16 → ports_of b.chassis.ports p ≡ start_kind ns (at_port n p))
    × ((state_of b).newest ≡ no_slot) × ((state_of b).older ≡ no_slot)

-- a bridge, if there is one, is told of the links of its box
abbrev pub Told : List Node → ℕ → Option Bridge → Option Bridge → Type 0
Told ns n a b = (ls : List (Option Link)) × LinksOf ns n ls × (state_in b ≡ become (relinked_all 16 ls) (state_in a))

-- a box that is on has a bridge, the one that it had or one that starts, and it is told of its links
abbrev pub Prepared : List Node → ℕ → Option Bridge → Option Bridge → Type 0
Prepared ns n None b = (a : Option Bridge) × Began ns n a × Told ns n a b
Prepared ns n (Some a) b = Told ns n (Some a) b

-- the first k boxes are prepared, and the others stay as they were
pub record PreparedBelow (ns : List Node) (k : ℕ) (bs cs : List (Option Bridge)) : Type 0 where
  pub same_length : length cs ≡ length bs
  pub below : (n : ℕ) → n < k → n < length bs → Prepared ns n (slot_at bs n) (slot_at cs n)
  pub others : (n : ℕ) → k ≤ n → slot_at cs n ≡ slot_at bs n

-- memory ran out at one of the boxes: those before it are prepared
abbrev pub PartlyPrepared : List Node → List (Option Bridge) → List (Option Bridge) → Type 0
PartlyPrepared ns bs cs = (k : ℕ) × (k < 6) × PreparedBelow ns k bs cs

abbrev pub is_number : ℕ → Option ℕ → Bool
is_number q None = false
is_number q (Some k) = k == q

-- a box that is on has the tree with a number as its newest
abbrev pub holds_newest : List (Option Bridge) → List Node → ℕ → ℕ → Bool
holds_newest bs ns q n = cond (on_at ns n) (is_number q (newest_at bs n)) true

-- each of the first k boxes that is on has it
unfoldable pub all_hold : ℕ → List (Option Bridge) → List Node → ℕ → Bool
all_hold k bs ns q = list_all (holds_newest bs ns q) (range_with_len 0 k)
