-- Whether the boxes that are on hang together along a tree.
use Rattle.std.specs.Prelude.{ℕ, Bool, true, cond, ◌&&◌, ◌||◌, List, count_by, ◌==◌, nat_lt}
use Rattle.std.specs.List.{range_with_len, list_any, list_all}
use Rattle.wiring.specs.declared.boxes.Node.{Node}
use Rattle.wiring.specs.Boxes.{number_at}
use Rattle.trees.specs.Tree.{Tree}
use Rattle.ports.specs.Ports.{leads_to}
use Rattle.scenario.specs.Cables.{on_at, link_kind}
use Rattle.scenario.specs.Links.{at_port}

-- one of the first k ports of a box leads to a bridge by a link that is up
unfoldable pub linked : ℕ → List Node → ℕ → ℕ → Bool
linked k ns n c = list_any (λ p. leads_to (link_kind ns (at_port n p)) c) (range_with_len 0 k)

-- the number of the bridge above the one in a box
abbrev pub above_in : List Node → Tree → ℕ → ℕ
above_in ns t n = cond (nat_lt (number_at ns n) 128) (t.above (number_at ns n)) (number_at ns n)

-- a box that is on is at a top, or linked to the bridge above it
abbrev pub hangs : List Node → Tree → ℕ → Bool
hangs ns t n = cond (on_at ns n) (above_in ns t n == number_at ns n || linked 16 ns n (above_in ns t n)) true

-- a box is on and at a top
abbrev pub is_top : List Node → Tree → ℕ → Bool
is_top ns t n = on_at ns n && above_in ns t n == number_at ns n

-- each of the first k boxes hangs
unfoldable pub all_hang : ℕ → List Node → Tree → Bool
all_hang k ns t = list_all (hangs ns t) (range_with_len 0 k)

-- how many of the first k boxes are on and at a top
unfoldable pub tops : ℕ → List Node → Tree → ℕ
tops k ns t = count_by (is_top ns t) (range_with_len 0 k)

-- all that are on hang from one top, by links that are up
abbrev pub rests_along : List Node → Tree → Bool
rests_along ns t = all_hang 6 ns t && tops 6 ns t == 1
