-- Packets that are to be lost, by box and port.
use Rattle.std.specs.Prelude.{ℕ, cond, List, [], nat_lt, slice_index, slice_index_or, slice_set}
use Rattle.scan.specs.declared.parts.PortRef.{PortRef}

-- how many of the next packets that leave by a port are lost
abbrev pub left_at : List (List ℕ) → PortRef → ℕ
left_at rows p = cond (nat_lt p.node 6) (cond (nat_lt p.port 16) (slice_index (slice_index_or rows p.node []) p.port) 0) 0

abbrev pub with_left : List (List ℕ) → PortRef → ℕ → List (List ℕ)
with_left rows p n = cond (nat_lt p.node 6) (cond (nat_lt p.port 16) (slice_set rows p.node (slice_set (slice_index_or rows p.node []) p.port n)) rows) rows
