use Rattle.std.proofs.Common.{◌≡◌, ℕ, ◌+◌, ◌-◌, ◌*◌, List, [], map, get_or, ap, ◌∙◌, arith}
use Rattle.std.specs.List.{range_with_len}
use Rattle.std.proofs.lemmas.List.FromFn.{get_or-map-range_with_len}
use Rattle.crc.specs.Crc.{after, shifted}
use Rattle.crc.proofs.tables.by.Goals as goal

-- a table's values, by computation the numbers that stand in the code
abbrev table : ℕ → List ℕ
table k = map (after (8 * (k + 1))) (range_with_len 0 256)

pub returns : goal.returns
unfolding after shifted
returns g c =
    let k = g.row.K - 1 in
    let i = c.from.result in
    let shifts : 8 * (k + 1) ≡ 8 * g.row.K = omega arith in
    ap (λ t. get_or t i 0) (get_or-map-range_with_len table 0 8 k k [] (omega arith) (omega arith))
    ∙ get_or-map-range_with_len (after (8 * (k + 1))) 0 256 i i 0 (omega arith) (omega arith)
    ∙ ap (λ n. after n i) shifts ∙ ap (after (8 * g.row.K)) c.from.ensures
