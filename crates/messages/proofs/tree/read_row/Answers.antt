use Rattle.std.proofs.Common.{◌≡◌, ◌+◌, ◌*◌, length, get_or, sym, ◌∙◌, arith, rules}
use Rattle.messages.proofs.Columns.{length-row, get_or-row}
use Rattle.wire.proofs.Arrays.{made_each}
use Rattle.std.proofs.lemmas.List.{ext_get_or}
use Rattle.messages.specs.TreeBytes.{row}
use Rattle.messages.proofs.tree.read_row.Goals as goal

pub returns : goal.returns
returns c =
    let b = c.args.bytes.now in
    let i = c.args.place in
    let l : length c.from_fn.result ≡ 128 = c.from_fn.ensures.items.long in
    let each = made_each _ (λ k y. y ≡ get_or b (i + 2 * k) 0) _ c.from_fn.result 0 (λ j y q k. (search rules, search rules)) c.from_fn.ensures.items in
    ext_get_or 0 c.from_fn.result (row b i 128) (l ∙ sym (length-row b i 128)) (λ k h. each k (omega (arith, l)) ∙ sym (get_or-row b i 128 k (omega (arith, l))))
