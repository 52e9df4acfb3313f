use Rattle.std.proofs.Common.{◌≡◌, get_or, is_ok, vec_items, ap, ◌∙◌, rules}
use Rattle.std.specs.List.{flat_map}
use Rattle.wire.proofs.Appended.{carried}
use Rattle.wire.proofs.Rows.{pairs_flat}
use Rattle.messages.specs.TreeBytes.{paired, tree_head}
use Rattle.messages.proofs.tree.encode_tree.Goals as goal

pub returns : goal.returns
returns c =
    let t = c.args.tree.now in
    let rows = c.pairs.result in
    let flat : c.as_flattened.result.now ≡ flat_map (λ x. x) rows = search rules in
    let e : c.as_flattened.result.now ≡ paired t.parent t.depth =
    flat ∙ pairs_flat rows (λ k. get_or t.parent k 0) (λ k. get_or t.depth k 0) 128 (search rules) c.pairs.ensures in
    carried (vec_items c.args.out.now) (is_ok c.append_summed.result) (c.head.ensures ∙ ap tree_head c.id.ensures) e c.append_summed.ensures
