use Rattle.std.proofs.Common.{◌≡◌, ◌<◌, true, get_or, Some, sym, ap, ◌∙◌, subst, rules}
use Rattle.std.proofs.lemmas.Result.{err_from_is_err_and}
use Rattle.trees.specs.Ids.{id_number}
use Rattle.trees.specs.Meanings.{Refused}
use Rattle.wire.specs.Bytes.{whole}
use Rattle.wire.specs.TreeIds.{TreeIdSays}
use Rattle.messages.specs.TreeBytes.{DecodesTree, depths_in, tree_fault}
use Rattle.messages.proofs.Grown.{says_here, tree_read, tree_refused}
use Rattle.messages.proofs.tree.decode_tree.Goals as goal

pub returns : goal.returns
returns c =
    let b = c.args.bytes.now in
    let h = c.in_ok-new.ensures in
    let w : whole 4 269 b ≡ true = c.in_ok-reader.ensures.0 in
    let l : get_or b 5 0 < 128 = search rules in
    let s : TreeIdSays b 1 c.in_ok-id.id = says_here c.in_ok-reader.ensures.1 c.in_ok-reader.ensures.2 c.in_ok-id.ensures.2 in
    tree_read b c.in_ok-id.id c.in_ok-new.field-0 w l s h.0 (h.1 ∙ c.read_row.ensures) (h.2 ∙ c.read_row-2.ensures)

pub returns-in_err-new : goal.returns-in_err-new
returns-in_err-new c =
    let b = c.args.bytes.now in
    let id = c.in_ok-id.id in
    let fault = c.in_err-new.field-0.0 in
    let w : whole 4 269 b ≡ true = c.in_ok-reader.ensures.0 in
    let l : get_or b 5 0 < 128 = search rules in
    let s : TreeIdSays b 1 id = says_here c.in_ok-reader.ensures.1 c.in_ok-reader.ensures.2 c.in_ok-id.ensures.2 in
    let r = subst (λ p. Refused (id_number id) p (depths_in b) fault) c.read_row.ensures
    (subst (λ d. Refused (id_number id) c.read_row.result d fault) c.read_row-2.ensures c.in_err-new.ensures) in
    let p = err_from_is_err_and c.from_residual-in_err-new.result c.from_residual-in_err-new.ensures.1 in
    let e : tree_fault b ≡ Some p.0 = tree_refused b id fault w l s r ∙ ap Some (sym p.2) in
    subst (DecodesTree b) (sym p.1) e
