use Rattle.std.proofs.Common.{◌≡◌, length, take, reverse, ◌∙◌, arith, rules, tests}
use Rattle.std.specs.List.{prefix_len, suffix_len}
use Rattle.std.proofs.lemmas.List.Folds.{length-prefix_len}
use Rattle.std.proofs.lemmas.List.Sums.{suffix_len-le-length}
use Rattle.std.proofs.lemmas.Iterator.Adapters.{YieldsList-from_rev_slice}
use Rattle.std.proofs.lemmas.Iterator.Consumers.{count_from_yields_List}
use Rattle.std.proofs.lemmas.Iterator.Search.{YieldsList-from_take_while}
use Rattle.scan.specs.declared.bytes.Kind.TheVariants.{Blank}
use Rattle.scan.specs.Bytes.{is_of}
use Rattle.script.proofs.lines.blanks_at_end.Goals as goal

pub returns : goal.returns
returns c =
    let bytes = c.args.bytes.now in
    let n : c.count.result ≡ length (take (prefix_len (is_of Blank) (reverse bytes)) (reverse bytes)) = count_from_yields_List c.take_while.result _ c.count.ensures.ran (YieldsList-from_take_while _ (is_of Blank) (YieldsList-from_rev_slice bytes cc) c.take_while.ensures.closure c.take_while.ensures.done (λ x b q k. search (rules, tests))) in
    let is : c.count.result ≡ suffix_len (is_of Blank) bytes = n ∙ length-prefix_len (is_of Blank) (reverse bytes) in
    record { value = is; within = omega (arith, is, suffix_len-le-length (is_of Blank) bytes) }
