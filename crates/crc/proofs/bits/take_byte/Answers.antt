use Rattle.std.proofs.Common.{◌≡◌, refl, ap, ◌∙◌, rules}
use lib.Bits.{bit_xor}
use Rattle.std.specs.List.{fold, range_with_len}
use Rattle.std.proofs.iter.Yields.{nat_range_steps}
use Rattle.std.proofs.lemmas.Fn.{fold_over}
use Rattle.std.proofs.lemmas.Iterator.{YieldsList-from_range}
use Rattle.std.proofs.lemmas.List.Sums.{fold_push}
use Rattle.crc.specs.Crc.{after, shifted}
use Rattle.crc.proofs.bits.take_byte.Goals as goal

pub returns : goal.returns
unfolding after
returns c =
    let from = bit_xor c.args.register c.from.result in
    fold_over nat_range_steps (λ x. x) _ (λ ys a. a ≡ fold (λ r x. shifted r) from ys) _
    (λ ys a x b f' j k. let more = fold_push (λ r x. shifted r) from ys x in search rules) _ (range_with_len 0 8) from c.fold.result
    (YieldsList-from_range 0 8 8 refl refl).runs refl c.fold.ensures.ran
    ∙ ap (λ b. after 8 (bit_xor c.args.register b)) c.from.ensures
