use Rattle.std.proofs.Common.{◌∙◌}
use lib.Bits.{bit_xor}
use Rattle.crc.proofs.Eight.{shifted_eight}
use Rattle.crc.proofs.slices.shift_eight.Goals as goal

pub returns : goal.returns
returns c =
    (λ i. bit_xor (bit_xor (bit_xor (bit_xor (bit_xor (bit_xor (bit_xor (c.by.ensures i) (c.by-2.ensures i)) (c.by-3.ensures i)) (c.by-4.ensures i))
    (c.by-5.ensures i)) (c.by-6.ensures i)) (c.by-7.ensures i)) (c.by-8.ensures i))
    ∙ shifted_eight c.args.word c.to_le_bytes.result c.ranges.word.fits c.to_le_bytes.ensures
