use Rattle.std.proofs.Common.{◌≡◌, rules}
use lib.Bits.{bit_xor}
use Rattle.std.specs.List.{fold}
use Rattle.crc.specs.Crc.{after, all_ones}
use Rattle.crc.proofs.Linear.{through-fold, crc_through}
use Rattle.crc.proofs.bits.taken_in.Goals as goal

pub returns : goal.returns
returns c =
    let each : c.fold.result ≡ fold (λ register byte. after 8 (bit_xor register byte)) all_ones c.args.bytes.now = search rules in
    let whole = through-fold all_ones c.args.bytes.now (λ i. (c.type_inv.bytes i).fits) in
    let s = crc_through c.args.bytes.now in
    cc
