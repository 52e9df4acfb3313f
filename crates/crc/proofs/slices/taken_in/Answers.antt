use Rattle.std.proofs.Common.{◌≡◌, refl, ◌∙◌, rules}
use lib.Bits.{bit_xor}
use Rattle.std.specs.List.{fold}
use Rattle.crc.specs.Crc.{after}
use Rattle.crc.proofs.Linear.{through-fold, crc_through}
use Rattle.crc.proofs.Eight.{through-eight, tail_bytes}
use Rattle.crc.proofs.slices.taken_in.Goals as goal

pub loop-rest-init : goal.loop-rest-init
loop-rest-init c = (refl, λ i. (c.type_inv.bytes i).fits)

pub loop-rest-preserved : goal.loop-rest-preserved
loop-rest-preserved c =
    let inv = c.loop-rest.invariant in
    let xs = c.loop-rest.rest.now in (
      through-eight c.loop-rest.register c.shift_eight-register.result c.from.result c.from_le_bytes-word.result xs (search rules)
          inv.1 c.from.ensures c.from_le_bytes-word.ensures c.shift_eight-register.ensures ∙ inv.0,
      tail_bytes xs inv.1,
    )

pub returns : goal.returns
returns c =
    let each : c.fold.result ≡ fold (λ register byte. after 8 (bit_xor register byte)) c.loop-rest.register c.loop-rest.rest.now = search rules in
    let tail = through-fold c.loop-rest.register c.loop-rest.rest.now c.loop-rest.invariant.1 in
    let s = crc_through c.args.bytes.now in
    let whole = c.loop-rest.invariant.0 in
    cc
