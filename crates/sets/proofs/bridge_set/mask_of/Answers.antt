use Rattle.std.proofs.Common.{◌≡◌, ap, ◌∙◌, arith, rules}
use Rattle.sets.specs.Sets.{has, number_of}
use Rattle.sets.proofs.InBytes.{has-number}
use Rattle.sets.proofs.bridge_set.mask_of.Goals as goal

pub returns : goal.returns
unfolding number_of
returns c = let e : c.from_be_bytes.result ≡ number_of c.args.bytes = omega arith in record { whole = e; members = λ k h. ap (λ n. has n k) e ∙ has-number c.args.bytes k (record { many = search rules; small = λ i l. search rules }) h }
