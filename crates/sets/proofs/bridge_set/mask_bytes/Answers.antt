use Rattle.std.proofs.Common.{◌≡◌, ap, ◌∙◌, div-one}
use Rattle.sets.specs.Sets.{has_byte, bytes_of}
use Rattle.sets.proofs.InBytes.{has-bytes}
use Rattle.sets.proofs.bridge_set.mask_bytes.Goals as goal

pub returns : goal.returns
unfolding bytes_of
returns c =
    let e : c.to_be_bytes.result ≡ bytes_of c.args.mask = simp div-one c.to_be_bytes.ensures in
    record { whole = e; members = λ k h. ap (λ bs. has_byte bs k) e ∙ has-bytes c.args.mask k h }
