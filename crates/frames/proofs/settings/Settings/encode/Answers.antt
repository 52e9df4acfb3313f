use Rattle.std.proofs.Common.{◌≡◌, ◌/◌, ◌%◌, get_or, take, is_ok, vec_items, ◌∙◌, arith, rules}
use Rattle.std.proofs.lemmas.List.{get_or-take, length-take-le}
use Rattle.std.specs.List.{flat_map}
use Rattle.frames.specs.SettingsBytes.{in_twos}
use Rattle.wire.proofs.Appended.{carried_two}
use Rattle.wire.proofs.Rows.{pairs_flat}
use Rattle.frames.proofs.settings.Settings.encode.Goals as goal

pub returns : goal.returns
returns c =
    let vs = c.args.self.vlans in
    let n = c.args.self.ports in
    let room = c.args.self.room in
    let rows = c.vlan_bytes-vlans.result in
    let flat : c.as_flattened.result.now ≡ flat_map (λ x. x) (take n rows) = search rules in
    let e : c.as_flattened.result.now ≡ in_twos vs n = flat ∙ pairs_flat (take n rows) (λ k. get_or vs k 0 / 256 % 256) (λ k. get_or vs k 0 % 256) n
    (length-take-le n rows (search rules)) (λ k h. get_or-take n rows k _ h ∙ c.vlan_bytes-vlans.ensures k (omega (arith, room))) in
    carried_two (vec_items c.args.out.now) (is_ok c.append.result) c.head.ensures e c.append.ensures.items
