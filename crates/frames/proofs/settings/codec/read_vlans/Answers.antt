use Rattle.std.proofs.Common.{◌<◌, get_or, set, length, ◌∙◌, [], ap, sym, inl, inr, arith, rules}
use Rattle.std.proofs.lemmas.Bool.{cases_eq}
use Rattle.std.proofs.lemmas.List.{length-set, get_or-set_same, get_or-set_other}
use Rattle.frames.proofs.Vlans.{cells_are, vlans_read}
use Rattle.wire.specs.Bytes.{two}
use Rattle.frames.proofs.settings.codec.read_vlans.Goals as goal

pub loop-port-preserved : goal.loop-port-preserved
loop-port-preserved c =
    let v = c.loop-port.vlans in
    let p = c.loop-port.port in
    let cells = c.as_chunks.result.0.now in
    let w = c.from_be_bytes.result in
    let inv = c.loop-port.invariant in
    let cut = cells_are c.args.bytes.now c.args.ports cells c.requires.1 c.as_chunks.ensures.front in
    let here : p < length v = omega (arith, cut.0, c.requires.0, inv.0, c.loop-port-test.true) in (
      length-set v p w ∙ inv.0,
      (λ j l. elim (cases_eq j p) [
        | inl s ↦ ap (λ i. get_or (set v p w) i 0) s ∙ get_or-set_same v p w 0 here ∙ c.from_be_bytes.ensures ∙ ap (λ i. two (get_or cells i []) 0) (sym s)
        | inr ne ↦ get_or-set_other v p j w 0 ne ∙ inv.1 j (omega arith)
      ]),
      (λ j l m. get_or-set_other v p j w 0 (λ s. omega arith) ∙ inv.2 j (omega arith) m),
    )

pub returns : goal.returns
returns c =
    let n = c.args.ports in
    let inv = c.loop-port.invariant in
    let cut = cells_are c.args.bytes.now n c.as_chunks.result.0.now c.requires.1 c.as_chunks.ensures.front in
    let r = vlans_read c.args.bytes.now c.loop-port.vlans n c.can_be.result c.requires.0 inv.0
    (λ k h. inv.1 k (omega (arith, cut.0, c.loop-port-test.false)) ∙ cut.1 k h)
    (λ k l h. inv.2 k (omega (arith, cut.0, c.loop-port.auto.port-end)) l) c.can_be.ensures in
    search (rules, r)
