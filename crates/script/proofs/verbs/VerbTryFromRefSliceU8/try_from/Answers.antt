use Rattle.std.proofs.Common.{codes, sym, ap, arith, rules}
use Rattle.std.specs.Option.{ok_or}
use Rattle.std.proofs.lemmas.Slice.Eq.{text_from_reads}
use Rattle.script.specs.Verbs.{verb_of}
use Rattle.script.specs.declared.faults.Expected.TheVariants as expected
use Rattle.script.proofs.verbs.VerbTryFromRefSliceU8.try_from.Goals as goal

pub returns-in-bridge : goal.returns-in-bridge
returns-in-bridge c =
    let e = text_from_reads c.args.word.now (codes "bridge") (omega arith) (search rules) in
    sym (ap (λ w. ok_or (verb_of w) expected.Command) e)

pub returns-in-access : goal.returns-in-access
returns-in-access c =
    let e = text_from_reads c.args.word.now (codes "access") (omega arith) (search rules) in
    sym (ap (λ w. ok_or (verb_of w) expected.Command) e)

pub returns-in-station : goal.returns-in-station
returns-in-station c =
    let e = text_from_reads c.args.word.now (codes "station") (omega arith) (search rules) in
    sym (ap (λ w. ok_or (verb_of w) expected.Command) e)
