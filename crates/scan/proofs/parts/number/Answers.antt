use Rattle.std.proofs.Common.{refl, ◌∙◌, arith, rules}
use Rattle.std.proofs.lemmas.Bool.Decides.{nat_tests}
use Rattle.scan.specs.Parts.{number_in}
use Rattle.scan.proofs.Numbers.{empty, no_digit, over, all_read}
use Rattle.scan.proofs.parts.number.Goals as goal

pub returns-then-is_empty : goal.returns-then-is_empty
returns-then-is_empty c = record { value = empty _ _ _ (search rules); bound = tt }

pub returns-in_err-digit-clause-value : goal.returns-in_err-digit-clause-value
returns-in_err-digit-clause-value c =
    let l = c.loop-b in
    c.from_residual.ensures ∙ no_digit _ _ _ l.b-index l.value l.invariant.value l.invariant.digits c.loop-b-test.true (λ a b. omega (arith, c.in_err-digit.ensures.cases (omega arith) (omega arith)))

pub returns-in_err-checked_mul-clause-value : goal.returns-in_err-checked_mul-clause-value
returns-in_err-checked_mul-clause-value c =
    let l = c.loop-b in
    c.from_residual-in_err-checked_mul.ensures ∙ over _ _ _ l.b-index l.value l.invariant.value l.invariant.digits _ c.loop-b-test.true refl (omega (arith, c.in_err-checked_mul.ensures))

pub returns-in_err-value-clause-value : goal.returns-in_err-value-clause-value
returns-in_err-value-clause-value c =
    let l = c.loop-b in
    c.from_residual-in_err-value.ensures ∙ over _ _ _ l.b-index l.value l.invariant.value l.invariant.digits c.in_ok-digit.digit c.loop-b-test.true (search rules) (omega (arith, c.in_err-value.ensures))

pub returns-clause-value : goal.returns-clause-value
unfolding number_in
returns-clause-value c =
    let l = c.loop-b in
    let read = all_read c.args.low c.args.high c.args.word.now l.b-index l.value l.invariant.value l.invariant.digits c.loop-b-test.false (grind (arith, nat_tests)) in
    grind (arith, nat_tests)
