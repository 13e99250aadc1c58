-- Each digit adds its worth to ten times the number, which may be above 64 bits at either step.
use Rattle.std.proofs.Common.{◌∙◌, ◌+◌, arith}
use Rattle.test_numbers.proofs.Digits.{one_more, above}
use Rattle.test_numbers.proofs.value.Goals as goal

pub returns-in_err-checked_mul : goal.returns-in_err-checked_mul
returns-in_err-checked_mul c =
    let next = one_more _ _ _ c.requires c.loop-digit-test.true c.loop-digit.invariant.so_far in
    c.from_residual.ensures
    ∙ above c.args.digits.now (c.loop-digit.digit-index + 1) (omega (arith, c.in_err-checked_mul.ensures))

pub returns-in_err-n : goal.returns-in_err-n
returns-in_err-n c =
    let next = one_more _ _ _ c.requires c.loop-digit-test.true c.loop-digit.invariant.so_far in
    c.from_residual-in_err-n.ensures
    ∙ above c.args.digits.now (c.loop-digit.digit-index + 1)
    (omega (arith, c.in_err-n.ensures, c.in_ok-checked_mul.ensures))

pub loop-digit-preserved : goal.loop-digit-preserved
loop-digit-preserved c =
    let next = one_more _ _ _ c.requires c.loop-digit-test.true c.loop-digit.invariant.so_far in
    record {
      so_far = omega (arith, c.in_ok-n.ensures, c.in_ok-checked_mul.ensures);
      fits = omega (arith, c.in_ok-n.ensures);
    }
