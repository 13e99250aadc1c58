-- A minus that may stand first, and what is read after it.
use Rattle.std.proofs.Common.{◌∙◌, ap, not, arith}
use Rattle.test_numbers.proofs.Signs.{plain_none, plain_some, less_none, less_zero, less_some}
use Rattle.test_numbers.proofs.I64Number.read.Goals as goal

pub returns-in_err-digits : goal.returns-in_err-digits
returns-in_err-digits c =
    rw c.from_residual.ensures
    (plain_none _ _ _ _ c.expect.ensures (c.is_none.ensures ∙ ap not c.if-is_none.true) c.in_err-digits.ensures)

pub returns-then-is_none : goal.returns-then-is_none
returns-then-is_none c =
    rw c.ok.ensures.value
    (plain_some _ _ _ _ _ _ c.expect.ensures (c.is_none.ensures ∙ ap not c.if-is_none.true) c.in_ok-digits.ensures c.try_from.ensures)

pub returns-in_err-n : goal.returns-in_err-n
returns-in_err-n c =
    rw c.from_residual-in_err-n.ensures
    (less_none _ _ _ _ c.expect.ensures (c.is_none.ensures ∙ ap not c.if-is_none.false) c.in_err-n.ensures)

pub returns-in-0 : goal.returns-in-0
returns-in-0 c =
    less_zero _ _ _ _ c.expect.ensures (c.is_none.ensures ∙ ap not c.if-is_none.false) (rw c.in-0.is at c.in_ok-n.ensures)

pub returns-in_default : goal.returns-in_default
returns-in_default c =
    less_some _ _ _ _ _ _ c.expect.ensures (c.is_none.ensures ∙ ap not c.if-is_none.false) c.in_ok-n.ensures (omega arith)
    c.checked_sub_unsigned.ensures
