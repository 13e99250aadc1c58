-- `book_values::more_digits` meets its contract: a turn that goes on has taken the digit at the place. Assumes nothing.
use native.Mathlib.Omega.{arith}
use Rattle.book_values.proofs.Reading.{taken}
use Rattle.book_values.proofs.more_digits.Goals as goal

pub loop-preserved : goal.loop-preserved
loop-preserved c =
    let l = c.loop in taken _ _ _ l.counter l.value l.next l.invariant c.in-Some.digit (omega arith) c.in-Some.ensures
