-- `book_output::Text::numbers` meets its contract: a number more is added. Assumes nothing.
use native.Mathlib.Omega.{arith}
use Rattle.book_output.specs.Output.{numbers}
use Rattle.book_output.proofs.Laws.{unchanged, number_more}
use Rattle.book_output.proofs.Text.numbers.Goals as goal

pub loop-n-init : goal.loop-n-init
unfolding numbers
loop-n-init c = record { added = unchanged _; most = omega arith }

pub loop-n-preserved : goal.loop-n-preserved
loop-n-preserved c =
    let l = c.loop-n in
    record { added = number_more l.n-index c.args.row.now l.invariant.added c.spaced.ensures.added; most = omega arith }
