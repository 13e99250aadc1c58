-- `book_output::Text::rows` meets its contract: a line more is added. Assumes nothing.
use native.Mathlib.Omega.{arith}
use Rattle.book_output.specs.Output.{row_lines}
use Rattle.book_output.proofs.Laws.{unchanged, then, line_more}
use Rattle.book_output.proofs.Text.rows.Goals as goal

pub loop-j-init : goal.loop-j-init
unfolding row_lines
loop-j-init c = record { added = unchanged _; most = omega arith }

pub loop-j-preserved : goal.loop-j-preserved
loop-j-preserved c =
    let l = c.loop-j in
    record {
      added =
          line_more l.j c.args.rows.now (omega arith) l.invariant.added
          (then c.decimal.ensures.added (then c.numbers.ensures.added c.bytes.ensures));
      most = omega arith;
    }
