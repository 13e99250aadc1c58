-- The loop's invariant: the lines of the months before j are added, each in at most 168 bytes.
use Rattle.std.proofs.Common.{◌+◌, ◌*◌, ◌≤◌}
use Rattle.book_output.specs.Output.{row_lines}
use Rattle.book_output.specs.Text.{Added}
use Rattle.book_output.proofs.Text.rows.Given as goal

abbrev pub invariant-loop-j : goal.invariant-loop-j
invariant-loop-j l = record {
  added : Added l.fn.self (row_lines l.j l.rows 0) l.self;
  most : l.self.len ≤ l.fn.self.len + 168 * l.j;
}
