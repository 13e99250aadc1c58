-- The loop's invariant: the numbers before the index are added, each in at most 21 bytes.
use Rattle.std.proofs.Common.{◌+◌, ◌*◌, ◌≤◌}
use Rattle.book_output.specs.Output.{numbers}
use Rattle.book_output.specs.Text.{Added}
use Rattle.book_output.proofs.Text.numbers.Given as goal

abbrev pub invariant-loop-n : goal.invariant-loop-n
invariant-loop-n l = record {
  added : Added l.fn.self (numbers l.n-index l.row 0) l.self;
  most : l.self.len ≤ l.fn.self.len + 21 * l.n-index;
}
