-- What is put of all the numbers is what is put of those that are still to come.
use Rattle.std.proofs.Common.{◌≡◌, drop}
use Rattle.test_lines.specs.Lines.{with_bytes, numbers_text}
use Rattle.test_lines.specs.Unwritten.{unwritten}
use Rattle.test_lines.proofs.Line.add.Given as goal

abbrev pub invariant-loop-number : goal.invariant-loop-number
invariant-loop-number g l =
    with_bytes (unwritten l.fn.self) (numbers_text g.T.Integer.text l.numbers)
    ≡ with_bytes (unwritten l.self) (numbers_text g.T.Integer.text (drop l.number-index l.numbers))
