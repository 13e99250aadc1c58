-- What is put of all the bytes is what is put of those that are still to come.
use Rattle.std.proofs.Common.{◌≡◌, drop}
use Rattle.test_lines.specs.Lines.{with_bytes}
use Rattle.test_lines.specs.Unwritten.{unwritten}
use Rattle.test_lines.proofs.Line.put_all.Given as goal

abbrev pub invariant-loop-byte : goal.invariant-loop-byte
invariant-loop-byte l =
    with_bytes (unwritten l.fn.self) l.bytes ≡ with_bytes (unwritten l.self) (drop l.byte-index l.bytes)
