-- The loop's invariant: the bytes 10 of the bytes before the place are counted.
use Rattle.std.specs.Prelude.{◌≡◌, take}
use Rattle.table_lines.specs.Lines.{line_ends}
use Rattle.table_lines.proofs.line_ends.Given as goal

abbrev pub invariant-loop-byte : goal.invariant-loop-byte
invariant-loop-byte l = l.ends ≡ line_ends (take l.byte-index l.s)
