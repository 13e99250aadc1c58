-- What a line of the program holds.
use Rattle.std.specs.Prelude.{List, ℕ, take}
use Rattle.test_lines.specs.declared.Line.{Line}

-- The bytes of a line that are not written yet.
abbrev pub unwritten : Line → List ℕ
unwritten line = take line.used line.memory
