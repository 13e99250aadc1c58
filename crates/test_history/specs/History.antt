-- The line of a history, after its letter, and what of a text is left after it.
use Rattle.std.specs.Prelude.{List, ℕ, ◌*◌, ◌+◌}
use Rattle.list_rows.specs.Rows.{entries_width}
use Rattle.month_layouts.specs.Layouts.{soil_width}
use Rattle.test_numbers.specs.Numbers.{Read, before, this_byte, digits_read, signed_read}
use Rattle.test_numbers.specs.Numbers.{array_read, list_read}

-- An act is its kind, a number and a month's entries. There is room for 80 acts.
abbrev pub acts_room : ℕ
acts_room = (2 + entries_width) * 80

-- A soil's numbers, a count and so many numbers of acts, and the end of the line (byte 10).
unfoldable pub history_read : List ℕ → Read Unit
history_read =
    before (array_read digits_read soil_width)
    (before (list_read signed_read acts_room) (this_byte 10))
