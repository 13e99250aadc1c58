-- Weather office tables, change 2026-01 of document 02: bytes in, weather rows of four numbers to a
-- lent output. A byte is a number, a text a list of bytes.
use Rattle.std.specs.Prelude.{Bool, ◌||◌, List, [], ◌∷◌, ◌++◌, Result, Ok, Err, ℕ, ◌*◌, ltb, ℤ, pos}
use Rattle.std.specs.Prelude.{length}
use Rattle.month_refusals.specs.declared.Refusal.{Refusal}
use Rattle.month_refusals.specs.declared.Refusal.TheVariants.{Rows, Room, TableForm}
use Rattle.month_refusals.specs.declared.RefusedAt.{RefusedAt}
use Rattle.month_refusals.specs.Asked.{Asked, ◌if◌, Check, first_of, Placed, at, ◌on◌}
use Rattle.list_rows.specs.Rows.{weather_width}
use Rattle.book_digits.specs.Digits.{overwritten}
use Rattle.book_rows.specs.Rows.{WeatherRow, as_weather, weather_gives, RowsEnd, RowsRead}
use Rattle.book_rows.specs.Rows.{read_rows}
use Rattle.book_rows.specs.RowsAsked.{weather_asked_from}
use Rattle.table_lines.specs.Lines.{table_line, line_count}

-- A table's answer: how many rows it has, or why it is refused, and the line (0 for 3 and 8).
abbrev pub TableAnswer : Type 0
TableAnswer = Result ℕ RefusedAt

-- ---- the lines

-- "It refuses with 18 a table line of another form", then 13 and 14. "Table rows get 1": 19 finds
-- nothing there.
unfoldable pub table_row : List ℕ → ℕ → ℕ → WeatherRow
table_row s place line = as_weather TableForm (pos 1) (table_line s place line)

-- So many lines one after another, line 1 from the first byte on, up to the first that is at fault.
unfoldable pub read_table : ℕ → List ℕ → RowsRead
read_table lines s =
    read_rows (λ text at number. weather_gives (table_row text at number)) lines s 0 1

-- ---- what is asked

-- "A table of no lines or over 1,200 is 3".
unfoldable pub lines_outside : ℕ → Bool
lines_outside lines = ltb lines 1 || ltb 1200 lines

-- 3, "then 8": four numbers a line.
unfoldable pub before_lines : ℕ → ℕ → List Asked
before_lines lines room =
    (Rows if lines_outside lines) ∷ (Room if ltb room (weather_width * lines)) ∷ []

-- 3 and 8 with "place 0; .. then each line's 18, 13 and 14", the line being the place.
unfoldable pub table_asked : List ℕ → ℕ → List Placed
table_asked s room =
    at 0 (before_lines (line_count s) room)
    ++ weather_asked_from TableForm (pos 1) table_line (line_count s) s 0 1

-- ---- the table

-- What a table leaves: its answer, and the lent output.
pub record TableLeft : Type 0 where
  pub answer : TableAnswer
  pub output : List ℤ

-- A refused table leaves the output as it was.
abbrev pub refused_at : Refusal → ℕ → List ℤ → TableLeft
refused_at refusal place out = record { answer = Err (refusal on place); output = out }

-- After the lines: their rows at the start of the output, where what lies past them stays; or the
-- refusal of a line.
abbrev pub after_lines : RowsEnd → ℕ → List ℤ → List ℤ → TableLeft
after_lines (Ok place) lines numbers out =
    record { answer = Ok lines; output = overwritten out 0 numbers }
after_lines (Err e) lines numbers out = refused_at e.refusal e.place out

-- Refused before the lines, or what the lines leave.
abbrev pub table_checked : Check → List ℤ → TableLeft → TableLeft
table_checked (Ok _) out later = later
table_checked (Err refusal) out later = refused_at refusal 0 out

unfoldable pub table_of : List ℕ → List ℤ → TableLeft
table_of s out =
    table_checked (first_of (before_lines (line_count s) (length out))) out
    (after_lines (read_table (line_count s) s).ends (line_count s)
    (read_table (line_count s) s).numbers out)
