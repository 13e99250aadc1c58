-- Tables as they are written, change 2026-01 of document 02: "text lines of
-- month;temperature;rain;evapotranspiration, the month counting 1, 2, 3 from the first line".
use Rattle.std.specs.Prelude.{◌≡◌, Bool, ◌||◌, Ok, ℕ, eqb, ℤ, pos, nat_abs, length}
use mathlib.Core.List.{List, flat_map}
use Rattle.month_state.specs.declared.Weather.{Weather}
use Rattle.month_refusals.specs.declared.Refusal.{Refusal}
use Rattle.month_refusals.specs.Asked.{refusal_number}
use Rattle.list_rows.specs.Rows.{weather_numbers}
use Rattle.book_digits.specs.Digits.{overwritten}
use Rattle.book_rows.specs.RowText.{lines_from, Each, SoundFrom, Counted}
use Rattle.table_lines.specs.LineText.{table_line_text}
use Rattle.table_import.specs.Table.{TableLeft, table_of}

-- A row's line, the month being the line's number.
abbrev pub table_line_of : ℕ → Weather → List ℕ
table_line_of number w =
    table_line_text number w.temperature (nat_abs w.rain) (nat_abs w.evaporation)

-- The table of rows: their lines one after another from line 1.
unfoldable pub table_text : List Weather → List ℕ
table_text rows = lines_from table_line_of 1 rows

-- The rows of a table: 1 to 1,200 of them, each said by its line, "Table rows get 1", and let pass
-- by 13 and 14.
pub record TableRows (rows : List Weather) : Type 0 where
  pub count : Counted (length rows)
  pub sound : Each (SoundFrom (pos 1)) rows

-- Read as these rows: how many, and their numbers at the start of the output, where what lies past
-- them stays.
abbrev pub read_as : List Weather → List ℤ → TableLeft
read_as rows out =
    record {
      answer = Ok (length rows);
      output = overwritten out 0 (flat_map weather_numbers rows);
    }

-- A text is the table of such rows, and is read as these.
pub record Written (s : List ℕ) (out : List ℤ) : Type 0 where
  pub rows : List Weather
  pub good : TableRows rows
  pub text : s ≡ table_text rows
  pub left : table_of s out ≡ read_as rows out

-- A table's refusals are 3, 8, 18, 13 and 14.
abbrev pub refuses_table : Refusal → Bool
refuses_table refusal =
    eqb (refusal_number refusal) 3
    || (eqb (refusal_number refusal) 8
    || (eqb (refusal_number refusal) 13
    || (eqb (refusal_number refusal) 14 || eqb (refusal_number refusal) 18)))
