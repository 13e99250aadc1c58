-- The rows of a table are a kind of row: as they are written they are read back, and what was read is what would be written. And a
-- table has as many lines as rows.
-- Assumes nothing.
use mathlib.Core.Path.{◌≡◌, refl, ◌∙◌, ap}
use mathlib.Core.List.{List, [], ◌∷◌, ◌++◌, append_assoc}
use Prim.Native.Nat.{ℕ, suc, ◌+◌}
use native.Mathlib.Omega.{arith}
use lib.IntN.{pos}
use lib.ListN.{length}
use Rattle.month_state.specs.declared.Weather.{Weather}
use Rattle.month_refusals.specs.declared.Refusal.TheVariants.{TableForm}
use Rattle.month_refusals.specs.Refusals.{source_outside, weather_asked}
use Rattle.list_rows.specs.Rows.{weather_width, weather_numbers}
use Rattle.book_rows.specs.RowText.{lines_from, SoundFrom}
use Rattle.book_rows.proofs.RowKinds.{Kind, WeatherText, weather-rows}
use Rattle.table_lines.specs.Lines.{table_line, line_count}
use Rattle.table_lines.specs.LineText.{table_line_text}
use Rattle.table_lines.proofs.Laws.{table_read, table_round, count_line}
use Rattle.table_import.specs.Table.{table_row}
use Rattle.table_import.proofs.Laws.{table_at}
use Rattle.table_laws.specs.TableText.{table_line_of, refuses_table}

table_text_lem : WeatherText TableForm (pos 1) table_line table_line_text refuses_table
unfolding weather_asked source_outside
table_text_lem =
    record {
      reads = λ s at number temperature rain evaporation next e.
          (table_read s at number (record { temperature = temperature; rain = rain; evaporation = evaporation }) next e).text;
      rounds = λ s at number temperature rain evaporation rest few t r v e.
          table_round number temperature rain evaporation s at rest few (omega arith) (omega arith) (omega arith) e;
      form = refl;
      asked = λ temperature rain evaporation. refl;
    }

pub table_kind : Kind weather_width table_at table_line_of weather_numbers (SoundFrom (pos 1)) refuses_table
unfolding table_row
table_kind = weather-rows table_text_lem

-- So many lines as rows, and then those of what follows.
pub lines_counted :
    (xs : List Weather) (number : ℕ) (rest : List ℕ) → line_count (lines_from table_line_of number xs ++ rest) ≡ length xs + line_count rest
unfolding lines_from
lines_counted [] number rest = omega arith
lines_counted (x ∷ xs) number rest =
    ap line_count (append_assoc (table_line_of number x) (lines_from table_line_of (suc number) xs) rest)
    ∙ count_line _ _ _ _ _
    ∙ omega (arith, lines_counted xs (suc number) rest)
