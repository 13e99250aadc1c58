-- A table of one line, byte by byte: its rows pass, its text is what is written for them, and it is read as these.
-- Assumes nothing.
use mathlib.Core.Path.{◌≡◌, refl, sym, ◌∙◌, ap}
use mathlib.Core.List.{List, [], ◌∷◌, ◌++◌}
use Prim.Native.Nat.{ℕ, ◌≤◌}
use native.Mathlib.Omega.{arith}
use lib.IntN.{ℤ}
use lib.ListN.{length}
use Rattle.month_refusals.specs.Asked.{first_of}
use Rattle.month_refusals.specs.Refusals.{temperature_outside, water_outside, source_outside, weather_asked}
use Rattle.book_digits.specs.Digits.{decimal}
use Rattle.book_digits.proofs.Digits.{decimal_small, decimal_large}
use Rattle.book_rows.specs.RowText.{lines_from, none, more}
use Rattle.table_lines.specs.LineText.{tenths_text, signed_tenths_text, table_line_text}
use Rattle.table_import.specs.Table.{table_of}
use Rattle.table_laws.specs.TableText.{table_text, TableRows, read_as}
use Rattle.table_laws.specs.Frost.{frost, frost_text}
use Rattle.table_laws.proofs.RoundTrip.{round_trip}

pub frost-good : TableRows frost
unfolding frost first_of weather_asked temperature_outside water_outside source_outside
frost-good =
    record {
      count = record { least = omega arith; most = omega arith };
      sound = more (record { of_line = refl; passes = refl }) none;
    }

twelve : decimal 12 ≡ 49 ∷ 50 ∷ []
twelve = decimal_large 12 (omega arith) ∙ ap (λ (tens : List ℕ). tens ++ (50 ∷ [])) (decimal_small 1 (omega arith))

pub frost-text : table_text frost ≡ frost_text
unfolding frost frost_text table_text lines_from table_line_text signed_tenths_text tenths_text
frost-text =
    rw (
      decimal_small 1 (omega arith),
      decimal_small 0 (omega arith),
      twelve,
    )

-- With room for its four numbers it is read as its row.
pub frost_read : (out : List ℤ) → 4 ≤ length out → table_of frost_text out ≡ read_as frost out
unfolding frost
frost_read out room = ap (λ (s : List ℕ). table_of s out) (sym frost-text) ∙ round_trip frost out frost-good room
