-- ROUND TRIP: a table written from rows that pass is read as exactly those rows. So two such tables with the same text are the same
-- rows.
-- Assumes nothing.
use Rattle.std.specs.Prelude.{Ok}
use mathlib.Core.Path.{◌≡◌, refl, sym, ◌∙◌, ap, ap₂}
use mathlib.Core.List.{List, [], flat_map, append-nil}
use Prim.Native.Nat.{ℕ, ◌+◌, ◌*◌, ◌^◌, ◌≤◌}
use native.Mathlib.Omega.{arith}
use borrow.Author.Tests.{le-ltb}
use lib.IntN.{ℤ}
use lib.ListN.{length}
use Rattle.month_state.specs.declared.Weather.{Weather}
use Rattle.std.proofs.lemmas.Bool.{or_from}
use Rattle.month_refusals.specs.Asked.{first_of}
use Rattle.month_refusals.proofs.First.{one_passes}
use Rattle.list_rows.specs.Rows.{weather_width, weather_numbers}
use Rattle.book_rows.specs.RowText.{Counted}
use Rattle.book_rows.proofs.RowKinds.{rows_back, rows_same}
use Rattle.table_lines.specs.Lines.{line_count}
use Rattle.table_lines.proofs.Laws.{count_empty}
use Rattle.table_import.specs.Table.{read_table, lines_outside, before_lines, table_of}
use Rattle.table_laws.specs.TableText.{table_text, TableRows, read_as}
use Rattle.table_laws.proofs.Rows.{table_kind, lines_counted}

-- A line for each row.
pub text_lines : (rows : List Weather) → line_count (table_text rows) ≡ length rows
unfolding table_text
text_lines rows =
    ap line_count (sym (append-nil _)) ∙ lines_counted rows 1 [] ∙ omega (arith, count_empty)

-- 3 and 8 let from 1 to 1,200 lines pass, with room for four numbers each.
passes : (lines room : ℕ) → Counted lines → weather_width * lines ≤ room → first_of (before_lines lines room) ≡ Ok tt
unfolding first_of before_lines lines_outside
passes lines room counted enough =
    one_passes _ (or_from _ _ (le-ltb lines 1 counted.least) (le-ltb 1200 lines counted.most)) (one_passes _ (le-ltb _ _ enough) refl)

-- Its lines are read as its rows, to their end.
reads :
    (rows : List Weather) → TableRows rows
    → ((read_table (length rows) (table_text rows)).numbers ≡ flat_map weather_numbers rows)
    × ((read_table (length rows) (table_text rows)).ends ≡ Ok (0 + length (table_text rows)))
unfolding read_table table_text
reads rows good =
    let few : 1 + length rows ≤ 10 ^ 10 = omega (arith, good.count.most) in
    rows_back table_kind (table_text rows) 0 1 [] few good.sound (sym (append-nil _))

pub round_trip :
    (rows : List Weather) (out : List ℤ) → TableRows rows → weather_width * length rows ≤ length out
    → table_of (table_text rows) out ≡ read_as rows out
unfolding table_of
round_trip rows out good room =
    rw (text_lines rows, passes (length rows) (length out) good.count room, (reads rows good).0, (reads rows good).1)

pub text_injective : (rows rows' : List Weather) → TableRows rows → TableRows rows' → table_text rows ≡ table_text rows' → rows ≡ rows'
text_injective rows rows' good good' e =
    let size : length rows ≡ length rows' = sym (text_lines rows) ∙ ap line_count e ∙ text_lines rows' in
    rows_same table_kind rows rows' size
    (sym (reads rows good).0 ∙ ap₂ (λ (n : ℕ) (s : List ℕ). (read_table n s).numbers) size e ∙ (reads rows' good').0)
