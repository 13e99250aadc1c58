-- A book's land line gives its row's numbers.
-- Assumes nothing.
use mathlib.Core.Path.{◌≡◌, sym, ◌∙◌, ap}
use Prim.Native.Nat.{◌<◌, ◌^◌}
use native.Mathlib.Omega.{arith}
use Rattle.std.specs.Prelude.{Some}
use Rattle.list_rows.specs.Rows.{land_numbers}
use Rattle.month_state.specs.declared.Land.{Land}
use Rattle.month_refusals.proofs.First.{left_by}
use Rattle.book_lines.specs.Lines.{land_line}
use Rattle.book_rows.specs.Rows.{land_row, numbers, refused}
use Rattle.book_rows.proofs.Laws.{land_fits, land_bits, line_there, line_missing}
use Rattle.book_rows.proofs.LandOfBookRowLine.row.Goals as goal
use Rattle.book_rows.proofs.LandOfBookRowLine.row.Goals.{In_ok-numbers}

pub returns-in_err-numbers : goal.returns-in_err-numbers
unfolding land_row
returns-in_err-numbers c =
    let none = line_missing _ _ c.ok_or.ensures.value c.in_err-numbers.was in
    rw (left_by c.from_residual.result c.from_residual.ensures.1, sym c.land_line.ensures ∙ none.0) (ap refused (sym none.1))

-- a line that is let by is there, and its values fit
there : (c : In_ok-numbers) → land_line c.args.s.now c.args.place ≡ Some (c.in_ok-numbers.numbers, c.in_ok-numbers.next)
there c = sym c.land_line.ensures ∙ line_there _ _ c.ok_or.ensures.value c.in_ok-numbers.was

fits :
    (c : In_ok-numbers)
    → let n = c.in_ok-numbers.numbers in (n.cover < 2 ^ 63) × (n.plant < 2 ^ 63) × (n.manure < 2 ^ 63)
fits c = land_fits _ _ _ _ (there c)

pub overflow_cast-land : goal.overflow_cast-land
overflow_cast-land c = record { sfits = omega (arith, fits (goal.at.overflow_cast-land c).In_ok-numbers) }

pub overflow_cast-land-2 : goal.overflow_cast-land-2
overflow_cast-land-2 c = record { sfits = omega (arith, fits (goal.at.overflow_cast-land-2 c).In_ok-numbers) }

pub overflow_cast-land-3 : goal.overflow_cast-land-3
overflow_cast-land-3 c = record { sfits = omega (arith, fits (goal.at.overflow_cast-land-3 c).In_ok-numbers) }

pub returns : goal.returns
unfolding land_row
returns c =
    let line = (goal.at.returns c).In_ok-numbers in
    rw (there line, c.land_numbers.ensures)
    (ap (λ (land : Land). numbers (land_numbers land) c.in_ok-numbers.next) (land_bits _ (fits line)))
