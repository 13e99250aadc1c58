-- What rothc_table returns and leaves in lent memory. Memory that a call is lent to read stays as
-- it was.
use Rattle.std.specs.Prelude.{Ok, Err, List, ℕ, ℤ}
use Rattle.table_import.specs.Table.{TableAnswer, TableLeft, table_of}
use Rattle.month_refusals.specs.Asked.{placed_told}

pub record TableCall : Type 0 where
  pub number : ℕ
  pub weather : List ℤ
  pub rows : ℕ
  pub place : ℕ

-- How many rows were written.
abbrev pub rows_of : TableAnswer → ℕ
rows_of (Ok rows) = rows
rows_of (Err e) = 0

-- The number and the place of the answer, the output, and how many rows stand at its start.
abbrev pub of_table : TableLeft → TableCall
of_table left =
    record {
      number = (placed_told left.answer).number;
      weather = left.output;
      rows = rows_of left.answer;
      place = (placed_told left.answer).place;
    }

unfoldable pub rothc_table : List ℕ → List ℤ → TableCall
rothc_table table weather = of_table (table_of table weather)
