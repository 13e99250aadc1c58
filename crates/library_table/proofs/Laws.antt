-- A law of the library's table that its function rests on: how many rows an answer has.
-- Assumes nothing.
use Rattle.std.specs.Prelude.{Ok, Err}
use Rattle.std.specs.Result.{result_unwrap_or}
use mathlib.Core.Path.{◌≡◌, refl}
use Rattle.table_import.specs.Table.{TableAnswer}
use Rattle.library_table.specs.Calls.{rows_of}

-- None where it is refused.
pub rows_are : (answer : TableAnswer) → result_unwrap_or answer 0 ≡ rows_of answer
rows_are (Ok rows) = refl
rows_are (Err e) = refl
