-- `table_lines::read_tenths` meets its contract: the digit after the dot stands within the text. Assumes nothing.
use native.Mathlib.Omega.{arith}
use Rattle.book_values.proofs.Reading.{digit_place}
use Rattle.table_lines.proofs.read_tenths.Goals as goal

pub overflow_add-result-2 : goal.overflow_add-result-2
overflow_add-result-2 c = omega (arith, digit_place _ _ _ c.in_ok-tenths.ensures)
