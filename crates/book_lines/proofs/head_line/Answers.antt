-- `book_lines::head_line` meets its contract: where a name of some bytes stands, the place after it lies within the text.
-- Assumes nothing.
use mathlib.Core.Path.{sym, ◌∙◌}
use native.Mathlib.Omega.{arith}
use native.Mathlib.Decide.{dec_lt}
use lib.ListN.{length}
use Rattle.book_lines.proofs.Parts.{bytes_within}
use Rattle.book_lines.proofs.head_line.Goals as goal

pub overflow_add-at : goal.overflow_add-at
overflow_add-at c =
    let a = c.args in
    elim (dec_lt 0 (length a.name.now)) [
      | yes some ↦
          omega (arith, bytes_within a.s.now a.at a.name.now (sym c.bytes_are.ensures ∙ c.if-bytes_are.true) some)
      | no none ↦ omega arith
    ]
