-- What rothc_book returns and leaves in lent memory.
use Rattle.std.specs.Prelude.{cond, List, ℕ, ltb, length}
use Rattle.month_refusals.specs.declared.Refusal.TheVariants.{Room}
use Rattle.month_refusals.specs.Asked.{refusal_number, placed_told}
use Rattle.book_digits.specs.Digits.{overwritten}
use Rattle.book_run.specs.Book.{book_of}
use Rattle.book_report.specs.Report.{no_rows, report_of}

pub record BookLeft : Type 0 where
  pub number : ℕ
  pub out : List ℕ
  pub size : ℕ

-- What the program writes for the book, from the output's first byte on, and how many bytes that
-- is; the number is that of the book's answer. 8: the output is too short for the text, and then it
-- stays as it was.
unfoldable pub rothc_book : List ℕ → List ℕ → BookLeft
rothc_book book out =
    cond (ltb (length out) (length (report_of book)))
    (record { number = refusal_number Room; out = out; size = length (report_of book) })
    (record {
      number = (placed_told (book_of book no_rows).answer).number;
      out = overwritten out 0 (report_of book);
      size = length (report_of book);
    })
