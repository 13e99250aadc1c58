-- What document 01's program writes for a book, "runs its months from the new state and writes ..",
-- and whether that is a refusal.
use Rattle.std.specs.Prelude.{Ok, Err, Bool, List, ℕ, replicate, is_err}
use Rattle.month_refusals.specs.Asked.{refusal_number}
use Rattle.book_run.specs.Book.{BookAnswer, book_of}
use Rattle.book_output.specs.Output.{finished_output, refused_output}

-- The months that a book's answer says were run.
abbrev pub months_run : BookAnswer → ℕ
months_run (Ok x) = x.months
months_run (Err e) = 0

-- The output of a book's answer and its rows: pools and totals, or on a refusal only its number and
-- line.
unfoldable pub output_of : BookAnswer → List ℕ → List ℕ
output_of (Ok x) rows = finished_output x.months x.total.0 x.co2.0 rows
output_of (Err e) rows = refused_output (refusal_number e.refusal) e.place

-- The rows before any month: zeros, seven for each of the 1,200 months that a book has at most.
abbrev pub no_rows : List ℕ
no_rows = replicate 8400 0

-- What is written for a book, whatever its bytes are.
unfoldable pub report_of : List ℕ → List ℕ
report_of book = output_of (book_of book no_rows).answer (book_of book no_rows).rows

-- Whether a book is refused, whatever its bytes are.
unfoldable pub book_refused : List ℕ → Bool
book_refused book = is_err (book_of book no_rows).answer
