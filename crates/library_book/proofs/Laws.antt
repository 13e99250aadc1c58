-- Laws of the library's book that its function rests on: the text that is made is the book's report, and what is copied of it.
-- Assumes nothing.
use mathlib.Core.Path.{◌≡◌, ◌∙◌, sym, ap}
use mathlib.Core.List.{List}
use Prim.Native.Nat.{ℕ, ◌+◌, ◌≤◌, ◌<◌}
use native.Mathlib.Omega.{arith}
use borrow.Author.Tests.{lt-ltb, le-ltb}
use lib.ListN.{length, take, drop}
use lib.Seq.{take_at}
use Rattle.month_refusals.specs.declared.Refusal.TheVariants.{Room}
use Rattle.month_refusals.specs.Asked.{refusal_number, placed_told}
use Rattle.book_digits.specs.Digits.{overwritten}
use Rattle.book_digits.proofs.Writing.{length-overwritten, overwritten_is}
use Rattle.book_run.specs.Book.{BookAnswer, book_of}
use Rattle.book_report.specs.Report.{no_rows, output_of, report_of}
use Rattle.library_book.specs.Calls.{rothc_book}

-- Bytes that were put at the start of a text are its first part.
pub part_is : (text before bytes : List ℕ) (n : ℕ) → text ≡ overwritten before 0 bytes → n ≡ length bytes → n ≤ length text
    → take n text ≡ bytes
part_is text before bytes n is size within =
    let same : length text ≡ length before = ap length is ∙ length-overwritten before 0 bytes in
    rw (is, overwritten_is before 0 bytes (omega arith)) (take_at bytes (drop (0 + length bytes) before) n (sym size))

module _
    (book out : List ℕ)
    {answer : BookAnswer}
    {rows : List ℕ}
    {n : ℕ}
    (ran : record { answer = answer; rows = rows } ≡ book_of book no_rows)
    (size : n ≡ length (output_of answer rows))
  where
    -- What is written of the answer and its rows is the book's report.
    whole-report : output_of answer rows ≡ report_of book
    unfolding report_of
    whole-report = rw (sym ran)

    pub book_short : length out < n → record { number = refusal_number Room; out = out; size = n } ≡ rothc_book book out
    unfolding rothc_book
    book_short short =
        let same : n ≡ length (report_of book) = size ∙ ap length whole-report in
        let shorter : length out < length (report_of book) = omega arith in
        rw (lt-ltb (length out) (length (report_of book)) shorter, same)

    pub book_written :
        {left text : List ℕ} {number : ℕ} → n ≤ length out → left ≡ overwritten out 0 text → text ≡ output_of answer rows
        → number ≡ (placed_told answer).number → record { number = number; out = left; size = n } ≡ rothc_book book out
    unfolding rothc_book
    book_written room wrote is told =
        let same : n ≡ length (report_of book) = size ∙ ap length whole-report in
        let fits : length (report_of book) ≤ length out = omega arith in
        rw (le-ltb (length out) (length (report_of book)) fits, same, wrote, is, told, whole-report, ← ran)
