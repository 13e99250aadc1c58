-- `library_book::book` meets its contract: the book is run, its text made, and where the output has room for it, copied.
-- Assumes nothing.
use mathlib.Core.Path.{◌≡◌, sym, ap}
use Rattle.month_refusals.specs.Asked.{placed_told}
use Rattle.month_refusals.proofs.First.{left_by}
use Rattle.book_run.specs.Book.{BookAnswer}
use Rattle.book_report.proofs.Laws.{answer-most}
use Rattle.library_book.proofs.Laws.{part_is, book_short, book_written}
use Rattle.library_book.proofs.book.Goals as goal

number_is : {a b : BookAnswer} → a ≡ b → (placed_told a).number ≡ (placed_told b).number
number_is same = ap (λ (answer : BookAnswer). (placed_told answer).number) same

pub write_answer-n-requires : goal.write_answer-n-requires
write_answer-n-requires c = answer-most _ _ c.run_book-answer.ensures.left

pub returns-then-out-n : goal.returns-then-out-n
returns-then-out-n c =
    book_short c.args.book.now c.args.out.now c.run_book-answer.ensures.left c.write_answer-n.ensures.length c.if-out-n.true

pub returns-in_err-answer : goal.returns-in_err-answer
returns-in_err-answer c =
    let made = c.write_answer-n.ensures in
    rw (left_by c.from_residual.result c.from_residual.ensures.1)
    (
    book_written c.args.book.now c.args.out.now c.run_book-answer.ensures.left made.length c.if-out-n.false
    c.write_bytes.ensures.written
    (part_is _ _ _ _ made.written made.length made.within)
    (number_is (sym c.in_err-answer.was)))

pub returns : goal.returns
returns c =
    let made = c.write_answer-n.ensures in
    book_written c.args.book.now c.args.out.now c.run_book-answer.ensures.left made.length c.if-out-n.false
    c.write_bytes.ensures.written
    (part_is _ _ _ _ made.written made.length made.within)
    (number_is (sym c.in_ok-answer.was))
