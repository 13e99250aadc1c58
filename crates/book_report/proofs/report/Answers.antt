-- `book_report::report` meets its contract: a book's answer has run at most 1,200 months.
-- Written out: tried by `using`, and the check does not find it.
-- Assumes nothing.
use Rattle.book_report.proofs.Laws.{answer-most}
use Rattle.book_report.proofs.report.Goals as goal

pub write_answer-length-requires : goal.write_answer-length-requires
write_answer-length-requires c = answer-most _ _ c.run_book-answer.ensures.left
