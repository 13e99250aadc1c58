-- The loop of `run_all` ends: each book leaves fewer bytes, and that is the measure.
use Rattle.std.proofs.Common.{length}
use Rattle.test_books.proofs.run_all.Given as goal

abbrev pub decreases-loop-book : goal.decreases-loop-book
decreases-loop-book l = length l.books
