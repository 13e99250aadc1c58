-- `book_output::Text::spaced` meets its contract: a space, and the number after it. Assumes nothing.
use Rattle.book_output.proofs.Laws.{then}
use Rattle.book_output.proofs.Text.spaced.Goals as goal

pub returns-clause-added : goal.returns-clause-added
returns-clause-added c = then c.bytes.ensures c.decimal.ensures.added
