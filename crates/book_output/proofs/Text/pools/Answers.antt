-- `book_output::Text::pools` meets its contract: the name, the count and byte 10, one after another. Assumes nothing.
use Rattle.book_output.specs.Output.{pools_line}
use Rattle.book_output.proofs.Laws.{then}
use Rattle.book_output.proofs.Text.pools.Goals as goal

pub returns-clause-added : goal.returns-clause-added
unfolding pools_line
returns-clause-added c = then c.bytes.ensures (then c.decimal.ensures.added c.bytes-2.ensures)
