-- `book_output::Text::named` meets its contract: the name, a number, a space with the other number and byte 10, one after
-- another. Assumes nothing.
use Rattle.book_output.specs.Output.{named_line}
use Rattle.book_output.proofs.Laws.{then}
use Rattle.book_output.proofs.Text.named.Goals as goal

pub returns-clause-added : goal.returns-clause-added
unfolding named_line
returns-clause-added c =
    then c.bytes.ensures (then c.decimal.ensures.added (then c.spaced.ensures.added c.bytes-2.ensures))
