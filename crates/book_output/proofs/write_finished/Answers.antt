-- `book_output::write_finished` meets its contract: the head, the months' lines and the totals, one after another. Assumes
-- nothing.
use mathlib.Core.Path.{◌∙◌}
use native.Mathlib.Nat.{zero-add}
use native.Mathlib.Omega.{arith}
use borrow.Author.Rules.{rules}
use Rattle.book_output.specs.Output.{finished_output}
use Rattle.book_output.proofs.Laws.{then}
use Rattle.book_output.proofs.write_finished.Goals as goal

pub returns : goal.returns
unfolding finished_output
returns c =
    let whole = then c.pools.ensures.added (then c.rows.ensures.added c.named.ensures.added) in
    record { length = whole.len ∙ zero-add _; written = search (rules, whole.out, whole.same); most = omega arith }
