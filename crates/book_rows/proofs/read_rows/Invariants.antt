-- The loop's invariant is `Reading`: what was read, before what the rows that are left give, is the whole.
use Rattle.list_rows.specs.Rows.{weather_width}
use Rattle.book_rows.proofs.Laws.{Reading}
use Rattle.book_rows.proofs.read_rows.Given as goal

abbrev pub invariant-loop-i : goal.invariant-loop-i
invariant-loop-i g l = Reading g.R.RowLine.gives weather_width l.s l.place l.line l.count l.fn.numbers l.numbers l.next l.i
