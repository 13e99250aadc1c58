-- `book_rows::read_rows` meets its contract.
-- Assumes nothing.
use Rattle.std.specs.Prelude.{Err}
use mathlib.Core.Path.{◌≡◌, sym, ◌∙◌, ap}
use Prim.Native.Nat.{ℕ, ◌*◌}
use native.Mathlib.Omega.{arith}
use borrow.Author.Rules.{rules}
use lib.ListN.{length}
use Rattle.list_rows.specs.Rows.{weather_width}
use Rattle.book_rows.specs.Rows.{row_gives}
use Rattle.book_rows.proofs.Laws.{row_put, ends-refused, ends_next}
use Rattle.book_rows.proofs.read_rows.Goals as goal

pub loop-i-preserved : goal.loop-i-preserved
loop-i-preserved g c =
    let wide : length c.in-Ok.found.0 ≡ weather_width = search rules in
    row_put c.loop-i.invariant c.loop-i-test.true (sym c.row.ensures ∙ ap row_gives c.in-Ok.is) wide c.put_numbers.ensures

pub returns-in-Err : goal.returns-in-Err
returns-in-Err g c =
    let ended = ends-refused c.loop-i.invariant c.loop-i-test.true (sym c.row.ensures ∙ ap row_gives c.in-Err.is) in
    record { rows = ended.0; ends = ap Err c.on.ensures ∙ ended.1.0; numbers = ended.1.1 }

pub returns : goal.returns
returns g c =
    let ended = ends_next c.loop-i.invariant c.loop-i-test.false in
    let all : c.args.count ≡ c.loop-i.i = omega (arith, c.loop-i.invariant.turn, c.loop-i-test.false) in
    record { rows = ap (λ (n : ℕ). weather_width * n) all ∙ ended.0; ends = ended.1.0; numbers = ended.1.1 }
