-- `book_run::weather_section` meets its contract: where reading the weather ends with the next line, the front of the slice is the
-- weather's numbers, and the land follows.
-- Assumes nothing.
use mathlib.Core.Path.{◌≡◌, refl, sym, ◌∙◌}
use Prim.Native.Nat.{◌*◌}
use native.Mathlib.Omega.{arith}
use Rattle.std.specs.Prelude.{Ok, Err}
use Rattle.month_refusals.proofs.First.{left_by}
use Rattle.list_rows.specs.Rows.{weather_width}
use Rattle.book_rows.specs.Rows.{read_weather}
use Rattle.book_rows.proofs.Laws.{weather_full, front_begun}
use Rattle.book_run.specs.Book.{weather_section}
use Rattle.book_run.proofs.weather_section.Goals as goal

pub returns-in_err-next : goal.returns-in_err-next
unfolding weather_section read_weather
returns-in_err-next c =
    let a = c.args in
    let ended : (read_weather a.count a.s.now a.place 4).ends ≡ Err c.in_err-next.field-0.0 =
    sym c.read_rows.ensures.ends ∙ c.in_err-next.was in
    rw (left_by c.from_residual.result c.from_residual.ensures.1, ended) refl

pub returns : goal.returns
unfolding weather_section read_weather
returns c =
    let a = c.args in
    let read = c.read_rows.ensures in
    let ended : (read_weather a.count a.s.now a.place 4).ends ≡ Ok c.in_ok-next.next = sym read.ends ∙ c.in_ok-next.was in
    -- every row was read
    let size = weather_full a.count a.s.now a.place 4 c.in_ok-next.next ended in
    -- the slice that is lent to the land
    let numbers =
    front_begun (weather_width * a.count) _ c.read_rows.new.numbers _ size (omega (arith, c.requires.1)) read.numbers in
    rw ended (rw numbers at c.land_head.ensures)
