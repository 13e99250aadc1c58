-- `book_run::land_section` meets its contract: the front of the array that is lent to the months is the numbers that were read.
-- Assumes nothing.
use Rattle.std.specs.Prelude.{Ok, Err}
use Rattle.month_refusals.proofs.First.{left_by, value_kept, refusal_made}
use mathlib.Core.Path.{◌≡◌, refl, sym, ◌∙◌, ap}
use mathlib.Core.List.{List}
use Prim.Native.Nat.{ℕ, ◌+◌, ◌*◌, ◌≤◌}
use native.Mathlib.Omega.{arith}
use borrow.Author.Rules.{rules}
use lib.IntN.{ℤ}
use lib.ListN.{length, take}
use Rattle.month_state.specs.declared.State.{State}
use Rattle.month_refusals.specs.Asked.{◌on◌}
use Rattle.list_rows.specs.Rows.{land_width, land_rows}
use Rattle.list_run.specs.Run.{Left, months}
use Rattle.list_run.proofs.Months.{course, place_in}
use Rattle.book_rows.specs.Rows.{begun_with, read_land}
use Rattle.book_rows.proofs.Laws.{front, land_some}
use Rattle.book_run.specs.Book.{BookAnswer, after_rows, after_months, land_months, land_section}
use Rattle.book_run.proofs.land_section.Goals as goal

-- At most as many rows were read as there are.
few : (count : ℕ) (s : List ℕ) (place line rows : ℕ) → land_width * rows ≡ length (read_land count s place line).numbers → rows ≤ count
few count s place line rows size =
    let some = land_some count s place line in
    omega (arith, size, some.most, some.size)

-- The array begins with the numbers that were read, and has the rows that were read; so what the months leave, and the answer after
-- them, are the section.
section_is :
    (count : ℕ) (s : List ℕ) (place head : ℕ) (weather : List ℤ) (state : State) (out : List ℕ) (rows : ℕ) (old new : List ℤ)
    {left : Left} {answer : BookAnswer}
    → land_width * rows ≡ length (read_land count s place (head + 1)).numbers
    → new ≡ begun_with old (read_land count s place (head + 1)).numbers
    → left ≡ months rows weather (take (land_width * rows) new) 0 state out
    → answer
    ≡ after_months left.outcome.answer head
    (after_rows (read_land count s place (head + 1)).ends s (head + 1 + count) count left.outcome.state)
    → record { answer = answer; rows = left.output } ≡ land_section count s place head weather state out
unfolding land_section
section_is count s place head weather state out rows old new {left} size begun ran is =
    let read = read_land count s place (head + 1) in
    let same : take (land_width * rows) new ≡ read.numbers =
    ap (take (land_width * rows)) begun ∙ front old read.numbers (land_width * rows) (sym size) in
    let rows_are : rows ≡ land_rows read.numbers = omega (arith, size) in
    let left_is : left ≡ land_months read weather state out =
    ran ∙ ap (λ (land : List ℤ). months rows weather land 0 state out) same
    ∙ ap (λ (n : ℕ). months n weather read.numbers 0 state out) rows_are in
    rw (is, left_is)

-- The place of a month that is refused is at most the count of rows.
pub map_err-requires : goal.map_err-requires
unfolding read_land
map_err-requires c =
    let a = c.args in
    λ e refused κs names spelled head fields.
    let place =
    place_in (course _ _ _ _ _ _) (sym (ap (λ (l : Left). l.outcome.answer) c.run_months-ran.ensures.left) ∙ refused) in
    omega (arith, place.1, few a.count a.s.now a.place (a.head + 1) _ c.read_rows-read.ensures.rows, c.requires.count)

pub returns-in_err-map_err : goal.returns-in_err-map_err
unfolding read_land
returns-in_err-map_err c =
    let a = c.args in
    let read = c.read_rows-read.ensures in
    let made = refusal_made c.run_months-ran.result.answer _ c.map_err.ensures.cases c.in_err-map_err.was in
    let placed : c.in_err-map_err.field-0.0 ≡ made.0.refusal on (a.head + made.0.place) = search (rules, made.2) in
    section_is a.count a.s.now a.place a.head a.weather.now a.state.state a.rows.now _ _ _ read.rows read.numbers
    c.run_months-ran.ensures.left
    (rw (left_by c.from_residual.result c.from_residual.ensures.1, made.1) (ap Err placed))

pub returns-in_err-end : goal.returns-in_err-end
unfolding read_land
returns-in_err-end c =
    let a = c.args in
    let read = c.read_rows-read.ensures in
    let ended : (read_land a.count a.s.now a.place (a.head + 1)).ends ≡ Err c.in_err-end.field-0.0 = sym read.ends ∙ c.in_err-end.was in
    section_is a.count a.s.now a.place a.head a.weather.now a.state.state a.rows.now _ _ _ read.rows read.numbers
    c.run_months-ran.ensures.left
    (rw (
      left_by c.from_residual-in_err-end.result c.from_residual-in_err-end.ensures.1,
      value_kept c.run_months-ran.result.answer _ c.map_err.ensures.cases c.in_ok-map_err.was,
      ended,
    )
    refl)

pub returns : goal.returns
unfolding read_land
returns c =
    let a = c.args in
    let read = c.read_rows-read.ensures in
    let ended : (read_land a.count a.s.now a.place (a.head + 1)).ends ≡ Ok c.in_ok-end.end = sym read.ends ∙ c.in_ok-end.was in
    section_is a.count a.s.now a.place a.head a.weather.now a.state.state a.rows.now _ _ _ read.rows read.numbers
    c.run_months-ran.ensures.left
    (rw (value_kept c.run_months-ran.result.answer _ c.map_err.ensures.cases c.in_ok-map_err.was, ended) c.ending.ensures)
