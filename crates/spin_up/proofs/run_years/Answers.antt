-- `spin_up::run_years` meets its contract: a year more keeps the loop's invariant, and it holds the whole where the loop ends.
-- Assumes nothing.
use Rattle.std.proofs.Common.{sym, ◌∙◌, arith}
use Rattle.spin_up.proofs.Laws.{year_refused, year_within, year_settled, year_more, none_more}
use Rattle.spin_up.proofs.run_years.Goals as goal

pub overflow_add-before : goal.overflow_add-before
overflow_add-before c =
    let a = c.args in
    let l = c.loop-before in
    omega (
      arith,
      year_within a.weather.now a.land.now a.s.state l.state.state c.loop-before-test.true c.year-ran.ensures l.invariant c.in-Err.is,
    )

pub returns-in-Err : goal.returns-in-Err
returns-in-Err c =
    let a = c.args in
    let l = c.loop-before in
    rw c.on.ensures
    (year_refused a.weather.now a.land.now a.s.state l.state.state c.loop-before-test.true c.year-ran.ensures l.invariant c.in-Err.is)

pub returns-then-settles : goal.returns-then-settles
returns-then-settles c =
    let a = c.args in
    let l = c.loop-before in
    rw c.none_kept.ensures
    (year_settled a.weather.now a.land.now a.s.state l.state.state c.loop-before-test.true c.year-ran.ensures l.invariant c.in_default.is
    (sym c.settles.ensures ∙ c.if-settles.true))

pub loop-before-preserved : goal.loop-before-preserved
loop-before-preserved c =
    let a = c.args in
    let l = c.loop-before in
    year_more a.weather.now a.land.now a.s.state l.state.state c.loop-before-test.true c.year-ran.ensures l.invariant c.in_default.is
    (sym c.settles.ensures ∙ c.if-settles.false)

pub returns : goal.returns
returns c =
    let a = c.args in
    let l = c.loop-before in
    rw c.none_kept-2.ensures
    (none_more a.weather.now a.land.now a.s.state l.state.state (omega arith) c.loop-before-test.false l.invariant)
