-- `list_run::run_months` meets its contract: a month more keeps the loop's invariant, and it holds the whole where the loop ends.
-- Assumes nothing.
use Rattle.std.proofs.Common.{◌≡◌, ◌∙◌, ap, ◌+◌, ◌-◌, arith}
use native.Mathlib.Nat.{mod-add-mod}
use Rattle.month_state.proofs.Counting.{none_left}
use Rattle.month_call.specs.Month.{Answer, list_month}
use Rattle.list_rows.specs.Rows.{weather_rows}
use Rattle.list_run.specs.Run.{ended, months, kept_months}
use Rattle.list_run.proofs.Laws.{month_more, month_last, month_kept, kept_now}
use Rattle.list_run.proofs.run_months.Goals as goal

pub loop-j-preserved : goal.loop-j-preserved
loop-j-preserved c =
    let a = c.args in
    let l = c.loop-j in
    let is = c.list_month-month.ensures ∙ ap (list_month l.state.state) c.entries_at.ensures in
    record {
      weather_row = c.next_weather-i.ensures ∙ rw l.invariant.weather_row (mod-add-mod l.j (weather_rows a.weather.now) 1);
      whole =
          rw c.put_row.ensures
          (month_more a.weather.now a.land.now l.state.state l.out c.loop-j-test.true is c.in-Ok.is l.invariant.whole);
      kept =
          month_kept a.weather.now a.land.now l.state.state l.out c.loop-j-test.true is
          (λ n. kept_months n a.weather.now a.land.now 0 a.s.state a.memory.now) l.memory c.keep.ensures l.invariant.kept;
    }

-- A month that is refused ends the list, and those before it are kept.
pub returns-in_default : goal.returns-in_default
returns-in_default c =
    let a = c.args in
    let l = c.loop-j in
    let is = c.list_month-month.ensures ∙ ap (list_month l.state.state) c.entries_at.ensures in
    let ran : l.j + 1 - 1 ≡ l.j = omega arith in
    let ends = c.ended.ensures ∙ ap (λ (answer : Answer). ended answer (l.j + 1)) c.in_default.is in
    record {
      left =
          rw ends
          (month_last a.weather.now a.land.now l.state.state l.out c.loop-j-test.true is c.in_default.is l.invariant.whole);
      kept =
          rw ends
          (kept_now a.weather.now a.land.now l.state.state
          (λ n. kept_months n a.weather.now a.land.now 0 a.s.state a.memory.now) ran l.invariant.kept);
    }

-- No month is left, and all of them are kept.
pub returns : goal.returns
unfolding months
returns c =
    let a = c.args in
    let l = c.loop-j in
    let all : a.count ≡ l.j = omega arith in
    record {
      left = rw (none_left c.loop-j-test.false) at l.invariant.whole;
      kept =
          kept_now a.weather.now a.land.now l.state.state
          (λ n. kept_months n a.weather.now a.land.now 0 a.s.state a.memory.now) all l.invariant.kept;
    }
