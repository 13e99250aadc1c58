-- The loop's invariant: what is left of the months, of the rows that they write and of what they keep is the whole.
use Rattle.std.proofs.Common.{◌≡◌, ℕ, ◌+◌, ◌-◌, ◌%◌}
use Rattle.list_rows.specs.Rows.{weather_rows}
use Rattle.list_run.specs.Run.{months, kept_months}
use Rattle.list_run.proofs.run_months.Given as goal

abbrev pub invariant-loop-j : goal.invariant-loop-j
invariant-loop-j l =
    record {
      weather_row : l.i ≡ l.j % weather_rows l.weather;
      whole : months (l.count - l.j) l.weather l.land l.j l.state.state l.out ≡ months l.count l.weather l.land 0 l.fn.s.state l.fn.out;
      kept : (k : ℕ) → kept_months (l.j + k) l.weather l.land 0 l.fn.s.state l.fn.memory ≡ kept_months k l.weather l.land l.j l.state.state l.memory;
    }
