-- `month_checks::check_entries` meets its contract: below the month limit, a refused weather is refused whatever the land.
-- Assumes nothing.
use native.Mathlib.Omega.{arith}
use borrow.Author.Tests.{lt-leb}
use Rattle.month_refusals.specs.Refusals.{limit_reached, entries_asked}
use Rattle.month_refusals.proofs.First.{asked-false, left_by, part_refuses}
use Rattle.month_checks.proofs.check_entries.Goals as goal

pub returns-in_err-check_weather : goal.returns-in_err-check_weather
unfolding entries_asked limit_reached
returns-in_err-check_weather c =
    asked-false (lt-leb _ _ (omega arith))
    (part_refuses _ _ c.check_weather.ensures c.in_err-check_weather.was (left_by c.from_residual.result c.from_residual.ensures.1))
