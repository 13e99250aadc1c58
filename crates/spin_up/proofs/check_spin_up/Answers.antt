-- `spin_up::check_spin_up` meets its contract: 3, 4 to 7, then 9 and 10.
-- Assumes nothing.
use Rattle.std.proofs.Common.{arith}
use Rattle.month_refusals.proofs.First.{left_by}
use Rattle.spin_up.proofs.Laws.{weather_refused, land_refused, soil_refused, years_refused, bounds_found}
use Rattle.spin_up.proofs.check_spin_up.Goals as goal
use Rattle.spin_up.proofs.check_spin_up.Goals.{then-weather-via-then-weather, then-weather-via-else-weather+then-land}

pub returns-then-weather : goal.returns-then-weather
returns-then-weather c = elim c.then-weather.branch [
  | then-weather-via-then-weather w ↦ weather_refused _ _ _ _ w.if-weather.true
  | then-weather-via-else-weather+then-land w ↦ land_refused _ _ _ _ w.if-land.true
]

pub returns-in_err-check_soil : goal.returns-in_err-check_soil
returns-in_err-check_soil c =
    rw (left_by c.from_residual.result c.from_residual.ensures.1)
    (soil_refused _ _ _ _ c.if-weather.false c.if-land.false c.check_soil.ensures c.in_err-check_soil.was)

pub returns-in-1-to-10000 : goal.returns-in-1-to-10000
returns-in-1-to-10000 c =
    bounds_found _ _ _ _ c.if-weather.false c.if-land.false c.check_soil.ensures c.in_ok-check_soil.was (omega arith) (omega arith)
    c.check_bounds.ensures

pub returns-in_default : goal.returns-in_default
returns-in_default c =
    years_refused _ _ _ _ c.if-weather.false c.if-land.false c.check_soil.ensures c.in_ok-check_soil.was (λ some. omega arith)

pub returns-in_default-2 : goal.returns-in_default-2
returns-in_default-2 c =
    years_refused _ _ _ _ c.if-weather.false c.if-land.false c.check_soil.ensures c.in_ok-check_soil.was (λ some. omega arith)
