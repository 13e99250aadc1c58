-- A book's weather line gives its row's numbers.
-- Assumes nothing.
use mathlib.Core.Path.{◌≡◌, sym, ◌∙◌, ap}
use Rattle.std.specs.Prelude.{Ok}
use Rattle.month_refusals.proofs.First.{left_by}
use Rattle.book_rows.specs.Rows.{weather_row, weather_gives}
use Rattle.book_rows.proofs.Laws.{weather_fits}
use Rattle.book_rows.proofs.WeatherOfBookRowLine.row.Goals as goal

pub as_weather-requires : goal.as_weather-requires
as_weather-requires c = rw c.weather_line.ensures (weather_fits _ _)

pub returns-in_err-weather : goal.returns-in_err-weather
unfolding weather_row
returns-in_err-weather c =
    let is = sym (c.as_weather.ensures ∙ rw c.weather_line.ensures) ∙ c.in_err-weather.was in
    rw (left_by c.from_residual.result c.from_residual.ensures.1) (sym (ap weather_gives is))

pub returns : goal.returns
unfolding weather_row
returns c =
    let is : weather_row c.args.s.now c.args.place ≡ Ok (c.in_ok-weather.weather, c.in_ok-weather.next) =
    sym (c.as_weather.ensures ∙ rw c.weather_line.ensures) ∙ c.in_ok-weather.was in
    rw c.weather_numbers.ensures (sym (ap weather_gives is))
