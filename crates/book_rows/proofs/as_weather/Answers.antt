-- `book_rows::as_weather` meets its contract: the line's values are those of its weather, which 13, 14 and 19 are asked of.
-- Assumes nothing.
use mathlib.Core.Path.{◌≡◌, sym, ◌∙◌, ap}
use Prim.Native.Nat.{◌<◌, ◌^◌}
use native.Mathlib.Omega.{arith}
use borrow.Author.Rules.{rules}
use mir.Syntax.{w64}
use mir.Val.{SFits}
use Rattle.std.specs.Prelude.{Ok, Some}
use Rattle.month_state.specs.declared.Weather.{Weather}
use Rattle.month_refusals.specs.Refusals.{weather_check}
use Rattle.month_refusals.proofs.First.{left_by}
use Rattle.book_rows.proofs.Laws.{line_there, weather_bits}
use Rattle.book_rows.proofs.as_weather.Goals as goal
use Rattle.book_rows.proofs.as_weather.Goals.{In_ok-numbers}

-- a line that is let by is there, and its values fit
module _ (c : In_ok-numbers) where
  there : c.args.line ≡ Some (c.in_ok-numbers.numbers, c.in_ok-numbers.next)
  there = line_there _ _ c.ok_or.ensures.value c.in_ok-numbers.was

  fits : (c.in_ok-numbers.numbers.rain < 2 ^ 63) × (c.in_ok-numbers.numbers.evaporation < 2 ^ 63)
  fits = c.requires.values _ _ there

pub overflow_cast-row : goal.overflow_cast-row
overflow_cast-row c = record { sfits = omega (arith, fits (goal.at.overflow_cast-row c).In_ok-numbers) }

pub overflow_cast-row-2 : goal.overflow_cast-row-2
overflow_cast-row-2 c = record { sfits = omega (arith, fits (goal.at.overflow_cast-row-2 c).In_ok-numbers) }

pub returns-in_err-check_weather : goal.returns-in_err-check_weather
returns-in_err-check_weather c =
    let line = (goal.at.returns-in_err-check_weather c).In_ok-numbers in
    let warm : SFits w64 c.in_ok-numbers.numbers.temperature = search rules in
    let same = weather_bits c.args.source c.in_ok-numbers.numbers c.ranges.source warm (fits line) in
    rw (
      left_by c.from_residual-in_err-check_weather.result c.from_residual-in_err-check_weather.ensures.1,
      there line,
      sym (c.check_weather.ensures.first ∙ ap weather_check same) ∙ c.in_err-check_weather.was,
    )

pub returns : goal.returns
returns c =
    let line = (goal.at.returns c).In_ok-numbers in
    let warm : SFits w64 c.in_ok-numbers.numbers.temperature = search rules in
    let same = weather_bits c.args.source c.in_ok-numbers.numbers c.ranges.source warm (fits line) in
    rw (there line, sym (c.check_weather.ensures.first ∙ ap weather_check same) ∙ c.in_ok-check_weather.was)
    (ap (λ (w : Weather). Ok (w, c.in_ok-numbers.next)) same)
