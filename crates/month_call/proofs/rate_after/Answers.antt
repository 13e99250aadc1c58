-- `month_call::rate_after` meets its contract: A, M and B are in the ranges that the callees ask.
-- Assumes nothing.
use Rattle.std.proofs.Common.{◌∙◌, ap, ℕ, arith}
use Rattle.step_factors.specs.Factors.{temperature_factor}
use Rattle.step_water.specs.Water.{moisture_factor}
use Rattle.step_water.proofs.Laws.{moisture_factor_top}
use Rattle.month_call.specs.Month.{rate_after}
use Rattle.month_refusals.proofs.Accepted.{sound-state, ready, entries-parts}
use Rattle.month_call.proofs.Steps.{deficit_range, temperature_back}
use Rattle.month_call.proofs.rate_after.Goals as goal

pub under_crop-crop-requires : goal.under_crop-crop-requires
under_crop-crop-requires c = (entries-parts c.args.s c.args.e c.requires.0.entries).land

pub temperature_factor-a-requires : goal.temperature_factor-a-requires
temperature_factor-a-requires c =
    let temperature = (ready c.args.s c.args.e c.requires.0.entries).weather.temperature in
    rw (temperature_back _ temperature) temperature.to

pub moisture_factor-b-requires : goal.moisture_factor-b-requires
moisture_factor-b-requires c =
    let s = c.args.s in
    let m = deficit_range s.soil (sound-state s c.requires.0.state).soil in
    (omega (arith, m, c.requires.1), omega (arith, m, c.requires.1), c.requires.2)

pub rate_number-requires : goal.rate_number-requires
rate_number-requires c =
    let m = moisture_factor-b-requires c.before in (
      c.temperature_factor-a.ensures.2,
      omega (arith, c.moisture_factor-b.ensures, moisture_factor_top c.args.largest.0 c.args.d.0 m.0),
    )

pub returns : goal.returns
unfolding rate_after
returns c =
    let d = c.args.d.0 in
    let temperature = (ready c.args.s c.args.e c.requires.0.entries).weather.temperature in
    let factor = c.temperature_factor-a.ensures.0 ∙ ap temperature_factor (temperature_back _ temperature) in
    let moisture = c.moisture_factor-b.ensures ∙ ap (λ (m : ℕ). moisture_factor m d) c.requires.1 in
    c.rate_number.ensures ∙ rw (c.under_crop-crop.ensures, factor, moisture)
