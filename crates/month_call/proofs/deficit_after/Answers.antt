-- `month_call::deficit_after` meets its contract: a sound state and ready entries are in the ranges that the callees ask.
-- Assumes nothing.
use Rattle.std.proofs.Common.{◌∙◌, ap, ℕ, nat_abs, arith}
use Rattle.step_water.specs.Water.{new_deficit}
use Rattle.month_call.specs.Month.{crop, potential, deficit_after, next_deficit}
use Rattle.month_refusals.proofs.Accepted.{Sound, sound-state, ready, entries-parts}
use Rattle.month_checks.proofs.Checked.{natural_asked, natural_in_range}
use Rattle.month_call.proofs.Steps.{deficit_range}
use Rattle.month_call.proofs.deficit_after.Goals as goal

pub under_crop-crop-requires : goal.under_crop-crop-requires
under_crop-crop-requires c = (entries-parts c.args.s c.args.e c.requires.0.entries).land

pub evaporation_of-evaporation-requires : goal.evaporation_of-evaporation-requires
evaporation_of-evaporation-requires c = (entries-parts c.args.s c.args.e c.requires.0.entries).weather

pub natural-rain-requires : goal.natural-rain-requires
natural-rain-requires c =
    natural_asked (omega arith) (ready c.args.s c.args.e c.requires.0.entries).weather.rain

pub new_deficit-requires : goal.new_deficit-requires
new_deficit-requires c =
    let s = c.args.s in
    let sound : Sound s = sound-state s c.requires.0.state in
    let m = deficit_range s.soil sound.soil in
    let h = (ready s c.args.e c.requires.0.entries).weather in
    let rain = natural_in_range (omega arith) c.natural-rain.ensures h.rain in (
      omega (arith, m, c.requires.1),
      omega (arith, m, sound.deficit),
      c.evaporation_of-evaporation.ensures.tenths.1,
      rain.1,
    )

pub returns : goal.returns
unfolding next_deficit deficit_after
returns c =
    let s = c.args.s in
    let e = c.args.e in
    let w = e.weather in
    let evaporation = c.evaporation_of-evaporation.ensures in
    let rain = natural_in_range (omega arith) c.natural-rain.ensures (ready s e c.requires.0.entries).weather.rain in
    c.new_deficit.ensures
    ∙ rw (c.under_crop-crop.ensures, evaporation.source, evaporation.tenths.0, rain.0)
    (ap
    (λ (m : ℕ). new_deficit (crop e.land) m s.deficit.0 (potential w) (nat_abs w.evaporation) (nat_abs w.rain))
    c.requires.1)
