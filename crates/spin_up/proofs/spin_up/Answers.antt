-- `spin_up::spin_up` meets its contract: a spin-up that passes its checks has the outcome of its years, and any other its refusal.
-- Assumes nothing.
use Rattle.std.proofs.Common.{sym, ◌∙◌, ap₂, ◌≡◌}
use Rattle.spin_up.specs.SpinUp.{years}
use Rattle.spin_up.proofs.Laws.{before, passes_spin, refuses_spin}
use Rattle.spin_up.proofs.Reached.{outcome_told, outcome_exactly, outcome_reached}
use Rattle.spin_up.proofs.spin_up.Goals as goal

pub invariant_of-start : goal.invariant_of-start
invariant_of-start c = record { passes = (before _ _ _ _ (sym c.check_spin_up.ensures.first ∙ c.in-Ok.is)).state }

pub unwrap-weather-requires : goal.unwrap-weather-requires
unwrap-weather-requires c = c.as_array.ensures.variant.1 (before _ _ _ _ (sym c.check_spin_up.ensures.first ∙ c.in-Ok.is)).twelve_weather

pub unwrap-land-requires : goal.unwrap-land-requires
unwrap-land-requires c = c.as_array-in-Ok.ensures.variant.1 (before _ _ _ _ (sym c.check_spin_up.ensures.first ∙ c.in-Ok.is)).twelve_land

pub run_years-requires : goal.run_years-requires
run_years-requires c = (before _ _ _ _ (sym c.check_spin_up.ensures.first ∙ c.in-Ok.is)).most

pub returns-in-Ok : goal.returns-in-Ok
returns-in-Ok c =
    let a = c.args in
    let weather : c.unwrap-weather.result.now ≡ a.weather.now = (rw c.unwrap-weather.ensures at c.as_array.ensures.cases).same in
    let land : c.unwrap-land.result.now ≡ a.land.now = (rw c.unwrap-land.ensures at c.as_array-in-Ok.ensures.cases).same in
    let is =
    c.run_years.ensures ∙ ap₂ (λ w l. years a.allowed w l 0 a.s a.s) weather land
    ∙ passes_spin a.s a.weather.now a.land.now a.allowed (sym c.check_spin_up.ensures.first ∙ c.in-Ok.is) in
    record {
      outcome = is;
      told = outcome_told _ _ _ _ is;
      exactly = outcome_exactly _ _ _ _ is;
      years = outcome_reached _ _ _ _ is;
    }

pub returns-in-Err : goal.returns-in-Err
returns-in-Err c =
    let is = refuses_spin _ _ _ _ (sym c.check_spin_up.ensures.first ∙ c.in-Err.is) in
    rw c.on.ensures
    (record {
      outcome = is;
      told = outcome_told _ _ _ _ is;
      exactly = outcome_exactly _ _ _ _ is;
      years = outcome_reached _ _ _ _ is;
    })
