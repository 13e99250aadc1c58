-- Two years that show what settles one, computed.
-- Assumes nothing.
use Rattle.std.specs.Prelude.{Ok}
use mathlib.Core.Path.{◌≡◌, refl}
use mathlib.Core.Bool.{false}
use Prim.Native.Nat.{ℕ, zero, suc, ◌<◌}
use native.Mathlib.Omega.{arith}
use Rattle.step_factors.specs.TemperatureTable.{temperature_table}
use Rattle.step_factors.specs.ClayTable.{clay_table}
use Rattle.step_factors.specs.Factors.{temperature_factor, factor_at, clay_number}
use Rattle.step_water.specs.Water.{max_deficit, bare_limit, drying, deficit_cap, clamped, new_deficit, halves_up, moisture_factor}
use Rattle.step_powers.specs.Powers.{powers, power_at}
use Rattle.step_survival.specs.Survival.{rate_number, ratio, parts, survival_at, survival_of, survival_number}
use Rattle.step_survival.specs.Series.{term, terms_from, summed_terms, alternating, series}
use Rattle.step_pools.specs.Pools.{share, total}
use Rattle.step_decay.specs.Decay.{decayed, losses, split}
use Rattle.step_decay.specs.Rates.{survivals}
use Rattle.step_additions.specs.Additions.{plant_to_dpm, added}
use Rattle.step_modern.specs.Modern.{modern_grams, aged}
use Rattle.step_turnover.specs.Turnover.{turned_over, released, modern_turned}
use Rattle.month_state.specs.State.{new_state}
use Rattle.month_refusals.specs.Asked.{first_of}
use Rattle.month_refusals.specs.Refusals.{activity_outside, additions_outside, bounds_asked, bounds_passed, carbon_above, carbon_asked, carbon_bounds_passed, ceiling_passed, clay_outside, cover_outside, depth_outside, entries_asked, kind_other, land_asked, limit_reached, modern_above, soil_asked, source_outside, state_asked, temperature_outside, water_outside, weather_asked}
use Rattle.month_call.specs.Month.{deficit_after, gas_of, list_month, modern_after, moved_to, next_deficit, next_rate, outcome_of, pools_after, rate_after, row_of, steps_of}
use Rattle.list_rows.specs.Rows.{entries_at, entries_of, land_from, weather_from}
use Rattle.list_run.specs.Run.{months}
use Rattle.spin_up.specs.SpinUp.{settles, pools_settle, year_outcome, years, twelve_asked, allowed_asked, before_years, spin_up}
use Rattle.spin_up.specs.Reached.{after_years, answer_after}
use Rattle.spin_up.specs.Settled.{total_after}
use Rattle.known_figures.specs.SettledYears.{rothamsted, cropping, warren_close, SettledYears}

pub settled_years : SettledYears
unfolding activity_outside additions_outside bounds_asked bounds_passed carbon_above carbon_asked carbon_bounds_passed ceiling_passed clay_outside cover_outside depth_outside entries_asked kind_other land_asked limit_reached modern_above soil_asked source_outside state_asked temperature_outside water_outside weather_asked settles pools_settle year_outcome years twelve_asked allowed_asked before_years spin_up after_years months entries_at entries_of land_from weather_from deficit_after gas_of list_month modern_after moved_to next_deficit next_rate outcome_of pools_after rate_after row_of steps_of first_of new_state turned_over released modern_turned modern_grams aged plant_to_dpm added survivals decayed losses split share total series alternating summed_terms terms_from term survival_number survival_of survival_at parts ratio rate_number power_at powers max_deficit bare_limit drying deficit_cap clamped new_deficit halves_up moisture_factor temperature_factor factor_at temperature_table clay_number clay_table
settled_years =
    record {
      total_counts = record { accepted = refl; ran = refl; pools = refl; total = refl };
      pools_count = record { accepted = refl; ran = refl; total = refl; pools = refl };
      by_total = record {
        earlier = 2;
        count = refl;
        within = omega arith;
        finished = three (λ k. answer_after k rothamsted cropping warren_close ≡ Ok tt) refl refl refl;
        unsettled = two (λ k. total_after k rothamsted cropping warren_close ≡ false) refl refl;
        settles = refl;
      };
      not_now = refl;
    }
  where
    three : (P : ℕ → Type 0) → P 0 → P 1 → P 2 → (k : ℕ) → k < 3 → P k
    three P a b c zero lt = a
    three P a b c (suc zero) lt = b
    three P a b c (suc (suc zero)) lt = c
    three P a b c (suc (suc (suc k))) lt = absurd (omega arith)

    two : (P : ℕ → Type 0) → P 0 → P 1 → (k : ℕ) → k < 2 → P k
    two P a b zero lt = a
    two P a b (suc zero) lt = b
    two P a b (suc (suc k)) lt = absurd (omega arith)
