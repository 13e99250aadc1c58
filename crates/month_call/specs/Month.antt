-- The single month call of document 01: its steps on a soil, a deficit and the entries, and its
-- outcome.
use Rattle.std.specs.Prelude.{◌≡◌, Bool, List, Result, Ok, Err, ℕ, ◌+◌, eqb, nat_abs}
use Rattle.number_units.specs.declared.Grams.{Grams}
use Rattle.step_factors.specs.Factors.{temperature_factor, clay_number}
use Rattle.step_water.specs.Water.{max_deficit, new_deficit, moisture_factor}
use Rattle.step_survival.specs.Survival.{rate_number}
use Rattle.step_decay.specs.Rates.{survivals}
use Rattle.step_pools.specs.Pools.{grams, grams_at}
use Rattle.step_turnover.specs.Turnover.{turned_over, released, modern_turned}
use Rattle.month_state.specs.declared.Soil.{Soil}
use Rattle.month_state.specs.declared.State.{State}
use Rattle.month_state.specs.declared.Weather.{Weather}
use Rattle.month_state.specs.declared.Land.{Land}
use Rattle.month_state.specs.declared.Entries.{Entries}
use Rattle.month_state.specs.declared.Row.{Row}
use Rattle.month_state.specs.declared.Outcome.{Outcome}
use Rattle.month_state.specs.State.{one_more_kept}
use Rattle.month_refusals.specs.declared.Refusal.{Refusal}
use Rattle.month_refusals.specs.Asked.{Check}
use Rattle.month_refusals.specs.Refusals.{state_check, entries_check, month_check}
use Rattle.month_call.specs.declared.AfterSteps.{AfterSteps}

-- A month's answer: its row, or why it is refused.
abbrev pub Answer : Type 0
Answer = Result Row Refusal

-- ---- the steps

-- The entries of an accepted month are 0 or more, but for the temperature. Cover 1 is a crop.
abbrev pub crop : Land → Bool
crop l = eqb (nat_abs l.cover) 1

-- Source 1 is potential evapotranspiration.
abbrev pub potential : Weather → Bool
potential w = eqb (nat_abs w.source) 1

-- M of a soil.
abbrev pub largest_deficit : Soil → ℕ
largest_deficit s = max_deficit s.clay s.depth

-- Step 3: the new deficit, from the deficit d before the month.
unfoldable pub deficit_after : Soil → ℕ → Entries → ℕ
deficit_after s d e =
    new_deficit (crop e.land) (largest_deficit s) d
    (potential e.weather) (nat_abs e.weather.evaporation) (nat_abs e.weather.rain)

-- Steps 1, 3 and 4: N, from the new deficit d. (001's rate modifying factors a, b and c,
-- multiplied.)
unfoldable pub rate_after : Soil → ℕ → Entries → ℕ
rate_after s d e =
    rate_number (crop e.land) (temperature_factor e.weather.temperature)
    (moisture_factor (largest_deficit s) d)

-- Steps 5 and 6: the pools after a month of rate number n.
unfoldable pub pools_after : Soil → ℕ → Land → List Grams
pools_after s n l =
    turned_over s.pools (survivals n) (clay_number s.clay) s.kind
    (nat_abs l.plant) (nat_abs l.manure)

-- Step 5: the CO2 of a month of rate number n.
unfoldable pub gas_of : Soil → ℕ → ℕ
gas_of s n = released s.pools (survivals n) (clay_number s.clay)

-- The modern grams after a month of rate number n (change 2026-04): with the carbon's survival
-- numbers, clay number and kind, and with the activity of plant carbon and manure.
unfoldable pub modern_after : Soil → List Grams → ℕ → Land → List Grams
modern_after s modern n l =
    modern_turned modern (survivals n) (clay_number s.clay) s.kind
    (nat_abs l.plant) (nat_abs l.manure) (nat_abs l.activity)

-- ---- the month

-- A soil with other active pools. Clay, depth, kind and IOM stay.
abbrev pub with_pools : Soil → List Grams → Soil
with_pools s pools =
    record { clay = s.clay; depth = s.depth; kind = s.kind; pools = pools; iom = s.iom }

-- The state after an accepted month: active pools, D, months done, CO2 to date and modern grams
-- moved on, and one more kept. d is the new deficit and n the rate number, here and in the row.
unfoldable pub moved_to : State → Land → ℕ → ℕ → State
moved_to s l d n =
    record {
      soil = with_pools s.soil (pools_after s.soil n l);
      deficit = record { 0 = d };
      months = s.months + 1;
      co2 = grams (s.co2.0 + gas_of s.soil n);
      modern = modern_after s.soil s.modern n l;
      kept = one_more_kept s.kept;
    }

-- The row of a month: the five pools after it, its CO2 and the new deficit.
unfoldable pub row_of : Soil → Land → ℕ → ℕ → Row
row_of s l d n =
    record {
      dpm = grams (grams_at (pools_after s n l) 0);
      rpm = grams (grams_at (pools_after s n l) 1);
      bio = grams (grams_at (pools_after s n l) 2);
      hum = grams (grams_at (pools_after s n l) 3);
      iom = s.iom;
      co2 = grams (gas_of s n);
      deficit = record { 0 = d };
    }

-- The new deficit and the rate number of a state's month.
unfoldable pub next_deficit : State → Entries → ℕ
next_deficit s e = deficit_after s.soil s.deficit.0 e

unfoldable pub next_rate : State → Entries → ℕ
next_rate s e = rate_after s.soil (next_deficit s e) e

-- What a state and its month's entries have to pass: 4 to 7 and 10, and 12 to 17 with 19 and 21.
pub record Accepted (s : State) (e : Entries) : Type 0 where
  pub state : state_check s ≡ Ok tt
  pub entries : entries_check s e ≡ Ok tt

-- Steps 1 to 6 of a state's month: the pools after it, its CO2, the new deficit, and the modern
-- grams after it.
unfoldable pub steps_of : State → Entries → AfterSteps
steps_of s e =
    record {
      pools = pools_after s.soil (next_rate s e) e.land;
      co2 = grams (gas_of s.soil (next_rate s e));
      deficit = record { 0 = next_deficit s e };
      modern = modern_after s.soil s.modern (next_rate s e) e.land;
    }

-- An accepted month gives its row and the state moved on; a refused one the refusal and the very
-- state that it was given.
unfoldable pub outcome_of : Check → State → Entries → Outcome Answer State
outcome_of (Ok _) s e =
    record {
      answer = Ok (row_of s.soil e.land (next_deficit s e) (next_rate s e));
      state = moved_to s e.land (next_deficit s e) (next_rate s e);
    }
outcome_of (Err refusal) s e = record { answer = Err refusal; state = s }

-- The single month call, ..
unfoldable pub month_call : State → ℕ → Entries → Outcome Answer State
month_call s number e = outcome_of (month_check s number e) s e

-- .. and a list's month, of which 12 to 17, 19 and 21 are asked and no month number.
unfoldable pub list_month : State → Entries → Outcome Answer State
list_month s e = outcome_of (entries_check s e) s e
