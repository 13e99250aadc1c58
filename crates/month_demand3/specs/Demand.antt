-- Demand 3, as one claim about every list of single month calls from the new state of every soil
-- that 4 to 7 accept.
use Rattle.std.specs.Prelude.{◌≡◌, List, Ok, ◌+◌, ◌*◌}
use Rattle.number_exact.specs.Fraction.{Fraction, ◌≼◌, whole, ◌⊞◌, distance}
use Rattle.step_pools.specs.Pools.{grams_at, total}
use Rattle.month_state.specs.declared.Soil.{Soil}
use Rattle.month_state.specs.declared.State.{State}
use Rattle.month_refusals.specs.Refusals.{soil_check}
use Rattle.month_state.specs.State.{new_state}
use Rattle.month_demand3.specs.Calls.{Call, run_calls, accepted_calls, added_carbon}
use Rattle.month_demand3.specs.Recurrence.{Exact, Leads, exact_start, feed}

-- The distances of the four active pools of a state from the recurrence's, added.
abbrev pub total_distance : State → Exact → Fraction
total_distance s x =
    distance (whole (grams_at s.soil.pools 0)) x.dpm
    ⊞ distance (whole (grams_at s.soil.pools 1)) x.rpm
    ⊞ distance (whole (grams_at s.soil.pools 2)) x.bio
    ⊞ distance (whole (grams_at s.soil.pools 3)) x.hum

-- (a) Active pools plus CO2 to date equal, to the gram, the starting active pools plus all carbon
-- added by the accepted calls. (b) The four distances add up to at most 20 grams times the accepted
-- calls, whatever allowed survival fractions the recurrence uses in each month and for each pool.
pub record Demand3For (s : Soil) (calls : List Call) : Type 0 where
  pub balance :
      total (run_calls (new_state s) calls).soil.pools + (run_calls (new_state s) calls).co2.0
      ≡ total s.pools + added_carbon (new_state s) calls
  pub distances :
      (x : Exact) → Leads s (feed (new_state s) calls) (exact_start s) x
      → total_distance (run_calls (new_state s) calls) x
      ≼ whole (20 * accepted_calls (new_state s) calls)

pub record Demand3 : Type 0 where
  pub holds : (s : Soil) → soil_check s ≡ Ok tt → (calls : List Call) → Demand3For s calls
