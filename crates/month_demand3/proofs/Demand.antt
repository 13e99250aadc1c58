-- Demand 3: (a) is Balance.antt's and (b) Distance.antt's, each from the new state of a soil. Assumes nothing.
use mathlib.Core.Path.{◌≡◌}
use mathlib.Core.List.{List}
use Prim.Native.Nat.{◌+◌, ◌*◌}
use native.Mathlib.Nat.{zero-add}
use native.Mathlib.Omega.{arith}
use Rattle.number_exact.specs.Fraction.{◌≼◌, whole}
use Rattle.step_pools.specs.Pools.{total}
use Rattle.month_state.specs.declared.Soil.{Soil}
use Rattle.month_state.specs.State.{new_state}
use Rattle.month_demand3.specs.Calls.{Call, run_calls, accepted_calls, added_carbon}
use Rattle.month_demand3.specs.Recurrence.{Exact, Leads, exact_start, feed}
use Rattle.month_demand3.specs.Demand.{total_distance, Demand3}
use Rattle.month_demand3.proofs.Balance.{calls-balance}
use Rattle.month_demand3.proofs.Distance.{starts, calls_follow}

-- (a) From 0 CO2 to date.
new_balance :
    (s : Soil) (calls : List Call)
    → total (run_calls (new_state s) calls).soil.pools + (run_calls (new_state s) calls).co2.0
    ≡ total s.pools + added_carbon (new_state s) calls
unfolding new_state
new_balance s calls = omega (arith, calls-balance calls (new_state s))

-- (b) From no distance.
new_distances :
    (s : Soil) (calls : List Call) (x : Exact) → Leads s (feed (new_state s) calls) (exact_start s) x
    → total_distance (run_calls (new_state s) calls) x ≼ whole (20 * accepted_calls (new_state s) calls)
new_distances s calls x l =
    rw zero-add at (calls_follow s calls (new_state s) (exact_start s) x 0 (starts s) l).near

pub demand3 : Demand3
demand3 =
    record { holds = λ s accepted calls. record { balance = new_balance s calls; distances = new_distances s calls } }
