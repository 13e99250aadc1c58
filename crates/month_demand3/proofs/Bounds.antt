-- The bounds that an accepted month's steps stay within, from the month's laws. Assumes nothing.
use Rattle.std.specs.Prelude.{Ok}
use mathlib.Core.Path.{◌≡◌}
use Prim.Native.Nat.{ℕ, ◌≤◌}
use native.Mathlib.Omega.{arith}
use Rattle.step_factors.specs.Factors.{clay_number}
use Rattle.step_decay.specs.Rates.{survivals}
use Rattle.step_pools.specs.Pools.{total}
use Rattle.step_decay.specs.Decay.{Survivals}
use Rattle.month_state.specs.declared.State.{State}
use Rattle.month_state.specs.declared.Entries.{Entries}
use Rattle.month_refusals.specs.Refusals.{month_check}
use Rattle.month_refusals.proofs.Accepted.{sound-state, ready}
use Rattle.month_call.specs.Month.{next_rate}
use Rattle.month_call.proofs.Steps.{clay-number-most}
use Rattle.month_call.proofs.Laws.{accepted, survivals_range}

pub record Bounds (t : State) (e : Entries) : Type 0 where
  pub carbon : total t.soil.pools ≤ 1000000000
  pub clay : clay_number t.soil.clay ≤ 250000
  pub survival : Survivals (survivals (next_rate t e))

pub accepted_bounds : (t : State) (number : ℕ) (e : Entries) → month_check t number e ≡ Ok tt → Bounds t e
accepted_bounds t number e h =
    let a = accepted t number e h in
    let sound = sound-state t a.state in
    record {
      carbon = sound.soil.pools;
      clay = omega (arith, clay-number-most t.soil.clay sound.soil.clay);
      survival = survivals_range t e sound (ready t e a.entries);
    }
