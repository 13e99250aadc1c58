-- Demand 3 (a): along any list of calls the active pools and the CO2 to date grow by what the accepted calls add, to the gram.
-- By induction on the list; a month's balance is the month's law. Assumes nothing.
use Rattle.std.specs.Prelude.{Ok, Err}
use mathlib.Core.Path.{◌≡◌, refl}
use mathlib.Core.Bool.{cond}
use mathlib.Core.List.{List, [], ◌∷◌}
use Prim.Native.Nat.{ℕ, ◌+◌}
use native.Mathlib.Omega.{arith}
use lib.IntN.{nat_abs}
use Rattle.step_pools.specs.Pools.{total}
use Rattle.month_state.specs.declared.State.{State}
use Rattle.month_state.specs.declared.Entries.{Entries}
use Rattle.month_refusals.specs.Asked.{Check}
use Rattle.month_refusals.specs.Refusals.{month_check}
use Rattle.month_call.specs.Month.{outcome_of, month_call}
use Rattle.month_call.proofs.Laws.{accepted, accepted_moved, next_is}
use Rattle.month_demand3.specs.Calls.{Call, state_after, is_done, run_calls, added_carbon}

-- The active pools and the CO2 to date.
abbrev pub carbon_of : State → ℕ
carbon_of t = total t.soil.pools + t.co2.0

-- What a call adds if it is accepted.
abbrev pub addition : Entries → ℕ
addition e = nat_abs e.land.plant + nat_abs e.land.manure

-- One call: an accepted one by the month's law, a refused one since it returns the state that it was given.
one-call :
    (t : State) (number : ℕ) (e : Entries) (check : Check) → month_check t number e ≡ check
    → carbon_of (outcome_of check t e).state ≡ carbon_of t + cond (is_done (outcome_of check t e).answer) (addition e) 0
unfolding outcome_of
one-call t number e (Ok _) h =
    omega (arith, rw (next_is t e) at (accepted_moved t e (accepted t number e h)).balance)
one-call t number e (Err refusal) h = omega arith

-- A list of calls.
pub calls-balance :
    (calls : List Call) (t : State) → carbon_of (run_calls t calls) ≡ carbon_of t + added_carbon t calls
unfolding run_calls added_carbon month_call
calls-balance [] t = omega arith
calls-balance (c ∷ calls) t =
    omega (
      arith,
      one-call t c.number c.entries (month_check t c.number c.entries) refl,
      calls-balance calls (state_after t c),
    )
