-- A state that 4 to 7 and 10 accept is never refused by them afterwards, 10 for its modern grams
-- among them (change 2026-04 of document 02): whatever single month calls it goes through, with
-- takings-back among them or not, and whatever list of months or spin-up.
use Rattle.std.specs.Prelude.{Ok, ◌≡◌, List, ℕ, ℤ}
use Rattle.month_state.specs.declared.State.{State}
use Rattle.month_refusals.specs.Refusals.{state_check}
use Rattle.month_demand3.specs.Calls.{Call, run_calls}
use Rattle.kept_demand3.specs.Acts.{Act, Field, run_acts}
use Rattle.kept_demand3.specs.Demand.{Lent}
use Rattle.list_run.specs.Run.{run}
use Rattle.spin_up.specs.SpinUp.{spin_up}

pub record StaysAccepted : Type 0 where
  pub calls :
      (s : State) → state_check s ≡ Ok tt → (calls : List Call)
      → state_check (run_calls s calls) ≡ Ok tt
  -- Begun with none kept, so that what is taken back to is a state that it had.
  pub fields :
      (f : Field) → Lent f → f.state.kept ≡ 0 → state_check f.state ≡ Ok tt → (acts : List Act)
      → state_check (run_acts f acts).state ≡ Ok tt
  pub lists :
      (s : State) → state_check s ≡ Ok tt → (weather land : List ℤ) (out : List ℕ)
      → state_check (run s weather land out).outcome.state ≡ Ok tt
  pub spins :
      (s : State) → state_check s ≡ Ok tt → (weather land : List ℤ) (allowed : ℕ)
      → state_check (spin_up s weather land allowed).state ≡ Ok tt
