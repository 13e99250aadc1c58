-- Modern grams never touch carbon (change 2026-04 of document 02), in any list: of single month
-- calls, with takings-back among them, or of months; and in spin-ups.
use Rattle.std.specs.Prelude.{◌≡◌, true, false, List, ℕ, ℤ}
use Rattle.month_state.specs.declared.State.{State}
use Rattle.month_demand3.specs.Calls.{Call}
use Rattle.kept_demand3.specs.Acts.{Act, Field}
use Rattle.kept_demand3.specs.Demand.{Lent}
use Rattle.list_run.specs.Run.{run}
use Rattle.spin_up.specs.SpinUp.{spin_up}
use Rattle.radiocarbon_laws.specs.Without.{state_without, calls_without, rows_without}
use Rattle.radiocarbon_laws.specs.Calls.{none_by_modern, CarbonOfCalls}
use Rattle.radiocarbon_laws.specs.Fields.{field_without, acts_without, no_act_by_modern}
use Rattle.radiocarbon_laws.specs.Fields.{CarbonOfField}
use Rattle.radiocarbon_laws.specs.Lists.{list_by_modern, CarbonOfList}
use Rattle.radiocarbon_laws.specs.Spins.{spin_by_modern, CarbonOfSpin}

pub record CarbonAlone : Type 0 where
  pub calls : (s : State) (calls : List Call) → CarbonOfCalls s calls
  pub fields : (f : Field) → Lent f → (acts : List Act) → CarbonOfField f acts
  pub lists :
      (s : State) (weather land : List ℤ) (out : List ℕ) → CarbonOfList s weather land out
  pub spins :
      (s : State) (weather land : List ℤ) (allowed : ℕ) → CarbonOfSpin s weather land allowed

-- Without activities there is no such refusal: the whole list is the one that is compared with.
pub record NoneWithout : Type 0 where
  pub calls :
      (s : State) (calls : List Call)
      → none_by_modern (state_without s) (calls_without calls) ≡ true
  pub fields :
      (f : Field) → Lent f → (acts : List Act)
      → no_act_by_modern (field_without f) (acts_without acts) ≡ true
  pub lists :
      (s : State) (weather land : List ℤ) (out : List ℕ)
      → list_by_modern (state_without s)
      (run (state_without s) weather (rows_without land) out).outcome.answer
      ≡ false
  pub spins :
      (s : State) (weather land : List ℤ) (allowed : ℕ)
      → spin_by_modern (state_without s)
      (spin_up (state_without s) weather (rows_without land) allowed).answer
      ≡ false
