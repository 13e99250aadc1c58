-- Laws of the library's lists and spin-ups: a refusal outside the months leaves a state's numbers as they were.
-- Assumes nothing.
use Rattle.std.specs.Prelude.{Err}
use mathlib.Core.Path.{◌≡◌, refl}
use mathlib.Core.List.{List}
use Prim.Native.Nat.{ℕ}
use lib.IntN.{ℤ}
use lib.ListN.{length}
use Rattle.month_layouts.specs.Layouts.{field_width, state_of}
use Rattle.month_layouts.proofs.Layouts.{field-same}
use Rattle.month_refusals.specs.declared.Refusal.{Refusal}
use Rattle.month_refusals.specs.Asked.{◌on◌}
use Rattle.list_run.specs.Run.{kept_months, run}
use Rattle.list_run.proofs.Months.{outside-months}
use Rattle.spin_up.specs.SpinUp.{spin_up}
use Rattle.spin_up.proofs.Reached.{refused_returns}
use Rattle.library_month.proofs.Laws.{right}
use Rattle.library_list.specs.Calls.{rothc_list, result_width, rothc_spin_up}

-- A list that is refused before its months, and a refused spin-up, leave the numbers of the state as they were, the list its rows too.
module _ (state : List ℕ) (all : length state ≡ field_width) (weather land : List ℤ) where
  pub list_unchanged :
      (rows : List ℕ) (place : ℕ) (refusal : Refusal)
      → (run (state_of state) weather land rows).outcome.answer ≡ Err (refusal on 0)
      → ((rothc_list state weather land rows place).state ≡ state) × ((rothc_list state weather land rows place).rows ≡ rows)
  unfolding rothc_list kept_months
  list_unchanged rows place refusal h =
      rw (right state field_width all, outside-months (state_of state) weather land rows refusal h) (field-same state all, refl)

  pub spin_unchanged :
      (years : ℕ) (result : List ℕ) → length result ≡ result_width → (refusal : Refusal) (place : ℕ)
      → (spin_up (state_of state) weather land years).answer ≡ Err (refusal on place)
      → (rothc_spin_up state weather land years result).state ≡ state
  unfolding rothc_spin_up
  spin_unchanged years result two refusal place h =
      rw (right state field_width all, right result result_width two, refused_returns (state_of state) weather land years refusal place h)
      (field-same state all)
