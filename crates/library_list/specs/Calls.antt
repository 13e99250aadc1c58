-- What rothc_list and rothc_spin_up return and leave in lent memory. Memory that a call is lent to
-- read stays as it was. A state is lent as a field: the current one, and after it the memory of the
-- kept ones.
use Rattle.std.specs.Prelude.{Ok, Err, cond, ◌&&◌, List, [], ◌∷◌, ℕ, ℤ}
use Rattle.month_state.specs.declared.State.{State}
use Rattle.month_layouts.specs.Layouts.{field_width, state_of, memory_of, field_numbers}
use Rattle.list_rows.specs.Rows.{land_rows}
use Rattle.list_run.specs.Run.{Left, rows_written, kept_months, run}
use Rattle.month_refusals.specs.Asked.{placed_told}
use Rattle.spin_up.specs.SpinUp.{SpinAnswer, spin_up}
use Rattle.spin_up.specs.declared.Years.TheVariants.{Settled, Unsettled}
use Rattle.month_state.specs.declared.Outcome.{Outcome}
use Rattle.library_month.specs.Calls.{shape, has}

-- ---- rothc_list

pub record ListLeft : Type 0 where
  pub number : ℕ
  pub state : List ℕ
  pub rows : List ℕ
  pub place : ℕ

-- The number and the place of the answer, and the state after the months that ran, with the memory
-- that they leave, and their rows.
abbrev pub of_list : Left → List ℕ → ListLeft
of_list left memory =
    record {
      number = (placed_told left.outcome.answer).number;
      state = field_numbers left.outcome.state memory;
      rows = left.output;
      place = (placed_told left.outcome.answer).place;
    }

-- Each month that ran keeps the state before it.
abbrev pub kept_of : Left → List ℕ → List ℤ → List ℤ → List ℕ
kept_of left state weather land =
    kept_months (rows_written left.outcome.answer (land_rows land)) weather land 0 (state_of state)
    (memory_of state)

abbrev pub run_list : List ℕ → List ℤ → List ℤ → List ℕ → Left
run_list state weather land rows = run (state_of state) weather land rows

unfoldable pub rothc_list : List ℕ → List ℤ → List ℤ → List ℕ → ℕ → ListLeft
rothc_list state weather land rows place =
    cond (has state field_width)
    (of_list (run_list state weather land rows)
    (kept_of (run_list state weather land rows) state weather land))
    (record { number = shape; state = state; rows = rows; place = place })

-- ---- rothc_spin_up

-- How many numbers a result has.
abbrev pub result_width : ℕ
result_width = 2

pub record SpinLeft : Type 0 where
  pub number : ℕ
  pub state : List ℕ
  pub result : List ℕ

-- 1 for settled or 0, and the years run. Where it is refused, 0 and the place.
abbrev pub spin_result : SpinAnswer → List ℕ
spin_result (Ok (Settled years)) = 1 ∷ years ∷ []
spin_result (Ok (Unsettled years)) = 0 ∷ years ∷ []
spin_result (Err e) = 0 ∷ e.place ∷ []

-- The number of the answer, and the state reached, or where it is refused the starting one. The
-- memory of kept ones stays.
abbrev pub of_spin : Outcome SpinAnswer State → List ℕ → SpinLeft
of_spin outcome memory =
    record {
      number = (placed_told outcome.answer).number;
      state = field_numbers outcome.state memory;
      result = spin_result outcome.answer;
    }

unfoldable pub rothc_spin_up : List ℕ → List ℤ → List ℤ → ℕ → List ℕ → SpinLeft
rothc_spin_up state weather land years result =
    cond (has state field_width && has result result_width)
    (of_spin (spin_up (state_of state) weather land years) (memory_of state))
    (record { number = shape; state = state; result = result })
