-- A list of months beside demand 3's list of single month calls.
use Rattle.std.specs.Prelude.{Ok, Err, ◌≡◌, List, [], ◌∷◌, ℕ, zero, suc, ◌+◌, ◌*◌, ◌<◌, ℤ, get_or}
use Rattle.number_exact.specs.Fraction.{◌≼◌, whole}
use Rattle.step_pools.specs.Pools.{total}
use Rattle.month_state.specs.declared.Soil.{Soil}
use Rattle.month_state.specs.declared.State.{State}
use Rattle.month_state.specs.declared.Row.{Row}
use Rattle.month_state.specs.State.{new_state}
use Rattle.month_refusals.specs.declared.Refusal.{Refusal}
use Rattle.month_call.specs.Month.{month_call}
use Rattle.month_demand3.specs.Calls.{Call, run_calls, accepted_calls, added_carbon}
use Rattle.month_demand3.specs.Recurrence.{Exact, Leads, exact_start, feed}
use Rattle.month_demand3.specs.Demand.{total_distance}
use Rattle.list_rows.specs.Rows.{row_width, row_numbers, entries_at}
use Rattle.kept_demand3.specs.Acts.{run_acts, calls}
use Rattle.list_run.specs.Run.{kept_months}

-- So many months of a list from the one at place j, as single month calls: `done` months being
-- done, their numbers are done + 1, done + 2 and so on.
unfoldable pub list_calls : ℕ → List ℤ → List ℤ → ℕ → ℕ → List Call
list_calls zero weather land j done = []
list_calls (suc left) weather land j done =
    record { number = done + 1; entries = entries_at weather land j }
    ∷ list_calls left weather land (suc j) (done + 1)

-- The state after so many months from the one at place j is that of their calls, of which every one
-- is accepted.
pub record Ran (weather land : List ℤ) (j : ℕ) (s : State) (months : ℕ) (after : State)
    : Type 0 where
  pub state : after ≡ run_calls s (list_calls months weather land j s.months)
  pub accepted : accepted_calls s (list_calls months weather land j s.months) ≡ months

-- A list of so many months from the one at place j is refused at a place: the months before it ran,
-- and the call there is refused.
pub record Stopped
    (weather land : List ℤ)
    (j : ℕ)
    (s : State)
    (months : ℕ)
    (refusal : Refusal)
    (place : ℕ)
    (after : State)
    : Type 0 where
  pub ran : ℕ
  pub fewer : ran < months
  pub at : place ≡ j + ran + 1
  pub before : Ran weather land j s ran after
  pub call :
      (month_call after (after.months + 1) (entries_at weather land (j + ran))).answer
      ≡ Err refusal

-- The months that ran leave the very field that their calls leave (change 2026-02): the state after
-- them, and the states that they keep. So a list's months are taken back as single months are, and
-- a list stands in demand 3's list of calls and takings-back for its calls.
pub record FieldOfCalls
    (weather land : List ℤ)
    (j : ℕ)
    (s : State)
    (memory : List ℕ)
    (ran : ℕ)
    (after : State)
    : Type 0 where
  pub field :
      run_acts (record { state = s; memory = memory })
      (calls (list_calls ran weather land j s.months))
      ≡ record { state = after; memory = kept_months ran weather land j s memory }

-- A row at place j of an output, counted from 0: each of its numbers is there.
pub record RowAt (output : List ℕ) (j : ℕ) (row : Row) : Type 0 where
  pub numbers : (c : ℕ) → c < row_width
      → get_or output (row_width * j + c) 0 ≡ get_or (row_numbers row) c 0

-- The state after so many months of a list from the one at place j.
abbrev pub state_at : List ℤ → List ℤ → ℕ → State → ℕ → State
state_at weather land j s ran = run_calls s (list_calls ran weather land j s.months)

-- The output has the row of the month that follows so many months: what that month's own call
-- answers.
pub record OwnRow (weather land : List ℤ) (j : ℕ) (s : State) (ran : ℕ) (output : List ℕ)
    : Type 0 where
  pub row : Row
  pub call :
      (month_call (state_at weather land j s ran) ((state_at weather land j s ran).months + 1)
      (entries_at weather land (j + ran))
      ).answer
      ≡ Ok row
  pub at : RowAt output (j + ran) row

-- Demand 3 of a list from the new state of a soil, for so many months that ran.
pub record ListDemand3 (s : Soil) (weather land : List ℤ) (months : ℕ) (after : State)
    : Type 0 where
  pub balance :
      total after.soil.pools + after.co2.0
      ≡ total s.pools + added_carbon (new_state s) (list_calls months weather land 0 0)
  pub distances :
      (x : Exact)
      → Leads s (feed (new_state s) (list_calls months weather land 0 0)) (exact_start s) x
      → total_distance after x ≼ whole (20 * months)
