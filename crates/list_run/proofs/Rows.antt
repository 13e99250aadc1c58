-- Each row that a list writes is its own month's: what that month's call answers from the state after the months before it.
-- Assumes nothing.
use Rattle.std.specs.Prelude.{Ok}
use mathlib.Core.Path.{◌≡◌, sym, ◌∙◌, ap}
use mathlib.Core.List.{List}
use Prim.Native.Nat.{ℕ, zero, suc, ◌+◌, ◌*◌, ◌≤◌, ◌<◌}
use native.Mathlib.Nat.{add-zero}
use native.Mathlib.Omega.{arith}
use lib.IntN.{ℤ}
use lib.ListN.{length, get_or}
use Rattle.month_state.specs.declared.State.{State}
use Rattle.month_refusals.specs.Refusals.{state_check}
use Rattle.month_state.specs.declared.Row.{Row}
use Rattle.month_state.specs.declared.Outcome.{Outcome}
use Rattle.month_call.specs.Month.{month_call, list_month, Answer}
use Rattle.month_demand3.specs.Calls.{run_calls}
use Rattle.list_rows.specs.Rows.{land_rows, entries_at, row_width, row_written}
use Rattle.list_rows.proofs.Layouts.{row_at, row-length}
use Rattle.list_run.specs.Run.{Left, months, run, rows_written}
use Rattle.list_run.specs.ListCalls.{list_calls, RowAt, state_at, OwnRow}
use Rattle.month_call.proofs.Laws.{single, month-sound}
use Rattle.list_run.proofs.Months as courses
use Rattle.list_run.proofs.Months.{Course, course, kept-before, Begun, begun}
use Rattle.list_run.proofs.ListCalls.{done_months, shift}

-- A row that is written stands at its place, ..
here : (out : List ℕ) (j : ℕ) (row : Row) → row_width * j + row_width ≤ length out → RowAt (row_written out j row) j row
here out j row room = record { numbers = λ c below. row_at out j row room c below }

-- .. and stays where the output stays as it was up to the row's end.
stays : {out end : List ℕ} {j : ℕ} {row : Row} → ((i : ℕ) → i < row_width * j + row_width → get_or end i 0 ≡ get_or out i 0) → RowAt out j row
    → RowAt end j row
stays {j} same at = record { numbers = λ c below. same (row_width * j + c) (omega arith) ∙ at.numbers c below }

module _ (weather land : List ℤ) where
  -- The first month's row, ..
  first-row :
      (j : ℕ) (s : State) (row : Row) (output : List ℕ) → state_check s ≡ Ok tt → (list_month s (entries_at weather land j)).answer ≡ Ok row
      → RowAt output j row → OwnRow weather land j s zero output
  unfolding list_calls run_calls
  first-row j s row output sound e at =
      record {
        row = row;
        call = rw add-zero (ap (λ (o : Outcome Answer State). o.answer) (sym (single s (entries_at weather land j) sound)) ∙ e);
        at = rw add-zero at;
      }

  -- .. and a later one's.
  later-row :
      (j : ℕ) (s : State) (row : Row) (ran : ℕ) (output : List ℕ) → state_check s ≡ Ok tt
      → (list_month s (entries_at weather land j)).answer ≡ Ok row
      → OwnRow weather land (suc j) (list_month s (entries_at weather land j)).state ran output → OwnRow weather land j s (suc ran) output
  unfolding list_calls run_calls
  later-row j s row ran output sound e own =
      let entries = entries_at weather land j in
      let is : list_month s entries ≡ month_call s (s.months + 1) entries = single s entries sound in
      let number : (list_month s entries).state.months ≡ s.months + 1 = done_months s entries row e in
      let same : state_at weather land (suc j) (list_month s entries).state ran ≡ state_at weather land j s (suc ran) =
      λ i. run_calls (is i).state (list_calls ran weather land (suc j) (number i)) in
      record {
        row = own.row;
        call =
            rw (shift j ran)
            (sym (ap (λ (t : State). (month_call t (t.months + 1) (entries_at weather land (suc j + ran))).answer) same) ∙ own.call);
        at = rw (shift j ran) own.at;
      }

  own_row :
      {left j : ℕ} {s : State} {out : List ℕ} {end : Left} → Course weather land left j s out end → state_check s ≡ Ok tt
      → row_width * (j + left) ≤ length out → (all : ℕ) → all ≡ j + left
      → (k : ℕ) → j + k < rows_written end.outcome.answer all → OwnRow weather land j s k end.output
  own_row courses.finished sound room all h k below = absurd (omega arith)
  own_row (courses.refused reason e) sound room all h k below = absurd (omega arith)
  own_row {j} {s} {out} {end} (courses.month row e later) sound room all h zero below =
      first-row j s row end.output sound e
      (stays (λ i under. kept-before later i (omega arith)) (here out j row (omega arith)))
  own_row {j} {s} {out} {end} (courses.month row e later) sound room all h (suc k) below =
      later-row j s row k end.output sound e
      (own_row later (month-sound s (entries_at weather land j) sound) (rw (row-length out j row) (omega arith)) all (omega arith) k
      (omega arith))

-- ---- a whole list

module _ (s : State) (weather land : List ℤ) (out : List ℕ) where
  -- Every row that a list has written is its own month's.
  of_begun :
      {end : Left} → Begun s weather land out (months (land_rows land) weather land 0 s out) end → (k : ℕ)
      → k < rows_written end.outcome.answer (land_rows land) → OwnRow weather land 0 s k end.output
  of_begun (courses.refused refusal) k below = absurd (omega arith)
  of_begun (courses.started passed) k below =
      own_row weather land (course weather land (land_rows land) 0 s out) passed.state (omega (arith, passed.enough)) (land_rows land)
      (omega arith) k (omega arith)

  pub own_rows : (k : ℕ) → k < rows_written (run s weather land out).outcome.answer (land_rows land)
      → OwnRow weather land 0 s k (run s weather land out).output
  own_rows k below = of_begun (begun s weather land out) k below
