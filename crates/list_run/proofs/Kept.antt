-- What a list keeps: its months leave the field that their calls leave.
-- Assumes nothing.
use Rattle.std.specs.Prelude.{Ok}
use mathlib.Core.Path.{◌≡◌, refl, sym, ◌∙◌, ap}
use mathlib.Core.List.{List}
use Prim.Native.Nat.{ℕ, zero, suc, ◌+◌}
use native.Mathlib.Nat.{zero-add}
use native.Mathlib.Omega.{arith}
use lib.IntN.{ℤ}
use lib.ListN.{length}
use Rattle.month_state.specs.declared.State.{State}
use Rattle.month_refusals.specs.Refusals.{state_check}
use Rattle.month_state.specs.declared.Row.{Row}
use Rattle.month_call.specs.Month.{Answer, month_call, list_month}
use Rattle.month_state.specs.declared.Outcome.{Outcome}
use Rattle.month_call.proofs.Laws.{single, month-sound}
use Rattle.kept_months.specs.Kept.{keep, keep_if}
use Rattle.kept_demand3.specs.Acts.{run_acts, calls}
use Rattle.list_rows.specs.Rows.{land_rows, entries_at}
use Rattle.month_refusals.specs.Asked.{told, Exactly, placed_found, placed_told}
use Rattle.list_run.proofs.Refusals.{list_told_lem, list_exactly}
use Rattle.list_run.specs.Run.{ListAnswer, list_asked, Left, months, rows_written, kept_months, run}
use Rattle.list_run.specs.ListCalls.{list_calls, FieldOfCalls}
use Rattle.list_run.proofs.Months as courses
use Rattle.list_run.proofs.Months.{Course, finished, refused, month, course, rows_from, Begun, started, begun}
use Rattle.list_run.proofs.ListCalls.{done_months, refused-same}

module _ (weather land : List ℤ) where
  -- One call that is accepted, and those after it.
  one_more :
      (j : ℕ) (s : State) (memory : List ℕ) (ran : ℕ) (after : State) (row : Row) → state_check s ≡ Ok tt
      → (list_month s (entries_at weather land j)).answer ≡ Ok row
      → FieldOfCalls weather land (suc j) (list_month s (entries_at weather land j)).state (keep s memory) ran after
      → FieldOfCalls weather land j s memory (suc ran) after
  unfolding run_acts calls list_calls kept_months
  one_more j s memory ran after row sound done later =
      let e = entries_at weather land j in
      let is : list_month s e ≡ month_call s (s.months + 1) e = single s e sound in
      let number : (list_month s e).state.months ≡ s.months + 1 = done_months s e row done in
      let kept : keep s memory ≡ keep_if (month_call s (s.months + 1) e).answer s memory =
      sym (ap (λ (a : Answer). keep_if a s memory) (ap (λ (o : Outcome Answer State). o.answer) (sym is) ∙ done)) in
      record {
        field =
            sym (λ i. run_acts (record { state = (is i).state; memory = kept i }) (calls (list_calls ran weather land (suc j) (number i))))
            ∙ later.field;
      }

  no_month : (j : ℕ) (s : State) (memory : List ℕ) (ran : ℕ) → ran ≡ 0 → FieldOfCalls weather land j s memory ran s
  unfolding run_acts calls list_calls kept_months
  no_month j s memory ran is = rw is (record { field = refl })

  -- As many as have written their rows ran.
  ran-field :
      {left j : ℕ} {s : State} {out : List ℕ} {end : Left} → Course weather land left j s out end → state_check s ≡ Ok tt
      → (all : ℕ) → all ≡ j + left → (ran : ℕ) → rows_written end.outcome.answer all ≡ j + ran → (memory : List ℕ)
      → FieldOfCalls weather land j s memory ran end.outcome.state
  ran-field {j = j} {s = s} finished sound all is ran rows memory = no_month j s memory ran (omega arith)
  ran-field {j = j} {s = s} (refused refusal e) sound all is ran rows memory =
      rw (refused-same s (entries_at weather land j) refusal e) (no_month j s memory ran (omega arith))
  ran-field (month row e later) sound all is zero rows memory =
      absurd (omega (arith, rows_from later all (omega arith)))
  ran-field {j = j} {s = s} (month row e later) sound all is (suc ran) rows memory =
      one_more j s memory ran _ row sound e
      (ran-field later (month-sound s (entries_at weather land j) sound) all (omega arith) ran (omega arith) (keep s memory))

-- A whole list, finished, refused at a month or before its months: it leaves the field of the calls of its months that ran.
module _ (s : State) (weather land : List ℤ) (out memory : List ℕ) where
  whole : {end : Left} → Begun s weather land out (months (land_rows land) weather land 0 s out) end
      → FieldOfCalls weather land 0 s memory (rows_written end.outcome.answer (land_rows land)) end.outcome.state
  whole (courses.refused refusal) = no_month weather land 0 s memory 0 refl
  whole (started passed) =
      ran-field weather land (course weather land (land_rows land) 0 s out) passed.state (land_rows land)
      (sym (zero-add (land_rows land))) _ (sym (zero-add _)) memory

  pub list_field :
      FieldOfCalls weather land 0 s memory (rows_written (run s weather land out).outcome.answer (land_rows land))
      (run s weather land out).outcome.state
  list_field = whole (begun s weather land out)

-- ---- what leaves the list's record

module _ (s : State) (weather land : List ℤ) (out : List ℕ) {outcome : Outcome ListAnswer State} {output : List ℕ}
    (is : record { outcome = outcome; output = output } ≡ run s weather land out) where
  outcome_is : outcome ≡ (run s weather land out).outcome
  outcome_is = ap (λ (l : Left). l.outcome) is

  -- It has the field of its calls, its number and place, and its refusals.
  pub left_field : (memory : List ℕ) → FieldOfCalls weather land 0 s memory (rows_written outcome.answer (land_rows land)) outcome.state
  left_field memory = rw outcome_is (list_field s weather land out memory)

  pub left_told : placed_told outcome.answer ≡ told (list_asked s weather land (length out))
  left_told = rw outcome_is (list_told_lem s weather land out)

  pub left_exactly : Exactly (list_asked s weather land (length out)) (placed_found outcome.answer)
  left_exactly = rw outcome_is (list_exactly s weather land out)
