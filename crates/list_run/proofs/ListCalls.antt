-- A list is its months: from a sound state its state and answer are those of single month calls in turn, with the numbers that come
-- next. So demand 3 holds of a list from a new state.
-- Assumes nothing.
use Rattle.month_refusals.specs.Asked.{◌on◌, Check}
use Rattle.std.specs.Prelude.{Ok, Err}
use mathlib.Core.Path.{◌≡◌, refl, sym, ◌∙◌, ap}
use mathlib.Core.Bool.{cond}
use mathlib.Core.List.{List}
use Prim.Native.Nat.{ℕ, zero, suc, ◌+◌}
use native.Mathlib.Nat.{add-zero}
use native.Mathlib.Numerals.{one-add}
use native.Mathlib.Omega.{arith}
use lib.IntN.{ℤ}
use Rattle.month_state.specs.declared.Soil.{Soil}
use Rattle.month_state.specs.declared.State.{State}
use Rattle.month_state.specs.declared.Entries.{Entries}
use Rattle.month_refusals.specs.declared.Refusal.{Refusal}
use Rattle.month_refusals.specs.Refusals.{soil_check, state_check, entries_check}
use Rattle.month_state.specs.State.{new_state}
use Rattle.month_state.specs.declared.Row.{Row}
use Rattle.month_call.specs.Month.{Answer, moved_to, outcome_of, month_call, list_month}
use Rattle.month_state.specs.declared.Outcome.{Outcome}
use Rattle.month_demand3.specs.Calls.{is_done, run_calls, accepted_calls}
use Rattle.month_demand3.proofs.Demand.{demand3}
use Rattle.list_rows.specs.Rows.{land_rows, entries_at}
use Rattle.list_run.specs.Run.{Left, months, run}
use Rattle.list_run.specs.ListCalls.{list_calls, Ran, Stopped, ListDemand3}
use Rattle.month_call.proofs.Laws.{single, month-sound}
use Rattle.list_run.proofs.Laws.{same_refused}
use Rattle.list_run.proofs.Months as courses
use Rattle.list_run.proofs.Months.{Course, course, Begun, begun}

-- ---- one month

-- A month that is done adds 1 to the months done, ..
counted : (s : State) (e : Entries) (check : Check) (row : Row) → (outcome_of check s e).answer ≡ Ok row
    → (outcome_of check s e).state.months ≡ s.months + 1
unfolding outcome_of moved_to
counted s e (Ok _) row h = refl
counted s e (Err refusal) row h = absurd (let z : ◌≡◌ {A = ℕ} 0 1 = cc in omega arith)

pub done_months : (s : State) (e : Entries) (row : Row) → (list_month s e).answer ≡ Ok row → (list_month s e).state.months ≡ s.months + 1
unfolding list_month
done_months s e row h = counted s e (entries_check s e) row h

-- .. and one that is refused leaves the state as it was.
unchanged : (s : State) (e : Entries) (check : Check) (refusal : Refusal) → (outcome_of check s e).answer ≡ Err refusal
    → (outcome_of check s e).state ≡ s
unfolding outcome_of
unchanged s e (Ok _) refusal h = absurd (let z : ◌≡◌ {A = ℕ} 0 1 = cc in omega arith)
unchanged s e (Err reason) refusal h = refl

pub refused-same : (s : State) (e : Entries) (refusal : Refusal) → (list_month s e).answer ≡ Err refusal → (list_month s e).state ≡ s
unfolding list_month
refused-same s e refusal h = unchanged s e (entries_check s e) refusal h

-- ---- so many months

-- What an answer adds to the calls that are accepted.
abbrev once : Answer → ℕ
once answer = cond (is_done answer) 1 0

pub shift : (j k : ℕ) → j + suc k ≡ suc j + k
shift j k = omega arith

module _ (weather land : List ℤ) where
  -- None.
  none : (j : ℕ) (s : State) → Ran weather land j s zero s
  unfolding list_calls run_calls accepted_calls
  none j s = record { state = refl; accepted = refl }

  -- One that is done, and those after it.
  one_more :
      (j : ℕ) (s : State) (row : Row) (left : ℕ) (after : State) → state_check s ≡ Ok tt
      → (list_month s (entries_at weather land j)).answer ≡ Ok row
      → Ran weather land (suc j) (list_month s (entries_at weather land j)).state left after → Ran weather land j s (suc left) after
  unfolding list_calls run_calls accepted_calls
  one_more j s row left after sound done ran =
      let e = entries_at weather land j in
      let is : list_month s e ≡ month_call s (s.months + 1) e = single s e sound in
      let number : (list_month s e).state.months ≡ s.months + 1 = done_months s e row done in
      let one = ap (λ (o : Outcome Answer State). once o.answer) (sym is) ∙ ap once done in
      let later = sym (λ i. accepted_calls (is i).state (list_calls left weather land (suc j) (number i))) ∙ ran.accepted in
      record {
        state = ran.state ∙ (λ i. run_calls (is i).state (list_calls left weather land (suc j) (number i)));
        accepted = (λ i. one i + later i) ∙ one-add left;
      }

  -- Months that are finished all ran, ..
  pub all_ran : {left j : ℕ} {s : State} {out : List ℕ} {end : Left} → Course weather land left j s out end → state_check s ≡ Ok tt
      → end.outcome.answer ≡ Ok tt → Ran weather land j s left end.outcome.state
  all_ran {j} {s} courses.finished sound h = none j s
  all_ran (courses.refused refusal e) sound h = absurd (let z : ◌≡◌ {A = ℕ} 0 1 = cc in omega arith)
  all_ran {j} {s} (courses.month row e later) sound h =
      one_more j s row _ _ sound e (all_ran later (month-sound s (entries_at weather land j) sound) h)

  -- .. and where one is refused those before it ran.
  pub stopped :
      {left j : ℕ} {s : State} {out : List ℕ} {end : Left} {refusal : Refusal} {place : ℕ} → Course weather land left j s out end
      → state_check s ≡ Ok tt → end.outcome.answer ≡ Err (refusal on place)
      → Stopped weather land j s left refusal place end.outcome.state
  stopped courses.finished sound h = absurd (let z : ◌≡◌ {A = ℕ} 0 1 = cc in omega arith)
  stopped {j} {s} {refusal} {place} (courses.refused reason e) sound h =
      let same = refused-same s (entries_at weather land j) reason e in
      rw same
      (record {
        ran = 0;
        fewer = omega arith;
        at = let is : j + 1 ≡ place = (same_refused h).1 in omega arith;
        before = none j s;
        call =
            rw add-zero
            (ap (λ (o : Outcome Answer State). o.answer) (sym (single s (entries_at weather land j) sound)) ∙ e
            ∙ ap Err (same_refused h).0);
      })
  stopped {j} {s} (courses.month row e later) sound h =
      let rest = stopped later (month-sound s (entries_at weather land j) sound) h in
      record {
        ran = suc rest.ran;
        fewer = omega (arith, rest.fewer);
        at = omega (arith, rest.at);
        before = one_more j s row _ _ sound e rest.before;
        call = rw (shift j rest.ran) rest.call;
      }

-- ---- a whole list

module _ (s : State) (weather land : List ℤ) (out : List ℕ) where
  abbrev the_months : Left
  the_months = months (land_rows land) weather land 0 s out

  -- A list that is finished has the state of a call for each of its land rows, all accepted.
  to_the_end : {end : Left} → Begun s weather land out the_months end → end.outcome.answer ≡ Ok tt
      → Ran weather land 0 s (land_rows land) end.outcome.state
  to_the_end (courses.refused refusal) h = absurd (let z : ◌≡◌ {A = ℕ} 0 1 = cc in omega arith)
  to_the_end (courses.started passed) h = all_ran weather land (course weather land (land_rows land) 0 s out) passed.state h

  pub finished_list : (run s weather land out).outcome.answer ≡ Ok tt
      → Ran weather land 0 s (land_rows land) (run s weather land out).outcome.state
  finished_list h = to_the_end (begun s weather land out) h

  -- A list that is refused at a month has the state of the calls before it, and the call there is refused.
  to_a_month : {end : Left} (refusal : Refusal) (month : ℕ) → Begun s weather land out the_months end
      → end.outcome.answer ≡ Err (refusal on (suc month))
      → Stopped weather land 0 s (land_rows land) refusal (suc month) end.outcome.state
  to_a_month refusal month (courses.refused reason) h =
      absurd (let z : 0 ≡ suc month = (same_refused h).1 in omega arith)
  to_a_month refusal month (courses.started passed) h = stopped weather land (course weather land (land_rows land) 0 s out) passed.state h

  pub refused_list : (refusal : Refusal) (month : ℕ) → (run s weather land out).outcome.answer ≡ Err (refusal on (suc month))
      → Stopped weather land 0 s (land_rows land) refusal (suc month) (run s weather land out).outcome.state
  refused_list refusal month h = to_a_month refusal month (begun s weather land out) h

-- ---- demand 3 of a list from a new state

module _ (soil : Soil) (accepted : soil_check soil ≡ Ok tt) (weather land : List ℤ) where
  pub of_calls : (ran : ℕ) (after : State) → Ran weather land 0 (new_state soil) ran after → ListDemand3 soil weather land ran after
  unfolding new_state
  of_calls ran after r =
      let all = demand3.holds soil accepted (list_calls ran weather land 0 0) in
      record {
        balance = rw r.state all.balance;
        distances = λ x l. rw r.state (rw r.accepted at (all.distances x l));
      }

  -- It holds of a list that is finished, over all its months, and of one that is refused, over those that ran.
  pub finished-demand3 : (out : List ℕ) → (run (new_state soil) weather land out).outcome.answer ≡ Ok tt
      → ListDemand3 soil weather land (land_rows land) (run (new_state soil) weather land out).outcome.state
  finished-demand3 out h = of_calls _ _ (finished_list (new_state soil) weather land out h)

  pub refused-demand3 :
      (out : List ℕ) (refusal : Refusal) (month : ℕ)
      → (run (new_state soil) weather land out).outcome.answer ≡ Err (refusal on (suc month))
      → ListDemand3 soil weather land month (run (new_state soil) weather land out).outcome.state
  refused-demand3 out refusal month h =
      let stopped = refused_list (new_state soil) weather land out refusal month h in
      of_calls month _ (rw (before stopped.at) stopped.before)
    where
      before : {month ran : ℕ} → suc month ≡ 0 + ran + 1 → month ≡ ran
      before h = omega arith
