-- Lists of months without activities are the lists, but for modern grams, unless 21, or 10 for modern grams, refuses them. By induction over
-- the months.
-- Assumes nothing.
use Rattle.month_refusals.specs.Asked.{◌on◌, Check, first_of}
use Rattle.std.specs.Prelude.{Ok, Err}
use mathlib.Core.Path.{◌≡◌, refl, sym, ◌∙◌, ap}
use mathlib.Core.Bool.{Bool, false}
use mathlib.Core.List.{List}
use Prim.Native.Nat.{ℕ, zero, suc, ◌+◌}
use native.Mathlib.Omega.{arith}
use lib.IntN.{ℤ}
use lib.ListN.{length}
use Rattle.month_state.specs.declared.State.{State}
use Rattle.month_state.specs.declared.Entries.{Entries}
use Rattle.std.proofs.lemmas.Bool.{or_parts}
use Rattle.month_refusals.specs.declared.Refusal.{Refusal}
use Rattle.month_state.specs.declared.Outcome.{Outcome}
use Rattle.list_rows.specs.Rows.{land_rows, row_written, entries_at}
use Rattle.list_run.specs.Run.{ListAnswer, Left, refused_at, months, rows_asked, room_asked, before_months, list_checked, run}
use Rattle.list_run.proofs.Laws.{goes_on, stops, same_refused}
use Rattle.list_run.proofs.Months as courses
use Rattle.radiocarbon_laws.proofs.Rows.{rows-length, entries_without_lem}
use Rattle.month_refusals.specs.Refusals.{soil_asked, bounds_asked, entries_check}
use Rattle.month_call.specs.Month.{Answer, outcome_of, list_month}
use Rattle.list_run.proofs.Months.{Course, course, place_in}
use Rattle.radiocarbon_laws.specs.Without.{state_without, rows_without, outcome_without, left_without}
use Rattle.radiocarbon_laws.specs.Calls.{by_modern}
use Rattle.radiocarbon_laws.specs.Lists.{list_by_modern, CarbonOfList}
use Rattle.radiocarbon_laws.proofs.Months.{is21, Less, same, end, first_less, bounds_less, list_month_without}
use Rattle.radiocarbon_laws.proofs.Months.{others_found, bounds_other, list_month_never}

-- ---- months

-- No refusal by 21 ends a list.
abbrev pub list_is21 : ListAnswer → Bool
list_is21 (Ok _) = false
list_is21 (Err e) = is21 e.refusal

-- A refused month returns the state that it was given.
refused-state : (s : State) (e : Entries) {refusal : Refusal} → (list_month s e).answer ≡ Err refusal → (list_month s e).state ≡ s
unfolding list_month outcome_of
refused-state s e {refusal} h = by_check (entries_check s e) h
  where
    by_check : (check : Check) → (outcome_of check s e).answer ≡ Err refusal → (outcome_of check s e).state ≡ s
    by_check (Ok _) h = absurd (let z : ◌≡◌ {A = ℕ} 0 1 = cc in omega arith)
    by_check (Err reason) h = refl

module _ (weather land : List ℤ) where
  -- A month that 21 doesn't refuse.
  step :
      (j : ℕ) (s : State) → ((r : Refusal) → (list_month s (entries_at weather land j)).answer ≡ Err r → is21 r ≡ false)
      → list_month (state_without s) (entries_at weather (rows_without land) j) ≡ outcome_without (list_month s (entries_at weather land j))
  step j s h = rw (entries_without_lem weather land j) (list_month_without s (entries_at weather land j) h)

  pub months_alone :
      {left j : ℕ} {s : State} {out : List ℕ} {end : Left} → Course weather land left j s out end
      → list_is21 end.outcome.answer ≡ false
      → months left weather (rows_without land) j (state_without s) out ≡ left_without end
  unfolding months
  months_alone courses.finished h = refl
  months_alone (courses.refused {left} {j} {s} {out} refusal e) h =
      let other = step j s (λ r is. let same : refusal ≡ r = cc in ap is21 (sym same) ∙ h) in
      stops left weather (rows_without land) j (state_without s) out refusal (ap (λ (o : Outcome Answer State). o.answer) other ∙ e)
      ∙ ap (λ (o : Outcome Answer State). refused_at refusal (j + 1) o.state out) other
  months_alone (courses.month {left} {j} {s} {out} row e later) h =
      let other = step j s (λ r is. absurd (let z : ◌≡◌ {A = ℕ} 0 1 = cc in omega arith)) in
      goes_on left weather (rows_without land) j (state_without s) out row (ap (λ (o : Outcome Answer State). o.answer) other ∙ e)
      ∙ ap (λ (o : Outcome Answer State). months left weather (rows_without land) (suc j) o.state (row_written out j row)) other
      ∙ months_alone later h

  -- The months before one that is refused, run alone, leave what the list left.
  before-refused :
      {left j : ℕ} {s : State} {out : List ℕ} {end : Left} {refusal : Refusal} (before : ℕ) → Course weather land left j s out end
      → end.outcome.answer ≡ Err (refusal on (j + before + 1))
      → months before weather land j s out
      ≡ record { outcome = record { answer = Ok tt; state = end.outcome.state }; output = end.output }
  unfolding months
  before-refused before courses.finished h = absurd (let z : ◌≡◌ {A = ℕ} 0 1 = cc in omega arith)
  before-refused {j} {s} {out} before (courses.refused reason e) h =
      let at : j + 1 ≡ j + before + 1 = (same_refused h).1 in
      let none : before ≡ 0 = omega arith in
      rw none (ap (λ (t : State). record { outcome = record { answer = Ok tt; state = t }; output = out })
      (sym (refused-state s (entries_at weather land j) e)))
  before-refused {j} {s} {out} zero (courses.month row e later) h = absurd (omega (arith, (place_in later h).0))
  before-refused {j} {s} {out} {refusal = refusal} (suc before) (courses.month row e later) h =
      let further : j + suc before + 1 ≡ suc j + before + 1 = omega arith in
      goes_on before weather land j s out row e
      ∙ before-refused {refusal = refusal} before later (h ∙ ap {B = ListAnswer} (λ (n : ℕ). Err (refusal on n)) further)

-- ---- lists

-- A refusal that is not by 21 or 10 for modern grams is not by 21.
list_not_21 : (s : State) (answer : ListAnswer) → list_by_modern s answer ≡ false → list_is21 answer ≡ false
list_not_21 s (Ok _) h = refl
list_not_21 s (Err e) h = (or_parts (is21 e.refusal) _ h).0

module _ (s : State) (weather land : List ℤ) (out : List ℕ) where
  -- What is asked before the months goes by the numbers' lengths, ..
  before_same :
      before_months (state_without s) weather (rows_without land) (length out) ≡ before_months (state_without s) weather land (length out)
  unfolding before_months rows_asked
  before_same = rw (rows-length land)

  -- .. and 10 alone asks less without modern grams.
  before_less :
      Less (by_modern s) (before_months s weather land (length out)) (before_months (state_without s) weather land (length out))
  unfolding before_months rows_asked soil_asked room_asked bounds_asked
  before_less = same (same (same (same (same (same (bounds_less s end))))))

  by_check :
      (check : Check) → first_of (before_months s weather land (length out)) ≡ check
      → list_by_modern s (list_checked check s out (months (land_rows land) weather land 0 s out)).outcome.answer ≡ false
      → list_checked (first_of (before_months (state_without s) weather (rows_without land) (length out))) (state_without s) out
      (months (land_rows (rows_without land)) weather (rows_without land) 0 (state_without s) out)
      ≡ left_without (list_checked check s out (months (land_rows land) weather land 0 s out))
  by_check (Ok _) is h =
      let asked =
      ap first_of before_same
      ∙ first_less (by_modern s) before_less (λ r refuses. absurd (let z : ◌≡◌ {A = ℕ} 0 1 = cc in omega arith)) ∙ is in
      rw (asked, rows-length land)
      (months_alone weather land (course weather land (land_rows land) 0 s out)
      (list_not_21 s (months (land_rows land) weather land 0 s out).outcome.answer h))
  by_check (Err refusal) is h =
      let asked =
      ap first_of before_same
      ∙ first_less (by_modern s) before_less (λ r refuses. let same : refusal ≡ r = cc in ap (by_modern s) (sym same) ∙ h) ∙ is in
      rw asked

  -- A list that is refused at a month has passed what is asked before.
  has-run :
      (check : Check) (refusal : Refusal) (before : ℕ)
      → (list_checked check s out (months (land_rows land) weather land 0 s out)).outcome.answer ≡ Err (refusal on (suc before))
      → list_checked check s out (months (land_rows land) weather land 0 s out) ≡ months (land_rows land) weather land 0 s out
  has-run (Ok _) refusal before h = refl
  has-run (Err reason) refusal before h = absurd (let z : ◌≡◌ {A = ℕ} 0 (suc before) = (same_refused h).1 in omega arith)

  pub list_alone : CarbonOfList s weather land out
  unfolding run
  list_alone =
      record {
        whole = by_check (first_of (before_months s weather land (length out))) refl;
        stopped = λ refusal before h.
            let ran = has-run (first_of (before_months s weather land (length out))) refusal before h in
            let all = course weather land (land_rows land) 0 s out in
            let place : suc before ≡ 0 + before + 1 = omega arith in
            let until =
            before-refused weather land before all
            (ap (λ (left : Left). left.outcome.answer) (sym ran) ∙ h ∙ ap {B = ListAnswer} (λ (n : ℕ). Err (refusal on n)) place) in
            months_alone weather land (course weather land before 0 s out) (ap (λ (left : Left). list_is21 left.outcome.answer) until)
            ∙ ap left_without until
            ∙ ap
            (λ (left : Left).
            record {
              outcome = record { answer = Ok tt; state = state_without left.outcome.state };
              output = left.output;
            })
            (sym ran);
      }

-- ---- without activities

-- A list's months are never refused so, ..
pub months_never :
    (s : State) (weather land : List ℤ) {left j : ℕ} {t : State} {out : List ℕ} {end : Left}
    → Course weather (rows_without land) left j t out end → list_by_modern s end.outcome.answer ≡ false
months_never s weather land courses.finished = refl
months_never s weather land (courses.refused {left} {j} {s = t} refusal e) =
    list_month_never s t (entries_at weather land j) refusal (rw (entries_without_lem weather land j) at e)
months_never s weather land (courses.month row e later) = months_never s weather land later

-- .. and neither is the list before them.
pub never_list :
    (s : State) (weather land : List ℤ) (out : List ℕ)
    → list_by_modern (state_without s) (run (state_without s) weather (rows_without land) out).outcome.answer ≡ false
unfolding run before_months rows_asked soil_asked room_asked bounds_asked
never_list s weather land out =
    by_check (first_of (before_months (state_without s) weather (rows_without land) (length out)))
    (others_found (state_without s) (before_months (state_without s) weather (rows_without land) (length out)) (rw (bounds_other s)))
  where
    by_check :
        (check : Check) → ((r : Refusal) → check ≡ Err r → by_modern (state_without s) r ≡ false)
        → list_by_modern (state_without s)
        (list_checked check (state_without s) out
        (months (land_rows (rows_without land)) weather (rows_without land) 0 (state_without s) out)).outcome.answer
        ≡ false
    by_check (Ok _) h =
        months_never (state_without s) weather land (course weather (rows_without land) (land_rows (rows_without land)) 0 (state_without s) out)
    by_check (Err refusal) h = h refusal refl
