-- STAYS ACCEPTED: an accepted month leaves a sound state, a refused one the state that it was given. With takings-back a list ends as its
-- months that remain do, the kept ones aside, and these are never more than 24.
-- Assumes nothing.
use Rattle.month_call.specs.Month.{Answer}
use Rattle.std.specs.Prelude.{Ok, Err}
use mathlib.Core.Path.{◌≡◌, refl, sym, ◌∙◌, ap, subst}
use mathlib.Core.Bool.{Bool, true, false}
use mathlib.Core.List.{List, [], ◌∷◌}
use Prim.Native.Nat.{ℕ, zero, suc, ◌+◌, ◌≤◌}
use native.Mathlib.Omega.{arith}
use borrow.Author.Tests.{le-ltb}
use lib.IntN.{ℤ}
use lib.ListN.{length}
use Rattle.month_state.specs.declared.State.{State}
use Rattle.month_state.specs.State.{kept_limit, kept_aside}
use Rattle.month_layouts.specs.Layouts.{state_from}
use Rattle.month_refusals.specs.Asked.{Check, first_of}
use Rattle.month_refusals.specs.Refusals.{carbon_bounds_passed, modern_above, bounds_passed, bounds_asked, state_asked, state_check, month_check}
use Rattle.month_refusals.proofs.Accepted.{sound-state, state-passes}
use Rattle.month_state.specs.declared.Outcome.{Outcome}
use Rattle.month_call.proofs.Laws.{accepted_moves, refusal_returns}
use Rattle.month_demand3.specs.Calls.{Call, state_after, run_calls}
use Rattle.kept_months.specs.Kept.{latest, take_asked, take_checked, take_back}
use Rattle.kept_demand3.specs.Acts.{Act, call, back, Field, after_call, after_back, run_acts, remaining}
use Rattle.kept_demand3.specs.Demand.{Lent}
use Rattle.kept_demand3.proofs.Demand.{field-demand3}
use Rattle.list_rows.specs.Rows.{land_rows}
use Rattle.list_run.specs.Run.{ListAnswer, months, before_months, list_checked, run}
use Rattle.list_run.proofs.Months.{months-sound}
use Rattle.spin_up.specs.SpinUp.{SpinAnswer, settles, year_answer, year_state, year_end, after_year, years, before_years, spin_checked, spin_up}
use Rattle.spin_up.proofs.Laws.{year_sound}
use Rattle.radiocarbon_laws.specs.Bounds.{StaysAccepted}

call_stays : (s : State) (c : Call) (check : Check) → month_check s c.number c.entries ≡ check → state_check s ≡ Ok tt
    → state_check (state_after s c) ≡ Ok tt
call_stays s c (Ok _) is h = state-passes _ (accepted_moves s c.number c.entries is).sound
call_stays s c (Err refusal) is h =
    subst (λ (o : Outcome Answer State). state_check o.state ≡ Ok tt) (sym (refusal_returns s c.number c.entries refusal is)) h

calls_stay : (s : State) → state_check s ≡ Ok tt → (calls : List Call) → state_check (run_calls s calls) ≡ Ok tt
unfolding run_calls
calls_stay s h [] = h
calls_stay s h (c ∷ calls) =
    calls_stay (state_after s c) (call_stays s c (month_check s c.number c.entries) refl h) calls

list_stays : (s : State) → state_check s ≡ Ok tt → (weather land : List ℤ) (out : List ℕ)
    → state_check (run s weather land out).outcome.state ≡ Ok tt
unfolding run
list_stays s h weather land out = by_check (first_of (before_months s weather land (length out)))
  where
    by_check :
        (check : Check)
        → state_check (list_checked check s out (months (land_rows land) weather land 0 s out)).outcome.state ≡ Ok tt
    by_check (Ok _) = months-sound (land_rows land) weather land 0 s out h
    by_check (Err refusal) = h

-- ---- with takings-back

few_call : (s : State) (c : Call) (check : Check) → month_check s c.number c.entries ≡ check → s.kept ≤ kept_limit
    → (state_after s c).kept ≤ kept_limit
few_call s c (Ok _) is few = (accepted_moves s c.number c.entries is).sound.kept
few_call s c (Err refusal) is few =
    subst (λ (o : Outcome Answer State). o.state.kept ≤ kept_limit) (sym (refusal_returns s c.number c.entries refusal is)) few

few_back : (s : State) (memory : List ℕ) (check : Check) → s.kept ≤ kept_limit → (take_checked check s memory).state.kept ≤ kept_limit
unfolding latest state_from
few_back s memory (Ok _) few = omega arith
few_back s memory (Err refusal) few = few

few_acts : (f : Field) (acts : List Act) → f.state.kept ≤ kept_limit → (run_acts f acts).state.kept ≤ kept_limit
unfolding run_acts take_back
few_acts f [] few = few
few_acts f (call c ∷ acts) few =
    few_acts (after_call f c) acts (few_call f.state c (month_check f.state c.number c.entries) refl few)
few_acts f (back ∷ acts) few = few_acts (after_back f) acts (few_back f.state f.memory (first_of (take_asked f.state)) few)

-- Where they are no more, the kept ones make no difference.
check_aside : (s : State) → s.kept ≤ kept_limit → state_check s ≡ state_check (kept_aside s)
unfolding state_asked bounds_asked bounds_passed carbon_bounds_passed modern_above
check_aside s few = rw (le-ltb kept_limit s.kept few)

field_stays : (f : Field) → Lent f → f.state.kept ≡ 0 → state_check f.state ≡ Ok tt → (acts : List Act)
    → state_check (run_acts f acts).state ≡ Ok tt
field_stays f lent none h acts =
    let months = remaining f acts in
    let stays = calls_stay f.state h months in
    check_aside (run_acts f acts).state (few_acts f acts (omega arith))
    ∙ ap state_check (field-demand3.begun_with_none f lent none acts).same
    ∙ sym (check_aside (run_calls f.state months) (sound-state (run_calls f.state months) stays).kept)
    ∙ stays

-- ---- spin-ups

-- A sound state with the kept ones aside is sound.
aside_stays : (s : State) → state_check s ≡ Ok tt → state_check (kept_aside s) ≡ Ok tt
aside_stays s h = sym (check_aside s (sound-state s h).kept) ∙ h

end_stays : (test : Bool) (count : ℕ) (s : State) (later : Outcome SpinAnswer State) → state_check s ≡ Ok tt → state_check later.state ≡ Ok tt
    → state_check (year_end test count s later).state ≡ Ok tt
end_stays true count s later h rest = aside_stays s h
end_stays false count s later h rest = rest

year_stays :
    (answer : ListAnswer) (u s : State) (before : ℕ) (starting : State) (more : State → Outcome SpinAnswer State) → state_check u ≡ Ok tt
    → state_check starting ≡ Ok tt → state_check (more u).state ≡ Ok tt → state_check (after_year answer u s before starting more).state ≡ Ok tt
year_stays (Ok _) u s before starting more h begun rest = end_stays (settles s u) (before + 1) u (more u) h rest
year_stays (Err e) u s before starting more h begun rest = begun

years_stay :
    (left : ℕ) (weather land : List ℤ) (before : ℕ) (starting s : State) → state_check starting ≡ Ok tt → state_check s ≡ Ok tt
    → state_check (years left weather land before starting s).state ≡ Ok tt
unfolding years
years_stay zero weather land before starting s begun h = aside_stays s h
years_stay (suc left) weather land before starting s begun h =
    let u = year_state weather land s in
    let sound = year_sound weather land s h in
    year_stays (year_answer weather land s) u s before starting (years left weather land (suc before) starting) sound begun
    (years_stay left weather land (suc before) starting u begun sound)

spin_stays : (s : State) → state_check s ≡ Ok tt → (weather land : List ℤ) (allowed : ℕ) → state_check (spin_up s weather land allowed).state ≡ Ok tt
unfolding spin_up
spin_stays s h weather land allowed = by_check (first_of (before_years s weather land allowed))
  where
    by_check : (check : Check) → state_check (spin_checked check s (years allowed weather land 0 s s)).state ≡ Ok tt
    by_check (Ok _) = years_stay allowed weather land 0 s s h h
    by_check (Err refusal) = h

pub stays_accepted : StaysAccepted
stays_accepted = record { calls = calls_stay; fields = field_stays; lists = list_stays; spins = spin_stays }
