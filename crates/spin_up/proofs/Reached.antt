-- The years and the state of a spin-up agree: settled is the first year that settles, unsettled is after all the years, and a refusal
-- returns the starting state.
-- Assumes nothing.
use Rattle.month_refusals.specs.Asked.{◌on◌, Check, first_of, told, Exactly, placed_found, placed_told}
use Rattle.std.specs.Prelude.{Ok, Err}
use mathlib.Core.Path.{◌≡◌, refl, sym, ◌∙◌, ap}
use mathlib.Core.Bool.{Bool, true, false}
use mathlib.Core.List.{List, []}
use Prim.Native.Nat.{ℕ, zero, suc, ◌+◌, ◌*◌, ◌<◌}
use native.Mathlib.Omega.{arith}
use lib.IntN.{ℤ}
use Rattle.month_state.specs.declared.State.{State}
use Rattle.month_state.specs.State.{kept_aside}
use Rattle.month_refusals.specs.declared.Refusal.{Refusal}
use Rattle.month_refusals.specs.Refusals.{state_check}
use Rattle.list_run.specs.Run.{ListAnswer}
use Rattle.list_run.specs.ListCalls.{Ran}
use Rattle.list_run.proofs.ListCalls.{all_ran}
use Rattle.list_run.proofs.Laws.{same_refused}
use Rattle.list_run.proofs.Months as months-of
use Rattle.spin_up.specs.SpinUp.{SpinAnswer, settles, year_outcome, year_answer, year_state, years, before_years, spin_asked, spin_checked, spin_up}
use Rattle.spin_up.specs.SpinUp.{spin_years, spin_end}
use Rattle.spin_up.specs.declared.Years.TheVariants.{Settled, Unsettled}
use Rattle.month_state.specs.declared.Outcome.{Outcome}
use Rattle.spin_up.specs.Reached.{after_years, answer_after, settles_after, Passed, SettledIn, UnsettledIn, RefusedIn}
use Rattle.spin_up.proofs.Laws.{stops, settled, goes_on}
use Rattle.spin_up.proofs.Refusals.{spin_told_lem, spin_exactly}

-- ---- a year

-- A year that is finished is twelve single month calls in turn, with the numbers that come next, all accepted.
pub year_ran :
    (weather land : List ℤ) (s : State) → state_check s ≡ Ok tt → year_answer weather land s ≡ Ok tt
    → Ran weather land 0 s 12 (year_state weather land s)
unfolding year_outcome
year_ran weather land s sound h = all_ran weather land (months-of.course weather land 12 0 s []) sound h

-- ---- how the years go

-- So many years from the state s, `before` being run before it, and their outcome, one year at a time.
pub data Course (weather land : List ℤ) (starting : State) : ℕ → ℕ → State → Outcome SpinAnswer State → Type 0 where
  none_left :
      {before : ℕ} {s : State} → Course weather land starting zero before s (record { answer = Ok (Unsettled before); state = kept_aside s })
  refused :
      {left before : ℕ} {s : State} (reason : Refusal) (month : ℕ) → year_answer weather land s ≡ Err (reason on month)
      → Course weather land starting (suc left) before s (record { answer = Err (reason on (12 * before + month)); state = starting })
  settles_now :
      {left before : ℕ} {s : State} → year_answer weather land s ≡ Ok tt → settles s (year_state weather land s) ≡ true
      → Course weather land starting (suc left) before s
      (record { answer = Ok (Settled (before + 1)); state = kept_aside (year_state weather land s) })
  year :
      {left before : ℕ} {s : State} {end : Outcome SpinAnswer State} → year_answer weather land s ≡ Ok tt
      → settles s (year_state weather land s) ≡ false → Course weather land starting left (suc before) (year_state weather land s) end
      → Course weather land starting (suc left) before s end

module _ (weather land : List ℤ) (starting : State) where
  -- By the answer of the first year, and whether it settles.
  first :
      (left before : ℕ) (s : State) (answer : ListAnswer) (test : Bool) → year_answer weather land s ≡ answer
      → settles s (year_state weather land s) ≡ test
      → Course weather land starting left (suc before) (year_state weather land s)
      (years left weather land (suc before) starting (year_state weather land s))
      → Course weather land starting (suc left) before s (years (suc left) weather land before starting s)
  first left before s (Err why) test e t later =
      rw (stops left weather land before starting s why.refusal why.place e) (refused why.refusal why.place e)
  first left before s (Ok _) true e t later = rw (settled left weather land before starting s e t) (settles_now e t)
  first left before s (Ok _) false e t later = rw (goes_on left weather land before starting s e t) (year e t later)

  pub course : (left before : ℕ) (s : State) → Course weather land starting left before s (years left weather land before starting s)
  unfolding years
  course zero before s = none_left
  course (suc left) before s =
      first left before s (year_answer weather land s) (settles s (year_state weather land s)) refl refl
      (course left (suc before) (year_state weather land s))

-- ---- years that passed

module _ (weather land : List ℤ) where
  passed_none : (s : State) → Passed weather land s zero
  passed_none s = record { finished = λ k h. absurd (omega arith); unsettled = λ k h. absurd (omega arith) }

  module _
      (s : State) (count : ℕ) (done : year_answer weather land s ≡ Ok tt)
      (far : settles s (year_state weather land s) ≡ false) (later : Passed weather land (year_state weather land s) count) where
    all_finished : (k : ℕ) → k < suc count → answer_after k weather land s ≡ Ok tt
    unfolding after_years
    all_finished zero h = done
    all_finished (suc k) h = later.finished k (omega arith)

    none_settled : (k : ℕ) → k < suc count → settles_after k weather land s ≡ false
    unfolding after_years
    none_settled zero h = far
    none_settled (suc k) h = later.unsettled k (omega arith)

    passed-more : Passed weather land s (suc count)
    passed-more = record { finished = all_finished; unsettled = none_settled }

  -- ---- the answers

  settled_in :
      {starting : State} {left before : ℕ} {s : State} {end : Outcome SpinAnswer State} {count : ℕ} → Course weather land starting left before s end
      → end.answer ≡ Ok (Settled count) → SettledIn weather land before left s count end.state
  unfolding after_years
  settled_in none_left h = absurd (let z : ◌≡◌ {A = ℕ} 0 1 = cc in omega arith)
  settled_in (refused reason month e) h = absurd (let z : ◌≡◌ {A = ℕ} 0 1 = cc in omega arith)
  settled_in {before} {s} {count} (settles_now e t) h =
      let is : count ≡ before + 1 = cc in
      record {
        earlier = 0;
        count = omega arith;
        within = omega arith;
        passed = passed_none s;
        finished = e;
        settles = t;
        state = refl;
      }
  settled_in {s} (year e t later) h =
      let rest = settled_in later h in
      record {
        earlier = suc rest.earlier;
        count = omega (arith, rest.count);
        within = omega (arith, rest.within);
        passed = passed-more s rest.earlier e t rest.passed;
        finished = rest.finished;
        settles = rest.settles;
        state = rest.state;
      }

  unsettled_in :
      {starting : State} {left before : ℕ} {s : State} {end : Outcome SpinAnswer State} {count : ℕ} → Course weather land starting left before s end
      → end.answer ≡ Ok (Unsettled count) → UnsettledIn weather land before left s count end.state
  unfolding after_years
  unsettled_in {before} {s} {count} none_left h =
      let is : count ≡ before = cc in record { count = omega arith; passed = passed_none s; state = refl }
  unsettled_in (refused reason month e) h = absurd (let z : ◌≡◌ {A = ℕ} 0 1 = cc in omega arith)
  unsettled_in (settles_now e t) h = absurd (let z : ◌≡◌ {A = ℕ} 0 1 = cc in omega arith)
  unsettled_in {s} (year e t later) h =
      let rest = unsettled_in later h in
      record { count = omega (arith, rest.count); passed = passed-more s _ e t rest.passed; state = rest.state }

  refused_in :
      {starting : State} {left before : ℕ} {s : State} {end : Outcome SpinAnswer State} {refusal : Refusal} {place : ℕ}
      → Course weather land starting left before s end → end.answer ≡ Err (refusal on place)
      → RefusedIn weather land before left starting s refusal place end.state
  unfolding after_years
  refused_in none_left h = absurd (let z : ◌≡◌ {A = ℕ} 0 1 = cc in omega arith)
  refused_in {before} {s} {refusal} {place} (refused reason month e) h =
      let same = same_refused h in
      record {
        earlier = 0;
        within = omega arith;
        passed = passed_none s;
        month = month;
        answer = e ∙ ap (λ (r : Refusal). Err (r on month)) same.0;
        at = omega (arith, same.1);
        state = refl;
      }
  refused_in (settles_now e t) h = absurd (let z : ◌≡◌ {A = ℕ} 0 1 = cc in omega arith)
  refused_in {s} (year e t later) h =
      let rest = refused_in later h in
      record {
        earlier = suc rest.earlier;
        within = omega (arith, rest.within);
        passed = passed-more s rest.earlier e t rest.passed;
        month = rest.month;
        answer = rest.answer;
        at = omega (arith, rest.at);
        state = rest.state;
      }

-- ---- a whole spin-up

-- It is refused before its years, with the state that it was given, or its outcome is that of its years.
pub data Begun (s : State) (later : Outcome SpinAnswer State) : Outcome SpinAnswer State → Type 0 where
  outside-years : (refusal : Refusal) → Begun s later (record { answer = Err (refusal on 0); state = s })
  started : Begun s later later

checked_begun : {s : State} {later : Outcome SpinAnswer State} (check : Check) → Begun s later (spin_checked check s later)
checked_begun (Ok _) = started
checked_begun (Err refusal) = outside-years refusal

module _ (s : State) (weather land : List ℤ) (allowed : ℕ) where
  abbrev the_years : Outcome SpinAnswer State
  the_years = years allowed weather land 0 s s

  whole : Course weather land s allowed 0 s the_years
  whole = course weather land s allowed 0 s

  begun : Begun s the_years (spin_up s weather land allowed)
  unfolding spin_up
  begun = checked_begun (first_of (before_years s weather land allowed))

  -- Settled: the years are from 1 to those allowed, the last of them is the first that settles, and the state is that after them.
  when_settled : {end : Outcome SpinAnswer State} {count : ℕ} → Begun s the_years end → end.answer ≡ Ok (Settled count)
      → SettledIn weather land 0 allowed s count end.state
  when_settled (outside-years refusal) h = absurd (let z : ◌≡◌ {A = ℕ} 0 1 = cc in omega arith)
  when_settled started h = settled_in weather land whole h

  pub settled_first : (count : ℕ) → (spin_up s weather land allowed).answer ≡ Ok (Settled count)
      → SettledIn weather land 0 allowed s count (spin_up s weather land allowed).state
  settled_first count h = when_settled begun h

  -- Unsettled: the years are those allowed, none settled, and the state is that after them.
  when_unsettled : {end : Outcome SpinAnswer State} {count : ℕ} → Begun s the_years end → end.answer ≡ Ok (Unsettled count)
      → UnsettledIn weather land 0 allowed s count end.state
  when_unsettled (outside-years refusal) h = absurd (let z : ◌≡◌ {A = ℕ} 0 1 = cc in omega arith)
  when_unsettled started h = unsettled_in weather land whole h

  pub unsettled_all : (count : ℕ) → (spin_up s weather land allowed).answer ≡ Ok (Unsettled count)
      → UnsettledIn weather land 0 allowed s count (spin_up s weather land allowed).state
  unsettled_all count h = when_unsettled begun h

  -- Refused: the state is the starting state, ..
  when_refused : {end : Outcome SpinAnswer State} {refusal : Refusal} {place : ℕ} → Begun s the_years end → end.answer ≡ Err (refusal on place)
      → end.state ≡ s
  when_refused (outside-years reason) h = refl
  when_refused started h = (refused_in weather land whole h).state

  pub refused_returns : (refusal : Refusal) (place : ℕ) → (spin_up s weather land allowed).answer ≡ Err (refusal on place)
      → (spin_up s weather land allowed).state ≡ s
  refused_returns refusal place h = when_refused begun h

  -- .. and a place other than 0 is that of a month, counted over all the years.
  when_a_month : {end : Outcome SpinAnswer State} {refusal : Refusal} {place : ℕ} → Begun s the_years end
      → end.answer ≡ Err (refusal on (suc place)) → RefusedIn weather land 0 allowed s s refusal (suc place) end.state
  when_a_month {place} (outside-years reason) h = absurd (let z : 0 ≡ suc place = (same_refused h).1 in omega arith)
  when_a_month started h = refused_in weather land whole h

  pub refused-month : (refusal : Refusal) (place : ℕ) → (spin_up s weather land allowed).answer ≡ Err (refusal on (suc place))
      → RefusedIn weather land 0 allowed s s refusal (suc place) (spin_up s weather land allowed).state
  refused-month refusal place h = when_a_month begun h

  -- The state is that after the years that the answer tells, with none kept unless it is refused.
  reached : (answer : SpinAnswer) → (spin_up s weather land allowed).answer ≡ answer
      → (spin_up s weather land allowed).state ≡ spin_end answer (after_years (spin_years answer) weather land s)
  unfolding after_years
  reached (Ok (Settled count)) h =
      let at = settled_first count h in
      let is : count ≡ suc at.earlier = omega (arith, at.count) in
      at.state ∙ ap (λ n. kept_aside (after_years n weather land s)) (sym is)
  reached (Ok (Unsettled count)) h =
      let at = unsettled_all count h in
      let is : count ≡ allowed = omega (arith, at.count) in
      at.state ∙ ap (λ n. kept_aside (after_years n weather land s)) (sym is)
  reached (Err e) h = refused_returns e.refusal e.place h

  pub years_reached : (spin_up s weather land allowed).state
      ≡ spin_end (spin_up s weather land allowed).answer
      (after_years (spin_years (spin_up s weather land allowed).answer) weather land s)
  years_reached = reached (spin_up s weather land allowed).answer refl

-- ---- what is the definition's own outcome

-- It has its number and place, its refusals, and the state that its years reach.
module _ (s : State) (weather land : List ℤ) (allowed : ℕ) {outcome : Outcome SpinAnswer State} (is : outcome ≡ spin_up s weather land allowed) where
  pub outcome_told : placed_told outcome.answer ≡ told (spin_asked s weather land allowed)
  outcome_told = rw is (spin_told_lem s weather land allowed)

  pub outcome_exactly : Exactly (spin_asked s weather land allowed) (placed_found outcome.answer)
  outcome_exactly = rw is (spin_exactly s weather land allowed)

  pub outcome_reached : outcome.state ≡ spin_end outcome.answer (after_years (spin_years outcome.answer) weather land s)
  outcome_reached = rw is (years_reached s weather land allowed)
