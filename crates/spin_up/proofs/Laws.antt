-- Laws of a spin-up that its functions rest on: what a year is, what its first year leaves to the others, and what a spin-up that
-- passes its checks has.
-- Assumes nothing.
use Rattle.month_refusals.specs.Asked.{◌on◌, Check, first_of, Finds}
use Rattle.std.specs.Prelude.{Ok, Err}
use mathlib.Core.Path.{◌≡◌, sym, ◌∙◌, ap}
use mathlib.Core.Bool.{true, false, not, ◌||◌}
use mathlib.Core.List.{List, [], ◌++◌}
use Prim.Native.Nat.{ℕ, suc, ◌+◌, ◌-◌, ◌*◌, ◌≤◌, ◌<◌}
use native.Mathlib.Omega.{arith}
use native.Mathlib.Decide.{dec_le}
use native.Mathlib.Numerals.{add-one}
use borrow.Author.Tests.{ltb-false, lt-ltb, le-ltb, eqb-true, eq-eqb, ne_eqb, not-false}
use lib.Dec.{ltb}
use lib.IntN.{ℤ}
use lib.ListN.{length}
use Rattle.month_state.specs.declared.State.{State}
use Rattle.month_state.specs.State.{kept_aside, five_pools}
use Rattle.list_rows.specs.Rows.{weather_width, land_width}
use Rattle.month_refusals.specs.declared.RefusedAt.{RefusedAt}
use Rattle.month_refusals.specs.declared.Refusal.{Refusal}
use Rattle.month_refusals.specs.declared.Refusal.TheVariants.{Rows, Years}
use Rattle.month_refusals.specs.Refusals.{soil_asked, bounds_asked, state_check}
use Rattle.month_refusals.proofs.First.{passes-one, passes-parts, asked-true, asked-false, none_left, then_asked, then_refused}
use Rattle.std.proofs.lemmas.Bool.{or_parts, or_from, or_left, or_right}
use Rattle.month_refusals.proofs.Accepted.{sound-state, parts-state}
use Rattle.month_state.proofs.Counting.{sub-suc}
use Rattle.month_state.proofs.Counting as counting
use Rattle.month_state.specs.declared.Outcome.{Outcome}
use Rattle.list_run.proofs.Months.{course, place_in, months-sound, same_outcome}
use Rattle.list_run.specs.Run.{ListAnswer, Left, months}
use Rattle.spin_up.specs.declared.Years.TheVariants.{Settled, Unsettled}
use Rattle.spin_up.specs.SpinUp.{SpinAnswer, settles, year_outcome, year_answer, year_state, years}
use Rattle.spin_up.specs.SpinUp.{not_twelve, twelve_asked, allowed_asked, before_years, spin_up}

-- A total of five pools is small.
pub small : (s : State) → state_check s ≡ Ok tt → five_pools s ≤ 2000000000
small s h = let soil = (sound-state s h).soil in omega (arith, soil.pools, soil.iom)

-- ---- a year

module _ (weather land : List ℤ) (s : State) where
  -- The state that a year leaves passes 4 to 7 and 10 again.
  pub year_sound : state_check s ≡ Ok tt → state_check (year_state weather land s) ≡ Ok tt
  unfolding year_outcome
  year_sound sound = months-sound 12 weather land 0 s [] sound

  -- The place of a year's refusal is one of its twelve months.
  pub year_place : (refusal : Refusal) (place : ℕ) → year_answer weather land s ≡ Err (refusal on place)
      → (0 < place) × (place ≤ 0 + 12)
  unfolding year_outcome
  year_place refusal place h = place_in (course weather land 12 0 s []) h

-- The outcome of its months does not depend on the rows that they are lent.
pub year_is :
    (weather land : List ℤ) (s : State) (rows : List ℕ) {output : List ℕ} {outcome : Outcome ListAnswer State}
    → record { outcome = outcome; output = output } ≡ months 12 weather land 0 s rows → outcome ≡ year_outcome weather land s
unfolding year_outcome
year_is weather land s rows is = ap (λ (l : Left). l.outcome) is ∙ same_outcome 12 weather land 0 s rows []

-- ---- the years are the first of them, and the years after it

module _ (left : ℕ) (weather land : List ℤ) (before : ℕ) (starting s : State) where
  pub stops : (refusal : Refusal) (place : ℕ) → year_answer weather land s ≡ Err (refusal on place)
      → years (suc left) weather land before starting s ≡ record { answer = Err (refusal on (12 * before + place)); state = starting }
  unfolding years
  stops refusal place h = rw h

  pub settled : year_answer weather land s ≡ Ok tt → settles s (year_state weather land s) ≡ true
      → years (suc left) weather land before starting s
      ≡ record { answer = Ok (Settled (before + 1)); state = kept_aside (year_state weather land s) }
  unfolding years
  settled done h = rw (done, h)

  pub goes_on : year_answer weather land s ≡ Ok tt → settles s (year_state weather land s) ≡ false
      → years (suc left) weather land before starting s ≡ years left weather land (suc before) starting (year_state weather land s)
  unfolding years
  goes_on done h = rw (done, h)

-- ---- a year more of so many, as the loop runs them

module _
    (weather land : List ℤ) (starting s : State) {allowed before : ℕ} {end : State} {answer : ListAnswer} {whole : Outcome SpinAnswer State}
    (more : before < allowed) (is : record { answer = answer; state = end } ≡ year_outcome weather land s)
    (rest : years (allowed - before) weather land before starting s ≡ whole) where
  answered : {given : ListAnswer} → answer ≡ given → year_answer weather land s ≡ given
  answered h = ap (λ (o : Outcome ListAnswer State). o.answer) (sym is) ∙ h

  ended : end ≡ year_state weather land s
  ended = ap (λ (o : Outcome ListAnswer State). o.state) is

  -- It is refused, ..
  pub year_refused : {e : RefusedAt} → answer ≡ Err e
      → record { answer = Err (e.refusal on (12 * before + e.place)); state = starting } ≡ whole
  year_refused {e} h =
      sym (stops (allowed - suc before) weather land before starting s e.refusal e.place (answered h)) ∙ rw (sub-suc more) at rest

  pub year_within : {e : RefusedAt} → answer ≡ Err e → e.place ≤ 12
  year_within {e} h = omega (arith, (year_place weather land s e.refusal e.place (answered h)).1)

  -- .. or it settles, ..
  pub year_settled : answer ≡ Ok tt → settles s end ≡ true
      → record { answer = Ok (Settled (before + 1)); state = kept_aside end } ≡ whole
  year_settled h close =
      rw ended
      (sym (settled (allowed - suc before) weather land before starting s (answered h) (rw ended at close)) ∙ rw (sub-suc more) at rest)

  -- .. or one year less is left, from its state.
  pub year_more : answer ≡ Ok tt → settles s end ≡ false
      → years (allowed - (before + 1)) weather land (before + 1) starting end ≡ whole
  year_more h far =
      rw (ended, add-one)
      (sym (goes_on (allowed - suc before) weather land before starting s (answered h) (rw ended at far)) ∙ rw (sub-suc more) at rest)

-- No year is left.
abbrev unsettled : ℕ → State → Outcome SpinAnswer State
unsettled count s = record { answer = Ok (Unsettled count); state = kept_aside s }

pub none_more :
    (weather land : List ℤ) (starting s : State) {allowed before : ℕ} {whole : Outcome SpinAnswer State} → before ≤ allowed
    → allowed ≤ before → years (allowed - before) weather land before starting s ≡ whole → unsettled allowed s ≡ whole
unfolding years
none_more weather land starting s {allowed} {before} most none rest =
    let all : allowed ≡ before = omega arith in ap (λ (count : ℕ). unsettled count s) all ∙ rw (counting.none_left none) at rest

-- ---- the checks before the years

-- What a spin-up that passes them has.
pub record Before (s : State) (weather land : List ℤ) (allowed : ℕ) : Type 0 where
  pub twelve_weather : length weather ≡ weather_width * 12
  pub twelve_land : length land ≡ land_width * 12
  pub most : allowed ≤ 10000
  pub state : state_check s ≡ Ok tt

pub before : (s : State) (weather land : List ℤ) (allowed : ℕ) → first_of (before_years s weather land allowed) ≡ Ok tt
    → Before s weather land allowed
unfolding before_years twelve_asked allowed_asked
before s weather land allowed h =
    let rows = passes-parts (twelve_asked weather land) _ h in
    let soil = passes-parts (soil_asked s.soil) _ rows.1 in
    let later = passes-parts (allowed_asked allowed) (bounds_asked s) soil.1 in
    let both = or_parts (not_twelve weather_width weather) _ (passes-one _ _ rows.0).0 in
    let range = or_parts (ltb allowed 1) _ (passes-one _ _ later.0).0 in
    record {
      twelve_weather = eqb-true _ _ (not-false _ both.0);
      twelve_land = eqb-true _ _ (not-false _ both.1);
      most = ltb-false _ _ range.1;
      state = parts-state s soil.0 later.1;
    }

-- Years that are not from 1 to 10,000.
outside_test : {allowed : ℕ} → (1 ≤ allowed → 10000 < allowed) → (ltb allowed 1 || ltb 10000 allowed) ≡ true
outside_test {allowed} outside = elim (dec_le 1 allowed) [
  | yes some ↦ or_right (ltb allowed 1) _ (lt-ltb 10000 allowed (outside some))
  | no none ↦ or_left _ _ (lt-ltb allowed 1 (omega arith))
]

-- What each part of the check finds is what the whole list of questions finds.
module _ (s : State) (weather land : List ℤ) (allowed : ℕ) where
  pub rows-refused : (not_twelve weather_width weather || not_twelve land_width land) ≡ true
      → Finds (before_years s weather land allowed) (Err Rows)
  unfolding before_years twelve_asked
  rows-refused h = then_refused (twelve_asked weather land) _ (sym (asked-true h).first)

  pub rows_pass :
      {check : Check} → not_twelve weather_width weather ≡ false → not_twelve land_width land ≡ false
      → Finds (soil_asked s.soil ++ (allowed_asked allowed ++ bounds_asked s)) check → Finds (before_years s weather land allowed) check
  unfolding before_years twelve_asked
  rows_pass hw hl rest =
      then_asked (twelve_asked weather land) (sym (asked-false (or_from _ _ hw hl) none_left).first) rest

  pub weather_refused : (length weather ≡ weather_width * 12 → ⊥) → Finds (before_years s weather land allowed) (Err Rows)
  weather_refused h = rows-refused (or_left _ _ (ap not (ne_eqb _ _ h)))

  pub land_refused : (length land ≡ land_width * 12 → ⊥) → Finds (before_years s weather land allowed) (Err Rows)
  land_refused h = rows-refused (or_right (not_twelve weather_width weather) _ (ap not (ne_eqb _ _ h)))

  module _ (hw : length weather ≡ weather_width * 12) (hl : length land ≡ land_width * 12)
      {of_soil : Check} (soil : Finds (soil_asked s.soil) of_soil) where
    pub soil_refused : {refusal : Refusal} → of_soil ≡ Err refusal → Finds (before_years s weather land allowed) (Err refusal)
    soil_refused h =
        rows_pass (ap not (eq-eqb _ _ hw)) (ap not (eq-eqb _ _ hl)) (then_refused (soil_asked s.soil) _ (sym soil.first ∙ h))

    after_soil : {check : Check} → of_soil ≡ Ok tt → Finds (allowed_asked allowed ++ bounds_asked s) check
        → Finds (before_years s weather land allowed) check
    after_soil h rest =
        rows_pass (ap not (eq-eqb _ _ hw)) (ap not (eq-eqb _ _ hl)) (then_asked (soil_asked s.soil) (sym soil.first ∙ h) rest)

    pub years_refused : of_soil ≡ Ok tt → (1 ≤ allowed → 10000 < allowed) → Finds (before_years s weather land allowed) (Err Years)
    unfolding allowed_asked
    years_refused h outside = after_soil h (asked-true (outside_test outside))

    pub bounds_found : {check : Check} → of_soil ≡ Ok tt → 1 ≤ allowed → allowed ≤ 10000 → Finds (bounds_asked s) check
        → Finds (before_years s weather land allowed) check
    unfolding allowed_asked
    bounds_found h least most bounds = after_soil h (asked-false (or_from _ _ (le-ltb _ _ least) (le-ltb _ _ most)) bounds)

-- A spin-up's outcome is that of its years, or its refusal.
module _ (s : State) (weather land : List ℤ) (allowed : ℕ) where
  pub passes_spin : first_of (before_years s weather land allowed) ≡ Ok tt
      → years allowed weather land 0 s s ≡ spin_up s weather land allowed
  unfolding spin_up
  passes_spin h = rw h

  pub refuses_spin : {refusal : Refusal} → first_of (before_years s weather land allowed) ≡ Err refusal
      → record { answer = Err (refusal on 0); state = s } ≡ spin_up s weather land allowed
  unfolding spin_up
  refuses_spin h = rw h
