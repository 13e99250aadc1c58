-- A month without activities is the month, but for its modern grams, unless 21, or 10 for modern grams, refuses it: what is asked is the
-- same but there, and what is found gives the same row and the same carbon.
-- Assumes nothing.
use Rattle.std.specs.Prelude.{Ok, Err}
use mathlib.Core.Path.{◌≡◌, refl, sym, ◌∙◌, ap}
use mathlib.Core.Bool.{Bool, true, false, not, ◌||◌}
use mathlib.Core.List.{List, [], ◌∷◌}
use Prim.Native.Nat.{ℕ}
use native.Mathlib.Omega.{arith}
use borrow.Author.Tests.{le-ltb}
use lib.Dec.{eqb}
use Rattle.number_units.specs.declared.Grams.{Grams}
use Rattle.step_factors.specs.Factors.{clay_number}
use Rattle.step_decay.specs.Rates.{survivals}
use Rattle.step_pools.specs.Pools.{total}
use Rattle.month_state.specs.declared.State.{State}
use Rattle.month_state.specs.declared.Entries.{Entries}
use Rattle.std.proofs.lemmas.Bool.{or_left}
use Rattle.month_refusals.specs.Asked.{Check, refusal_number, Asked, ◌if◌, given, first_of}
use Rattle.month_refusals.specs.declared.Refusal.{Refusal}
use Rattle.month_refusals.specs.declared.Refusal.TheVariants.{Bounds, Activity}
use Rattle.month_refusals.specs.Refusals.{modern_bound, carbon_bounds_passed, modern_above, bounds_passed, out_of_turn, limit_reached, cover_outside}
use Rattle.month_refusals.specs.Refusals.{additions_outside, activity_outside, ceiling_passed, soil_asked, bounds_asked, state_asked, turn_asked}
use Rattle.month_refusals.specs.Refusals.{weather_asked, land_asked, carbon_asked, entries_asked, month_asked, entries_check, month_check}
use Rattle.month_refusals.proofs.First.{all_own, finds_own}
use Rattle.month_call.specs.Month.{deficit_after, rate_after, pools_after, gas_of, modern_after, next_deficit, next_rate, moved_to, row_of}
use Rattle.month_call.specs.Month.{outcome_of, month_call, list_month}
use Rattle.radiocarbon_laws.specs.Without.{no_grams, state_without, entries_without, outcome_without}
use Rattle.radiocarbon_laws.specs.Calls.{by_modern, answer_by_modern}
use Rattle.radiocarbon_laws.proofs.Nothing.{none-after-month}

-- ---- what is asked

abbrev pub is21 : Refusal → Bool
is21 refusal = eqb (refusal_number refusal) 21

-- The second list asks what the first does, but where a refusal is left out it asks less.
pub data Less (left_out : Refusal → Bool) : List Asked → List Asked → Type 0 where
  end : Less left_out [] []
  same : {x : Asked} {xs ys : List Asked} → Less left_out xs ys → Less left_out (x ∷ xs) (x ∷ ys)
  less :
      {refusal : Refusal} {a b : Bool} {xs ys : List Asked} → (b ≡ true → a ≡ true)
      → (a ≡ true → b ≡ false → left_out refusal ≡ true) → Less left_out xs ys
      → Less left_out ((refusal if a) ∷ xs) ((refusal if b) ∷ ys)

clash : false ≡ true → ⊥
clash e = let z : ◌≡◌ {A = ℕ} 0 1 = cc in omega arith

-- What the first finds, and isn't left out, the second finds too.
module _ (left_out : Refusal → Bool) where
  after_same :
      (test : Bool) (refusal : Refusal) (x y : Check) → (((r : Refusal) → x ≡ Err r → left_out r ≡ false) → y ≡ x)
      → ((r : Refusal) → given test refusal x ≡ Err r → left_out r ≡ false) → given test refusal y ≡ given test refusal x
  after_same true refusal x y rest h = refl
  after_same false refusal x y rest h = rest h

  after_less :
      (a b : Bool) (refusal : Refusal) (x y : Check) → (b ≡ true → a ≡ true) → (a ≡ true → b ≡ false → left_out refusal ≡ true)
      → (((r : Refusal) → x ≡ Err r → left_out r ≡ false) → y ≡ x)
      → ((r : Refusal) → given a refusal x ≡ Err r → left_out r ≡ false) → given b refusal y ≡ given a refusal x
  after_less true true refusal x y implied out rest h = refl
  after_less true false refusal x y implied out rest h = absurd (clash (sym (h refusal refl) ∙ out refl refl))
  after_less false true refusal x y implied out rest h = absurd (clash (implied refl))
  after_less false false refusal x y implied out rest h = rest h

  pub first_less :
      {xs ys : List Asked} → Less left_out xs ys → ((r : Refusal) → first_of xs ≡ Err r → left_out r ≡ false)
      → first_of ys ≡ first_of xs
  unfolding first_of
  first_less end h = refl
  first_less (same {x} {xs} {ys} later) h =
      after_same x.applies x.refusal (first_of xs) (first_of ys) (λ rest. first_less later rest) h
  first_less (less {refusal} {a} {b} {xs} {ys} implied out later) h =
      after_less a b refusal (first_of xs) (first_of ys) implied out (λ rest. first_less later rest) h

either_same : (x : Bool) → (x || false) ≡ x
either_same true = refl
either_same false = refl

not_of : {x : Bool} → x ≡ false → not x ≡ true
not_of h = rw h

module _ (s : State) where
  -- 10 asks of a state without modern grams what it asks of carbon.
  none_above : modern_above (state_without s) ≡ false
  unfolding modern_above total
  none_above = le-ltb (modern_bound s.months) 0 (omega arith)

  pub bounds_are : bounds_passed (state_without s) ≡ carbon_bounds_passed s
  unfolding bounds_passed carbon_bounds_passed
  bounds_are = rw none_above (either_same _)

  pub bounds_less :
      {xs ys : List Asked} → Less (by_modern s) xs ys
      → Less (by_modern s) ((Bounds if bounds_passed s) ∷ xs) ((Bounds if bounds_passed (state_without s)) ∷ ys)
  unfolding bounds_passed
  bounds_less later =
      less (λ h. or_left _ _ (sym bounds_are ∙ h)) (λ h h'. not_of (sym bounds_are ∙ h')) later

  -- 21 asks nothing of an activity of 0.
  activity_less :
      {left_out : Refusal → Bool} {a : Bool} {xs ys : List Asked} → left_out Activity ≡ true → Less left_out xs ys
      → Less left_out ((Activity if a) ∷ xs) ((Activity if false) ∷ ys)
  activity_less own later = less {b = false} (λ h. absurd (clash h)) (λ h h'. own) later

  module _ (e : Entries) where
    entries_less :
        {left_out : Refusal → Bool} → left_out Activity ≡ true
        → Less left_out (entries_asked s e) (entries_asked (state_without s) (entries_without e))
    unfolding entries_asked limit_reached weather_asked carbon_asked land_asked cover_outside additions_outside activity_outside ceiling_passed
    entries_less own = same (same (same (same (same (same (activity_less own (same end)))))))

    month_less : (number : ℕ) → Less (by_modern s) (month_asked s number e) (month_asked (state_without s) number (entries_without e))
    unfolding month_asked state_asked soil_asked bounds_asked turn_asked out_of_turn
    month_less number = same (same (same (same (bounds_less (same (entries_less refl))))))

    -- ---- what is found gives the same carbon

    none_after : modern_after s.soil no_grams (next_rate s e) (entries_without e).land ≡ no_grams
    unfolding modern_after
    none_after =
        none-after-month (survivals (next_rate s e)) (clay_number s.soil.clay) s.soil.kind _ _

    outcome-same : (check : Check) → outcome_of check (state_without s) (entries_without e) ≡ outcome_without (outcome_of check s e)
    unfolding outcome_of moved_to row_of pools_after gas_of modern_after next_deficit deficit_after next_rate rate_after
    outcome-same (Ok _) =
        ap
        (λ (modern : List Grams).
        record {
          answer = (outcome_of (Ok tt) s e).answer;
          state =
              record {
                soil = (outcome_of (Ok tt) s e).state.soil;
                deficit = (outcome_of (Ok tt) s e).state.deficit;
                months = (outcome_of (Ok tt) s e).state.months;
                co2 = (outcome_of (Ok tt) s e).state.co2;
                modern = modern;
                kept = (outcome_of (Ok tt) s e).state.kept;
              };
        })
        none_after
    outcome-same (Err refusal) = refl

    -- ---- the month

    -- A check's refusal is the answer's.
    found-refused :
        (left_out : Refusal → Bool) (check : Check)
        → ((r : Refusal) → (outcome_of check s e).answer ≡ Err r → left_out r ≡ false)
        → (r : Refusal) → check ≡ Err r → left_out r ≡ false
    unfolding outcome_of
    found-refused left_out (Ok _) h r is = absurd (let z : ◌≡◌ {A = ℕ} 0 1 = cc in omega arith)
    found-refused left_out (Err refusal) h r is = let same : refusal ≡ r = cc in h r (ap Err same)

    pub month_without :
        (number : ℕ) → answer_by_modern s (month_call s number e).answer ≡ false
        → month_call (state_without s) number (entries_without e) ≡ outcome_without (month_call s number e)
    unfolding month_call
    month_without number h =
        let other = found-refused (by_modern s) (month_check s number e) (λ r is. sym (ap (answer_by_modern s) is) ∙ h) in
        let same = first_less (by_modern s) (month_less number) other in
        ap (λ (check : Check). outcome_of check (state_without s) (entries_without e)) same ∙ outcome-same (month_check s number e)

    -- Of a list's month 10 is not asked.
    pub list_month_without :
        ((r : Refusal) → (list_month s e).answer ≡ Err r → is21 r ≡ false)
        → list_month (state_without s) (entries_without e) ≡ outcome_without (list_month s e)
    unfolding list_month
    list_month_without h =
        let same = first_less is21 (entries_less refl) (found-refused is21 (entries_check s e) h) in
        ap (λ (check : Check). outcome_of check (state_without s) (entries_without e)) same ∙ outcome-same (entries_check s e)

-- ---- without activities none of these refusals is given

not-true : (x : Bool) → not x ≡ true → x ≡ false
not-true true h = sym h
not-true false h = refl

-- What is asked is no refusal of these, or does not apply.
abbrev pub OthersAsked : State → List Asked → Type 0
OthersAsked s asked = all_own (λ r. not (by_modern s r)) asked ≡ true

pub others_found : (s : State) (asked : List Asked) → OthersAsked s asked → (r : Refusal) → first_of asked ≡ Err r → by_modern s r ≡ false
others_found s asked others r h = not-true (by_modern s r) (finds_own (λ r. not (by_modern s r)) asked others h)

entries_others : (s t : State) (e : Entries) → OthersAsked s (entries_asked t (entries_without e))
unfolding entries_asked weather_asked carbon_asked land_asked activity_outside
entries_others s t e = refl

-- 10 applies for carbon alone.
either_way : (passed other : Bool) → other ≡ passed → (not (not passed) || not other) ≡ true
either_way true other h = refl
either_way false other h = rw h

pub bounds_other : (s : State) → (not (by_modern (state_without s) Bounds) || not (bounds_passed (state_without s))) ≡ true
unfolding carbon_bounds_passed
bounds_other s = either_way (carbon_bounds_passed s) (bounds_passed (state_without s)) (bounds_are s)

module _ (s : State) where
  month_others : (number : ℕ) (e : Entries) → OthersAsked (state_without s) (month_asked (state_without s) number (entries_without e))
  unfolding month_asked state_asked soil_asked bounds_asked turn_asked
  month_others number e = rw (bounds_other s, entries_others (state_without s) (state_without s) e)

  pub month_never :
      (number : ℕ) (e : Entries) → answer_by_modern (state_without s) (month_call (state_without s) number (entries_without e)).answer ≡ false
  unfolding month_call outcome_of
  month_never number e =
      by_check (month_check (state_without s) number (entries_without e))
      (others_found (state_without s) (month_asked (state_without s) number (entries_without e)) (month_others number e))
    where
      by_check :
          (check : Check) → ((r : Refusal) → check ≡ Err r → by_modern (state_without s) r ≡ false)
          → answer_by_modern (state_without s) (outcome_of check (state_without s) (entries_without e)).answer ≡ false
      by_check (Ok _) h = refl
      by_check (Err refusal) h = h refusal refl

-- A month that is refused in a list.
pub list_month_never :
    (s t : State) (e : Entries) (r : Refusal) → (list_month t (entries_without e)).answer ≡ Err r → by_modern s r ≡ false
unfolding list_month outcome_of
list_month_never s t e r h =
    others_found s (entries_asked t (entries_without e)) (entries_others s t e) r (by_check (entries_check t (entries_without e)) h)
  where
    by_check : (check : Check) → (outcome_of check t (entries_without e)).answer ≡ Err r → check ≡ Err r
    by_check (Ok _) h = absurd (let z : ◌≡◌ {A = ℕ} 0 1 = cc in omega arith)
    by_check (Err reason) h = cc
