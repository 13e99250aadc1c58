-- FOUR FOR THREE: a month with 4 tenths of open pan evaporation is the month with 3 tenths of potential evapotranspiration. Both are
-- asked the same, and their drying is the same.
-- Assumes nothing.
use Rattle.std.specs.Prelude.{Ok, Err}
use mathlib.Core.Path.{◌≡◌, refl, ◌∙◌, ap, ap₂}
use mathlib.Core.Bool.{false}
use mathlib.Core.List.{List, ◌∷◌, ◌++◌}
use Prim.Native.Nat.{ℕ, ◌*◌, ◌≤◌}
use native.Mathlib.Omega.{arith}
use borrow.Author.Tests.{le-ltb}
use lib.IntN.{pos, nat_abs}
use Rattle.step_water.proofs.Laws.{deficit_four_for_three}
use Rattle.month_state.specs.declared.State.{State}
use Rattle.month_state.specs.declared.Entries.{Entries}
use Rattle.std.proofs.lemmas.Bool.{or_from}
use Rattle.month_refusals.specs.Asked.{Check, Asked, ◌if◌, first_of}
use Rattle.month_refusals.specs.declared.Refusal.TheVariants.{MonthLimit}
use Rattle.month_refusals.specs.Refusals.{outside, temperature_outside, water_outside, source_outside, limit_reached, state_asked, turn_asked}
use Rattle.month_refusals.specs.Refusals.{weather_asked, carbon_asked, entries_asked, month_asked, entries_check, month_check}
use Rattle.month_call.specs.Month.{crop, largest_deficit, deficit_after, rate_after, next_deficit, next_rate, row_of, moved_to, outcome_of}
use Rattle.month_call.specs.Month.{month_call, list_month}
use Rattle.month_call.specs.Sources.{with_evaporation, FourForThree}

in_range_lem : (n : ℕ) → n ≤ 20000 → outside (pos 0) (pos 20000) (pos n) ≡ false
in_range_lem n h = or_from _ _ (le-ltb n 0 (omega arith)) (le-ltb 20000 n h)

module _ (s : State) (e : Entries) (k : ℕ) (h : 4 * k ≤ 20000) where
  abbrev pan : Entries
  pan = with_evaporation e (4 * k) 0

  abbrev evapotranspired : Entries
  evapotranspired = with_evaporation e (3 * k) 1

  -- 14 lets both pass, and 19 too.
  weather-same : weather_asked pan.weather ≡ weather_asked evapotranspired.weather
  unfolding weather_asked temperature_outside water_outside source_outside
  weather-same = rw (in_range_lem (4 * k) h, in_range_lem (3 * k) (omega arith))

  asked-same : entries_asked s pan ≡ entries_asked s evapotranspired
  unfolding entries_asked
  asked-same =
      ap (λ (weather : List Asked). (MonthLimit if limit_reached s) ∷ (weather ++ carbon_asked s e.land)) weather-same

  deficit-same : next_deficit s pan ≡ next_deficit s evapotranspired
  unfolding next_deficit deficit_after
  deficit-same =
      deficit_four_for_three (crop e.land) (largest_deficit s.soil) s.deficit.0 k (nat_abs e.weather.rain)

  -- The rate number is that of the deficit.
  rate_same : next_rate s pan ≡ next_rate s evapotranspired
  unfolding next_rate rate_after
  rate_same = ap (λ (d : ℕ). rate_after s.soil d pan) deficit-same

  outcome-same : (check : Check) → outcome_of check s pan ≡ outcome_of check s evapotranspired
  unfolding outcome_of
  outcome-same (Ok _) =
      ap₂
      (λ (d n : ℕ). record { answer = Ok (row_of s.soil e.land d n); state = moved_to s e.land d n })
      deficit-same rate_same
  outcome-same (Err refusal) = refl

  same_list_month : list_month s pan ≡ list_month s evapotranspired
  unfolding list_month
  same_list_month =
      ap (λ (asked : List Asked). outcome_of (first_of asked) s pan) asked-same ∙ outcome-same (entries_check s evapotranspired)

  same_month : (number : ℕ) → month_call s number pan ≡ month_call s number evapotranspired
  unfolding month_call month_asked
  same_month number =
      ap (λ (asked : List Asked). outcome_of (first_of (state_asked s ++ (turn_asked s number ++ asked))) s pan) asked-same
      ∙ outcome-same (month_check s number evapotranspired)

pub four_for_three : FourForThree
four_for_three = record { same_month = λ s number e k h. same_month s e k h number; same_list_month = same_list_month }
