-- What a settled year means, beside the rule before change 2026-05, by which the total alone
-- settled a year: `total_settles` without `pools_settle`.
use Rattle.std.specs.Prelude.{Ok, ◌≡◌, Bool, true, false, List, ℕ, suc, ◌+◌, ◌≤◌, ◌<◌, ℤ}
use Rattle.month_state.specs.declared.State.{State}
use Rattle.month_state.specs.State.{five_pools}
use Rattle.month_refusals.specs.Refusals.{state_check}
use Rattle.spin_up.specs.SpinUp.{total_settles, pools_settle, year_answer, year_state}
use Rattle.spin_up.specs.Reached.{after_years, answer_after}

-- Whether the total alone settles the year that follows so many.
abbrev pub total_after : ℕ → List ℤ → List ℤ → State → Bool
total_after earlier weather land s =
    total_settles (after_years earlier weather land s) (after_years (suc earlier) weather land s)

-- The old rule settles so many years, of those allowed: they all ran, the last of them settles by
-- its total, and no earlier one does.
pub record SettledByTotal (weather land : List ℤ) (allowed : ℕ) (s : State) (years : ℕ)
    : Type 0 where
  pub earlier : ℕ
  pub count : years ≡ earlier + 1
  pub within : years ≤ allowed
  pub finished : (k : ℕ) → k < years → answer_after k weather land s ≡ Ok tt
  pub unsettled : (k : ℕ) → k < earlier → total_after k weather land s ≡ false
  pub settles : total_after earlier weather land s ≡ true

-- The old rule settled that year or an earlier one. Of whatever year settles: theorem `no_sooner`.
pub record NoSooner (weather land : List ℤ) (allowed : ℕ) (s : State) (years : ℕ) : Type 0 where
  pub by_total : ℕ
  pub settled : SettledByTotal weather land allowed s by_total
  pub sooner : by_total ≤ years

-- The total is at most so many grams from where the year began, either way.
abbrev pub TotalWithin : ℕ → State → State → Type 0
TotalWithin grams start end =
    (five_pools end ≤ five_pools start + grams) × (five_pools start ≤ five_pools end + grams)

-- A year that runs from an accepted state, of which each pool settles and the total does not.
pub record TotalCounts (weather land : List ℤ) (s : State) : Type 0 where
  pub accepted : state_check s ≡ Ok tt
  pub ran : year_answer weather land s ≡ Ok tt
  pub pools : pools_settle s.soil (year_state weather land s).soil ≡ true
  pub total : total_settles s (year_state weather land s) ≡ false

-- One of which the total settles and a pool does not.
pub record PoolsCount (weather land : List ℤ) (s : State) : Type 0 where
  pub accepted : state_check s ≡ Ok tt
  pub ran : year_answer weather land s ≡ Ok tt
  pub total : total_settles s (year_state weather land s) ≡ true
  pub pools : pools_settle s.soil (year_state weather land s).soil ≡ false
