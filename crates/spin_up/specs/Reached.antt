-- What a spin-up's answer says of the years and of the state that is reached: document 01 has the
-- years and the state agree.
use Rattle.std.specs.Prelude.{Ok, Err, ◌≡◌, Bool, true, false, List, ℕ, zero, suc, ◌+◌, ◌*◌, ◌≤◌}
use Rattle.std.specs.Prelude.{◌<◌, ℤ}
use Rattle.month_state.specs.declared.State.{State}
use Rattle.month_state.specs.State.{kept_aside}
use Rattle.month_refusals.specs.declared.Refusal.{Refusal}
use Rattle.month_refusals.specs.Asked.{◌on◌}
use Rattle.list_run.specs.Run.{ListAnswer}
use Rattle.spin_up.specs.SpinUp.{settles, year_answer, year_state}

-- The state after so many years of twelve months.
unfoldable pub after_years : ℕ → List ℤ → List ℤ → State → State
after_years zero weather land s = s
after_years (suc left) weather land s = after_years left weather land (year_state weather land s)

-- The answer of the year that follows so many years, and whether it settles.
abbrev pub answer_after : ℕ → List ℤ → List ℤ → State → ListAnswer
answer_after earlier weather land s = year_answer weather land (after_years earlier weather land s)

abbrev pub settles_after : ℕ → List ℤ → List ℤ → State → Bool
settles_after earlier weather land s =
    settles (after_years earlier weather land s) (after_years (suc earlier) weather land s)

-- So many years ran to their end, and none of them settled.
pub record Passed (weather land : List ℤ) (s : State) (count : ℕ) : Type 0 where
  pub finished : (k : ℕ) → k < count → answer_after k weather land s ≡ Ok tt
  pub unsettled : (k : ℕ) → k < count → settles_after k weather land s ≡ false

-- Settled with the years run, `before` being run before the state s: at most `left` more. The last
-- of them settles and no earlier one does, and the state reached is that after them, with none
-- kept.
pub record SettledIn (weather land : List ℤ) (before left : ℕ) (s : State) (years : ℕ)
    (reached : State) : Type 0 where
  pub earlier : ℕ
  pub count : years ≡ before + earlier + 1
  pub within : years ≤ before + left
  pub passed : Passed weather land s earlier
  pub finished : answer_after earlier weather land s ≡ Ok tt
  pub settles : settles_after earlier weather land s ≡ true
  pub state : reached ≡ kept_aside (after_years (suc earlier) weather land s)

-- Unsettled: all the years ran, none of them settled, and the state reached is that after them,
-- with none kept.
pub record UnsettledIn (weather land : List ℤ) (before left : ℕ) (s : State) (years : ℕ)
    (reached : State) : Type 0 where
  pub count : years ≡ before + left
  pub passed : Passed weather land s left
  pub state : reached ≡ kept_aside (after_years left weather land s)

-- Refused at a month: the years before its year ran and did not settle, the place counts the months
-- over all years, and the state is the starting state with its kept ones.
pub record RefusedIn
    (weather land : List ℤ)
    (before left : ℕ)
    (starting s : State)
    (refusal : Refusal)
    (place : ℕ)
    (reached : State)
    : Type 0 where
  pub earlier : ℕ
  pub within : earlier < left
  pub passed : Passed weather land s earlier
  pub month : ℕ
  pub answer : answer_after earlier weather land s ≡ Err (refusal on month)
  pub at : place ≡ 12 * (before + earlier) + month
  pub state : reached ≡ starting
