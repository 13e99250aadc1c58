-- The month call does not look at how many states are kept, but for 10: on two states that differ in that alone, neither above the
-- limit, a call answers the same and leaves states that differ in that alone.
-- Assumes nothing.
use Rattle.std.specs.Prelude.{Ok, Err}
use mathlib.Core.Path.{◌≡◌, refl, sym, ◌∙◌, ap}
use Prim.Native.Nat.{ℕ, ◌≤◌}
use borrow.Author.Tests.{le-ltb}
use Rattle.month_state.specs.declared.State.{State}
use Rattle.month_state.specs.declared.Entries.{Entries}
use Rattle.month_state.specs.State.{kept_limit, kept_aside}
use Rattle.month_refusals.specs.Asked.{Check}
use Rattle.month_refusals.specs.Refusals.{carbon_bounds_passed, modern_above, bounds_passed, out_of_turn, limit_reached, ceiling_passed}
use Rattle.month_refusals.specs.Refusals.{bounds_asked, state_asked, turn_asked, carbon_asked, entries_asked, month_asked, month_check}
use Rattle.month_state.specs.declared.Outcome.{Outcome}
use Rattle.month_call.specs.Month.{next_deficit, next_rate, moved_to, outcome_of, month_call, Answer}

-- The kept ones aside, the same is found, ..
check_aside : (s : State) (number : ℕ) (e : Entries) → s.kept ≤ kept_limit → month_check s number e ≡ month_check (kept_aside s) number e
unfolding month_asked state_asked bounds_asked bounds_passed carbon_bounds_passed modern_above
    turn_asked out_of_turn entries_asked limit_reached carbon_asked ceiling_passed
check_aside s number e few = rw (le-ltb kept_limit s.kept few)

-- .. and what is found gives the same outcome.
abbrev pub outcome_aside : Outcome Answer State → Outcome Answer State
outcome_aside outcome = record { answer = outcome.answer; state = kept_aside outcome.state }

found_aside : (check : Check) (s : State) (e : Entries) → outcome_aside (outcome_of check s e) ≡ outcome_aside (outcome_of check (kept_aside s) e)
unfolding outcome_of moved_to next_deficit next_rate
found_aside (Ok _) s e = refl
found_aside (Err refusal) s e = refl

module _ (s t : State) (same : kept_aside s ≡ kept_aside t) (few : s.kept ≤ kept_limit) (few' : t.kept ≤ kept_limit)
    (number : ℕ) (e : Entries) where
  pub same_check : month_check s number e ≡ month_check t number e
  same_check = check_aside s number e few ∙ ap (λ (u : State). month_check u number e) same ∙ sym (check_aside t number e few')

  pub same_outcome : outcome_aside (month_call s number e) ≡ outcome_aside (month_call t number e)
  unfolding month_call
  same_outcome =
      found_aside (month_check s number e) s e ∙ (λ i. outcome_aside (outcome_of (same_check i) (same i) e))
      ∙ sym (found_aside (month_check t number e) t e)
