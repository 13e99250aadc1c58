-- "Up to the first refusal by 21, or by 10 for modern grams, the carbon rows and their balance are
-- those of the same list without activities" (change 2026-04 of document 02): of single month
-- calls.
use Rattle.std.specs.Prelude.{Ok, Err, ◌≡◌, Bool, false, not, ◌&&◌, ◌||◌, List, eqb}
use Rattle.month_state.specs.declared.State.{State}
use Rattle.month_refusals.specs.declared.Refusal.{Refusal}
use Rattle.month_refusals.specs.Asked.{refusal_number}
use Rattle.month_refusals.specs.Refusals.{carbon_bounds_passed}
use Rattle.month_call.specs.Month.{Answer, month_call}
use Rattle.month_demand3.specs.Calls.{Call, state_after, run_calls, accepted_calls, added_carbon}
use Rattle.radiocarbon_laws.specs.Along.{answers_along, up_to, none_stops, Begins}
use Rattle.radiocarbon_laws.specs.Without.{state_without, calls_without}

-- ---- refusals by 21, or by 10 for modern grams

-- A refusal on a state: 21, or 10 where no other bound of 10 is passed.
abbrev pub by_modern : State → Refusal → Bool
by_modern s refusal =
    eqb (refusal_number refusal) 21
    || (eqb (refusal_number refusal) 10 && not (carbon_bounds_passed s))

abbrev pub answer_by_modern : State → Answer → Bool
answer_by_modern s (Ok row) = false
answer_by_modern s (Err refusal) = by_modern s refusal

-- What a call answers, its row or its refusal, and whether it is refused so.
abbrev pub answer_of : State → Call → Answer
answer_of s c = (month_call s c.number c.entries).answer

abbrev pub call_by_modern : State → Call → Bool
call_by_modern s c = answer_by_modern s (answer_of s c)

-- ---- the calls

abbrev pub answers_of : State → List Call → List Answer
answers_of s calls = answers_along state_after answer_of s calls

abbrev pub up_to_modern : State → List Call → List Call
up_to_modern s calls = up_to state_after call_by_modern s calls

abbrev pub none_by_modern : State → List Call → Bool
none_by_modern s calls = none_stops state_after call_by_modern s calls

-- The rows and refusals, the state but for its modern grams, and what the balance is made of are
-- those of the calls without activities.
pub record SameCarbon (s : State) (calls : List Call) : Type 0 where
  pub answers : answers_of (state_without s) (calls_without calls) ≡ answers_of s calls
  pub state : run_calls (state_without s) (calls_without calls) ≡ state_without (run_calls s calls)
  pub accepted : accepted_calls (state_without s) (calls_without calls) ≡ accepted_calls s calls
  pub carbon : added_carbon (state_without s) (calls_without calls) ≡ added_carbon s calls

pub record CarbonOfCalls (s : State) (calls : List Call) : Type 0 where
  pub begins : Begins state_after call_by_modern s calls
  pub same : SameCarbon s (up_to_modern s calls)
