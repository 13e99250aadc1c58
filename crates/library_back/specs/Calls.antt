-- What rothc_take_back returns and leaves in lent memory: a field, which is the current state and
-- after it the memory of the kept ones.
use Rattle.std.specs.Prelude.{Ok, Err, cond, List, ℕ}
use Rattle.month_state.specs.declared.State.{State}
use Rattle.month_layouts.specs.Layouts.{field_width, state_of, memory_of, field_numbers}
use Rattle.month_refusals.specs.Asked.{refusal_number}
use Rattle.kept_months.specs.Kept.{TakeAnswer, take_back}
use Rattle.month_state.specs.declared.Outcome.{Outcome}
use Rattle.library_month.specs.Calls.{shape, has}

pub record BackLeft : Type 0 where
  pub number : ℕ
  pub state : List ℕ

-- The state before the latest month, with the memory of kept ones as it was; or the refusal's
-- number and everything as it was.
abbrev pub after_taking : TakeAnswer → State → List ℕ → BackLeft
after_taking (Ok _) before state =
    record { number = 0; state = field_numbers before (memory_of state) }
after_taking (Err refusal) before state =
    record { number = refusal_number refusal; state = state }

abbrev pub of_taking : Outcome TakeAnswer State → List ℕ → BackLeft
of_taking outcome state = after_taking outcome.answer outcome.state state

unfoldable pub rothc_take_back : List ℕ → BackLeft
rothc_take_back state =
    cond (has state field_width) (of_taking (take_back (state_of state) (memory_of state)) state)
    (record { number = shape; state = state })
