-- The number of a call's answer, and what rothc_start and rothc_month return and leave in lent
-- memory. Memory that a call is lent to read stays as it was. A state is lent as a field: the
-- current one, and after it the memory of the kept ones.
use Rattle.std.specs.Prelude.{Result, Ok, Err, Bool, cond, ◌&&◌, List, ℕ, eqb, ℤ, length}
use Rattle.month_state.specs.declared.Soil.{Soil}
use Rattle.month_state.specs.declared.State.{State}
use Rattle.month_state.specs.State.{new_state}
use Rattle.month_layouts.specs.Layouts.{soil_width, field_width, soil_of, state_of, memory_of}
use Rattle.month_layouts.specs.Layouts.{field_numbers}
use Rattle.list_rows.specs.Rows.{entries_width, row_width, entries_of, row_numbers}
use Rattle.month_refusals.specs.Asked.{Check, refusal_number}
use Rattle.month_refusals.specs.Refusals.{soil_check}
use Rattle.month_call.specs.Month.{Answer, month_call}
use Rattle.month_state.specs.declared.Outcome.{Outcome}
use Rattle.kept_months.specs.Kept.{keep_if}
use Rattle.library_month.specs.declared.CallRefusal.{CallRefusal}
use Rattle.library_month.specs.declared.CallRefusal.TheVariants.{Shape, Refused}

-- The number for lent memory of a fixed layout that has another length. It is none of the
-- papers'. Nothing is written then.
abbrev pub shape : ℕ
shape = 100

-- The number of an answer: 0 where the call is done, 100, or that of the papers' refusal.
abbrev pub call_number : Result Unit CallRefusal → ℕ
call_number (Ok _) = 0
call_number (Err Shape) = shape
call_number (Err (Refused refusal)) = refusal_number refusal

-- A list has so many numbers.
abbrev pub has : {A : Type 0} → List A → ℕ → Bool
has numbers n = eqb (length numbers) n

-- ---- rothc_start

pub record StartLeft : Type 0 where
  pub number : ℕ
  pub state : List ℕ

-- 4 to 7: the new state, which has none kept, with the memory of kept ones as it was; or the
-- refusal's number and everything as it was.
abbrev pub after_check : Check → Soil → List ℕ → StartLeft
after_check (Ok _) soil state =
    record { number = 0; state = field_numbers (new_state soil) (memory_of state) }
after_check (Err refusal) soil state = record { number = refusal_number refusal; state = state }

unfoldable pub rothc_start : List ℕ → List ℕ → StartLeft
rothc_start soil state =
    cond (has soil soil_width && has state field_width)
    (after_check (soil_check (soil_of soil)) (soil_of soil) state)
    (record { number = shape; state = state })

-- ---- rothc_month

pub record MonthLeft : Type 0 where
  pub number : ℕ
  pub state : List ℕ
  pub row : List ℕ

-- An accepted month keeps the state before it, moves the state on and writes its row. A refused one
-- gives the refusal's number and leaves everything as it was.
abbrev pub after_month : Answer → State → List ℕ → List ℕ → MonthLeft
after_month (Ok done) next state row =
    record {
      number = 0;
      state = field_numbers next (keep_if (Ok done) (state_of state) (memory_of state));
      row = row_numbers done;
    }
after_month (Err refusal) next state row =
    record { number = refusal_number refusal; state = state; row = row }

abbrev pub of_month : Outcome Answer State → List ℕ → List ℕ → MonthLeft
of_month outcome state row = after_month outcome.answer outcome.state state row

unfoldable pub rothc_month : List ℕ → ℕ → List ℤ → List ℕ → MonthLeft
rothc_month state number entries row =
    cond (has state field_width && (has entries entries_width && has row row_width))
    (of_month (month_call (state_of state) number (entries_of entries)) state row)
    (record { number = shape; state = state; row = row })
