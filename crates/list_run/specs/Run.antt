-- A list of months, step 7 of document 01, and what it asks: 3, 4 to 7, 8 and 10 with place 0, then
-- month by month what a month's entries are asked.
use Rattle.std.specs.Prelude.{Result, Ok, Err, ◌||◌, List, [], ◌∷◌, ◌++◌, ℕ, zero, suc, ◌+◌, ◌-◌}
use Rattle.std.specs.Prelude.{◌*◌, ltb, ℤ, length}
use Rattle.month_state.specs.declared.State.{State}
use Rattle.month_state.specs.declared.Outcome.{Outcome}
use Rattle.month_refusals.specs.declared.RefusedAt.{RefusedAt}
use Rattle.month_refusals.specs.declared.Refusal.{Refusal}
use Rattle.month_refusals.specs.declared.Refusal.TheVariants.{Rows, Room}
use Rattle.month_refusals.specs.Asked.{Check, Asked, ◌if◌, first_of, Placed, at, ◌on◌}
use Rattle.month_refusals.specs.Refusals.{soil_asked, bounds_asked, entries_asked}
use Rattle.month_call.specs.Month.{Answer, list_month}
use Rattle.kept_months.specs.Kept.{keep}
use Rattle.list_rows.specs.Rows.{weather_width, land_width, row_width, row_written}
use Rattle.list_rows.specs.Rows.{land_rows, rows_outside, entries_at}

-- A list's answer: it ran to its end, or it was refused at a place: 0, or the month counted from
-- its first.
abbrev pub ListAnswer : Type 0
ListAnswer = Result Unit RefusedAt

-- ---- the months

-- What a list leaves: its answer with the state, and the output.
pub record Left : Type 0 where
  pub outcome : Outcome ListAnswer State
  pub output : List ℕ

-- Refused at a place, with a state and the output as it is.
abbrev pub refused_at : Refusal → ℕ → State → List ℕ → Left
refused_at refusal place s out =
    record { outcome = record { answer = Err (refusal on place); state = s }; output = out }

-- The answer of a list that ends with a month's answer: finished, or the month's refusal at its
-- place.
abbrev pub ended : Answer → ℕ → ListAnswer
ended (Ok row) place = Ok tt
ended (Err refusal) place = Err (refusal on place)

-- After the month at place j, counted from 0: refused, the list stops there with the state and the
-- rows before it; else its row is written, and the later months follow.
abbrev pub onward : Answer → State → ℕ → List ℕ → (State → List ℕ → Left) → Left
onward (Ok row) s j out later = later s (row_written out j row)
onward (Err refusal) s j out later = refused_at refusal (j + 1) s out

-- So many months, from the one at place j.
unfoldable pub months : ℕ → List ℤ → List ℤ → ℕ → State → List ℕ → Left
months zero weather land j s out =
    record { outcome = record { answer = Ok tt; state = s }; output = out }
months (suc left) weather land j s out =
    onward (list_month s (entries_at weather land j)).answer
    (list_month s (entries_at weather land j)).state j out
    (λ s' out'. months left weather land (suc j) s' out')

-- The rows that a list of so many months has written: all, or those before the month that was
-- refused.
abbrev pub rows_written : ListAnswer → ℕ → ℕ
rows_written (Ok _) months = months
rows_written (Err e) months = e.place - 1

-- What so many months keep, from the one at place j: the state before each of them (change
-- 2026-02). Of a list they are those that have written their rows: a list that is refused at a
-- month has kept the ones before it.
unfoldable pub kept_months : ℕ → List ℤ → List ℤ → ℕ → State → List ℕ → List ℕ
kept_months zero weather land j s memory = memory
kept_months (suc left) weather land j s memory =
    kept_months left weather land (suc j) (list_month s (entries_at weather land j)).state
    (keep s memory)

-- ---- what is asked

-- 3: the weather's or the land's numbers are no rows, or their rows are outside 1 to 1,200.
unfoldable pub rows_asked : List ℤ → List ℤ → List Asked
rows_asked weather land =
    (Rows
    if (rows_outside weather_width (length weather) || rows_outside land_width (length land)))
    ∷ []

-- 8: an output of so many numbers is too short for its rows.
unfoldable pub room_asked : ℕ → ℕ → List Asked
room_asked rows room = (Room if ltb room (row_width * rows)) ∷ []

-- 3, 4 to 7, 8 and 10: before the months.
unfoldable pub before_months : State → List ℤ → List ℤ → ℕ → List Asked
before_months s weather land room =
    rows_asked weather land
    ++ (soil_asked s.soil ++ (room_asked (land_rows land) room ++ bounds_asked s))

-- What the entries of so many months are asked, from the month at place j on, each at its month
-- counted from 1.
unfoldable pub months_asked : ℕ → List ℤ → List ℤ → ℕ → State → List Placed
months_asked zero weather land j s = []
months_asked (suc left) weather land j s =
    at (j + 1) (entries_asked s (entries_at weather land j))
    ++ months_asked left weather land (suc j) (list_month s (entries_at weather land j)).state

-- A list: what is asked before its months with place 0, then its months.
unfoldable pub list_asked : State → List ℤ → List ℤ → ℕ → List Placed
list_asked s weather land room =
    at 0 (before_months s weather land room) ++ months_asked (land_rows land) weather land 0 s

-- ---- the list

-- Refused before the months, with everything as it was; else what the months leave.
abbrev pub list_checked : Check → State → List ℕ → Left → Left
list_checked (Ok _) s out later = later
list_checked (Err refusal) s out later = refused_at refusal 0 s out

-- A list of months, one for each land row.
unfoldable pub run : State → List ℤ → List ℤ → List ℕ → Left
run s weather land out =
    list_checked (first_of (before_months s weather land (length out))) s out
    (months (land_rows land) weather land 0 s out)
