-- Laws of a list's months and of its output: how a list ends, which output it touches, and that its outcome does not depend on the
-- output that it is lent.
-- Assumes nothing.
use Rattle.month_refusals.specs.Asked.{◌on◌, Check, first_of}
use Rattle.std.specs.Prelude.{Ok, Err}
use mathlib.Core.Path.{◌≡◌, refl, sym, ◌∙◌, ap}
use mathlib.Core.List.{List}
use Prim.Native.Nat.{ℕ, zero, suc, ◌+◌, ◌*◌, ◌≤◌, ◌<◌}
use native.Mathlib.Nat.{zero-add}
use native.Mathlib.Omega.{arith}
use lib.IntN.{ℤ}
use lib.ListN.{length, get_or}
use Rattle.month_state.specs.declared.State.{State}
use Rattle.month_state.specs.declared.Row.{Row}
use Rattle.list_rows.specs.Rows.{row_width, row_written, land_rows, entries_at}
use Rattle.list_rows.proofs.Layouts.{row_off, row-length}
use Rattle.month_refusals.specs.declared.Refusal.{Refusal}
use Rattle.month_refusals.specs.Refusals.{state_check}
use Rattle.month_call.specs.Month.{Answer, list_month}
use Rattle.month_call.proofs.Laws.{month-sound}
use Rattle.list_run.specs.Run.{Left, refused_at, onward, months, rows_written, before_months, list_checked, run}
use Rattle.list_run.proofs.Laws.{goes_on, stops, same_refused, Before, before}

-- ---- how the months go

-- So many months from the one at place j, the state s and the output out, and what they leave, one month at a time.
pub data Course (weather land : List ℤ) : ℕ → ℕ → State → List ℕ → Left → Type 0 where
  finished :
      {j : ℕ} {s : State} {out : List ℕ}
      → Course weather land zero j s out (record { outcome = record { answer = Ok tt; state = s }; output = out })
  refused :
      {left j : ℕ} {s : State} {out : List ℕ} (refusal : Refusal)
      → (list_month s (entries_at weather land j)).answer ≡ Err refusal
      → Course weather land (suc left) j s out (refused_at refusal (j + 1) (list_month s (entries_at weather land j)).state out)
  month :
      {left j : ℕ} {s : State} {out : List ℕ} {end : Left} (row : Row)
      → (list_month s (entries_at weather land j)).answer ≡ Ok row
      → Course weather land left (suc j) (list_month s (entries_at weather land j)).state (row_written out j row) end
      → Course weather land (suc left) j s out end

module _ (weather land : List ℤ) where
  -- By the answer of the first month.
  first :
      (left j : ℕ) (s : State) (out : List ℕ) (answer : Answer) → (list_month s (entries_at weather land j)).answer ≡ answer
      → ((s' : State) (out' : List ℕ) → Course weather land left (suc j) s' out' (months left weather land (suc j) s' out'))
      → Course weather land (suc left) j s out (months (suc left) weather land j s out)
  first left j s out (Ok row) e later = rw (goes_on left weather land j s out row e) (month row e (later _ _))
  first left j s out (Err refusal) e later = rw (stops left weather land j s out refusal e) (refused refusal e)

  pub course : (left j : ℕ) (s : State) (out : List ℕ) → Course weather land left j s out (months left weather land j s out)
  unfolding months
  course zero j s out = finished
  course (suc left) j s out =
      first left j s out (list_month s (entries_at weather land j)).answer refl (λ s' out'. course left (suc j) s' out')

-- A refusal is that of a month, and its place is that month's.
pub place_in :
    {weather land : List ℤ} {left j : ℕ} {s : State} {out : List ℕ} {end : Left} {refusal : Refusal} {place : ℕ}
    → Course weather land left j s out end → end.outcome.answer ≡ Err (refusal on place)
    → (j < place) × (place ≤ j + left)
place_in finished h = absurd (let z : ◌≡◌ {A = ℕ} 0 1 = cc in omega arith)
place_in {j} {place} (refused reason e) h = let at : j + 1 ≡ place = (same_refused h).1 in (omega arith, omega arith)
place_in (month row e later) h = let range = place_in later h in (omega (arith, range.0), omega (arith, range.1))

-- The state that the months leave passes 4 to 7 and 10 again.
ends-sound :
    {weather land : List ℤ} {left j : ℕ} {s : State} {out : List ℕ} {end : Left} → Course weather land left j s out end
    → state_check s ≡ Ok tt → state_check end.outcome.state ≡ Ok tt
ends-sound finished sound = sound
ends-sound {weather} {land} {j} {s} (refused reason e) sound = month-sound s (entries_at weather land j) sound
ends-sound {weather} {land} {j} {s} (month row e later) sound =
    ends-sound later (month-sound s (entries_at weather land j) sound)

pub months-sound :
    (left : ℕ) (weather land : List ℤ) (j : ℕ) (s : State) (out : List ℕ) → state_check s ≡ Ok tt
    → state_check (months left weather land j s out).outcome.state ≡ Ok tt
months-sound left weather land j s out sound = ends-sound (course weather land left j s out) sound

-- ---- the outcome does not depend on the output

onward-same :
    (answer : Answer) (s : State) (j : ℕ) (out out' : List ℕ) (later : State → List ℕ → Left)
    → ((s : State) (out out' : List ℕ) → (later s out).outcome ≡ (later s out').outcome)
    → (onward answer s j out later).outcome ≡ (onward answer s j out' later).outcome
onward-same (Ok row) s j out out' later same = same s (row_written out j row) (row_written out' j row)
onward-same (Err refusal) s j out out' later same = refl

pub same_outcome :
    (left : ℕ) (weather land : List ℤ) (j : ℕ) (s : State) (out out' : List ℕ)
    → (months left weather land j s out).outcome ≡ (months left weather land j s out').outcome
unfolding months
same_outcome zero weather land j s out out' = refl
same_outcome (suc left) weather land j s out out' =
    onward-same (list_month s (entries_at weather land j)).answer (list_month s (entries_at weather land j)).state j out out' _
    (λ s out out'. same_outcome left weather land (suc j) s out out')

-- ---- the output

-- No row of a list lies before its first month's.
pub rows_from :
    {weather land : List ℤ} {left j : ℕ} {s : State} {out : List ℕ} {end : Left} → Course weather land left j s out end
    → (all : ℕ) → all ≡ j + left → j ≤ rows_written end.outcome.answer all
rows_from finished all h = omega arith
rows_from (refused reason e) all h = omega arith
rows_from (month row e later) all h = omega (arith, rows_from later all (omega arith))

-- Output past the last row row_written stays as it was.
untouched :
    {weather land : List ℤ} {left j : ℕ} {s : State} {out : List ℕ} {end : Left} → Course weather land left j s out end
    → (all : ℕ) → all ≡ j + left → (i : ℕ) → row_width * rows_written end.outcome.answer all ≤ i
    → get_or end.output i 0 ≡ get_or out i 0
untouched finished all h i past = refl
untouched (refused reason e) all h i past = refl
untouched {j} {out} (month row e later) all h i past =
    untouched later all (omega arith) i past
    ∙ row_off out j row i (λ c below is. omega (arith, rows_from later all (omega arith)))

-- Nothing before the first month's row changes either.
pub kept-before :
    {weather land : List ℤ} {left j : ℕ} {s : State} {out : List ℕ} {end : Left} → Course weather land left j s out end
    → (i : ℕ) → i < row_width * j → get_or end.output i 0 ≡ get_or out i 0
kept-before finished i h = refl
kept-before (refused reason e) i h = refl
kept-before {j} {out} (month row e later) i h =
    kept-before later i (omega arith) ∙ row_off out j row i (λ c below is. omega arith)

-- Its length stays too.
pub length-kept :
    {weather land : List ℤ} {left j : ℕ} {s : State} {out : List ℕ} {end : Left} → Course weather land left j s out end
    → length end.output ≡ length out
length-kept finished = refl
length-kept (refused reason e) = refl
length-kept {j} {out} (month row e later) = length-kept later ∙ row-length out j row

-- ---- a whole list

-- It is refused before its months, with the state and the output that it was given, or it passes its checks and leaves what its months
-- leave.
pub data Begun (s : State) (weather land : List ℤ) (out : List ℕ) (later : Left) : Left → Type 0 where
  refused : (refusal : Refusal) → Begun s weather land out later (refused_at refusal 0 s out)
  started : Before s weather land (length out) → Begun s weather land out later later

module _ (s : State) (weather land : List ℤ) (out : List ℕ) where
  abbrev the_months : Left
  the_months = months (land_rows land) weather land 0 s out

  begun_by : (check : Check) → first_of (before_months s weather land (length out)) ≡ check
      → Begun s weather land out the_months (list_checked check s out the_months)
  begun_by (Ok _) h = started (before s weather land (length out) h)
  begun_by (Err refusal) h = refused refusal

  pub begun : Begun s weather land out the_months (run s weather land out)
  unfolding run
  begun = begun_by (first_of (before_months s weather land (length out))) refl

  whole : Course weather land (land_rows land) 0 s out the_months
  whole = course weather land (land_rows land) 0 s out

  -- A refusal with place 0 leaves the state and the output as they were.
  nothing-ran : {end : Left} (refusal : Refusal) → Begun s weather land out the_months end
      → end.outcome.answer ≡ Err (refusal on 0) → end ≡ refused_at refusal 0 s out
  nothing-ran refusal (refused reason) h =
      ap (λ (r : Refusal). refused_at r 0 s out) (same_refused h).0
  nothing-ran refusal (started passed) h = absurd (let range = place_in whole h in omega (arith, range.0))

  pub outside-months : (refusal : Refusal) → (run s weather land out).outcome.answer ≡ Err (refusal on 0)
      → run s weather land out ≡ refused_at refusal 0 s out
  outside-months refusal h = nothing-ran refusal begun h

  -- Output past the last row written stays as it was, on every path.
  past : {end : Left} → Begun s weather land out the_months end → (i : ℕ)
      → row_width * rows_written end.outcome.answer (land_rows land) ≤ i → get_or end.output i 0 ≡ get_or out i 0
  past (refused refusal) i h = refl
  past (started passed) i h = untouched whole (land_rows land) (sym (zero-add (land_rows land))) i h

  pub output_past : (i : ℕ) → row_width * rows_written (run s weather land out).outcome.answer (land_rows land) ≤ i
      → get_or (run s weather land out).output i 0 ≡ get_or out i 0
  output_past i h = past begun i h
