-- Laws of a list of months that its functions rest on: what its first month leaves to the others, and what a list that passes its
-- checks has.
-- Assumes nothing.
use Rattle.std.specs.Prelude.{Result, Ok, Err}
use mathlib.Core.Path.{◌≡◌, sym, ◌∙◌, ap}
use mathlib.Core.Bool.{true, false, ◌||◌}
use mathlib.Core.List.{List, ◌++◌}
use Prim.Native.Nat.{ℕ, suc, ◌+◌, ◌-◌, ◌*◌, ◌≤◌, ◌<◌}
use native.Mathlib.Numerals.{add-one}
use native.Mathlib.Omega.{arith}
use borrow.Author.Tests.{ltb-false, lt-ltb, le-ltb}
use lib.Dec.{lit<}
use lib.IntN.{ℤ}
use lib.ListN.{length}
use Rattle.month_state.specs.declared.State.{State}
use Rattle.month_state.specs.declared.Row.{Row}
use Rattle.list_rows.specs.Rows.{weather_width, land_width, row_width, row_written, land_rows, rows_outside, entries_at}
use Rattle.month_refusals.specs.Asked.{Check, ◌on◌, first_of, Finds}
use Rattle.month_refusals.specs.declared.RefusedAt.{RefusedAt}
use Rattle.kept_months.specs.Kept.{keep}
use Rattle.month_refusals.specs.declared.Refusal.{Refusal}
use Rattle.month_refusals.specs.declared.Refusal.TheVariants.{Rows, Room}
use Rattle.month_refusals.specs.Refusals.{soil_asked, bounds_asked, state_check}
use Rattle.month_refusals.proofs.First.{passes-one, passes-parts, asked-true, asked-false, none_left, then_asked, then_refused}
use Rattle.std.proofs.lemmas.Bool.{or_parts, or_from, or_left, or_right}
use Rattle.month_refusals.proofs.Accepted.{parts-state}
use Rattle.month_state.specs.declared.Outcome.{Outcome}
use Rattle.month_state.proofs.Counting.{sub-suc}
use Rattle.month_call.specs.Month.{Answer, list_month}
use Rattle.list_rows.proofs.Laws.{some_rows}
use Rattle.list_run.specs.Run.{Left, refused_at, months, kept_months, rows_asked, room_asked, before_months, run}

-- ---- a list is its first month, and the months after it

module _ (left : ℕ) (weather land : List ℤ) (j : ℕ) (s : State) (out : List ℕ) where
  pub goes_on : (row : Row) → (list_month s (entries_at weather land j)).answer ≡ Ok row
      → months (suc left) weather land j s out
      ≡ months left weather land (suc j) (list_month s (entries_at weather land j)).state (row_written out j row)
  unfolding months
  goes_on row h = rw h

  pub stops : (refusal : Refusal) → (list_month s (entries_at weather land j)).answer ≡ Err refusal
      → months (suc left) weather land j s out
      ≡ refused_at refusal (j + 1) (list_month s (entries_at weather land j)).state out
  unfolding months
  stops refusal h = rw h

-- ---- a month more of so many, as the loop runs them

module _
    (weather land : List ℤ) (s : State) (out : List ℕ) {count j : ℕ} {after : State} {answer : Answer} (more : j < count)
    (is : record { answer = answer; state = after } ≡ list_month s (entries_at weather land j)) where
  answered : {given : Answer} → answer ≡ given → (list_month s (entries_at weather land j)).answer ≡ given
  answered h = ap (λ (o : Outcome Answer State). o.answer) (sym is) ∙ h

  -- It is done: one month less is left, from its state and the output with its row.
  pub month_more : {row : Row} {whole : Left} → answer ≡ Ok row → months (count - j) weather land j s out ≡ whole
      → months (count - (j + 1)) weather land (j + 1) after (row_written out j row) ≡ whole
  month_more {row} h whole =
      ap (λ (o : Outcome Answer State). months (count - (j + 1)) weather land (j + 1) o.state (row_written out j row)) is
      ∙ rw add-one (sym (goes_on (count - suc j) weather land j s out row (answered h)) ∙ rw (sub-suc more) at whole)

  -- It is refused: it is the last.
  pub month_last : {refusal : Refusal} {whole : Left} → answer ≡ Err refusal → months (count - j) weather land j s out ≡ whole
      → refused_at refusal (j + 1) after out ≡ whole
  month_last {refusal} h whole =
      ap (λ (o : Outcome Answer State). refused_at refusal (j + 1) o.state out) is
      ∙ sym (stops (count - suc j) weather land j s out refusal (answered h)) ∙ rw (sub-suc more) at whole

  -- The state before it is kept.
  pub month_kept : (kept : ℕ → List ℕ) (memory : List ℕ) {memory' : List ℕ} → memory' ≡ keep s memory
      → ((k : ℕ) → kept (j + k) ≡ kept_months k weather land j s memory)
      → (k : ℕ) → kept (j + 1 + k) ≡ kept_months k weather land (j + 1) after memory'
  unfolding kept_months
  month_kept kept memory keeps rest k =
      let further : j + 1 + k ≡ j + suc k = omega arith in
      ap kept further ∙ rest (suc k)
      ∙ rw (keeps, add-one) (ap (λ (o : Outcome Answer State). kept_months k weather land (suc j) o.state (keep s memory)) (sym is))

-- As many as ran are kept.
pub kept_now : (weather land : List ℤ) (s : State) {j count : ℕ} (kept : ℕ → List ℕ) {memory : List ℕ} → count ≡ j
    → ((k : ℕ) → kept (j + k) ≡ kept_months k weather land j s memory) → memory ≡ kept count
unfolding kept_months
kept_now weather land s {j} {count} kept all rest =
    let here : j + 0 ≡ count = omega arith in sym (rest 0) ∙ ap kept here

-- ---- answers

-- Refusals at places are equal in both.
pub same_refused : {Given : Type 0} {refusal reason : Refusal} {place at : ℕ}
    → ◌≡◌ {A = Result Given RefusedAt} (Err (refusal on place)) (Err (reason on at)) → (refusal ≡ reason) × (place ≡ at)
same_refused {refusal = refusal} {reason = reason} {place = place} {at = at} h =
    let is : (refusal on place) ≡ (reason on at) = cc in (ap (λ (e : RefusedAt). e.refusal) is, ap (λ (e : RefusedAt). e.place) is)

-- ---- the checks before the months

-- What a list that passes them has.
pub record Before (s : State) (weather land : List ℤ) (room : ℕ) : Type 0 where
  pub some_weather : weather_width ≤ length weather
  pub all_land : land_width * land_rows land ≤ length land
  pub most : land_rows land ≤ 1200
  pub enough : row_width * land_rows land ≤ room
  pub state : state_check s ≡ Ok tt

pub before : (s : State) (weather land : List ℤ) (room : ℕ) → first_of (before_months s weather land room) ≡ Ok tt
    → Before s weather land room
unfolding before_months rows_asked room_asked
before s weather land room h =
    let rows = passes-parts (rows_asked weather land) _ h in
    let soil = passes-parts (soil_asked s.soil) _ rows.1 in
    let later = passes-parts (room_asked (land_rows land) room) (bounds_asked s) soil.1 in
    let both = or_parts (rows_outside weather_width (length weather)) _ (passes-one _ _ rows.0).0 in
    let weather-rows = some_rows weather_width (length weather) (lit< tt) both.0 in
    let land-rows = some_rows land_width (length land) (lit< tt) both.1 in
    record {
      some_weather = weather-rows.0;
      all_land = omega (arith, land-rows.2);
      most = land-rows.1;
      enough = ltb-false _ _ (passes-one _ _ later.0).0;
      state = parts-state s soil.0 later.1;
    }

-- What each part of the check finds is what the whole list of questions finds.
module _ (s : State) (weather land : List ℤ) (room : ℕ) where
  pub rows-refused : (rows_outside weather_width (length weather) || rows_outside land_width (length land)) ≡ true
      → Finds (before_months s weather land room) (Err Rows)
  unfolding before_months rows_asked
  rows-refused h = then_refused (rows_asked weather land) _ (sym (asked-true h).first)

  pub rows_pass :
      {check : Check} → rows_outside weather_width (length weather) ≡ false → rows_outside land_width (length land) ≡ false
      → Finds (soil_asked s.soil ++ (room_asked (land_rows land) room ++ bounds_asked s)) check → Finds (before_months s weather land room) check
  unfolding before_months rows_asked
  rows_pass hw hl rest =
      then_asked (rows_asked weather land) (sym (asked-false (or_from _ _ hw hl) none_left).first) rest

  pub weather_refused : rows_outside weather_width (length weather) ≡ true → Finds (before_months s weather land room) (Err Rows)
  weather_refused h = rows-refused (or_left _ _ h)

  pub land_refused : rows_outside land_width (length land) ≡ true → Finds (before_months s weather land room) (Err Rows)
  land_refused h = rows-refused (or_right (rows_outside weather_width (length weather)) _ h)

  module _ (hw : rows_outside weather_width (length weather) ≡ false) (hl : rows_outside land_width (length land) ≡ false)
      {of_soil : Check} (soil : Finds (soil_asked s.soil) of_soil) where
    pub soil_refused : {refusal : Refusal} → of_soil ≡ Err refusal → Finds (before_months s weather land room) (Err refusal)
    soil_refused h = rows_pass hw hl (then_refused (soil_asked s.soil) _ (sym soil.first ∙ h))

    pub room_refused : of_soil ≡ Ok tt → room < row_width * land_rows land → Finds (before_months s weather land room) (Err Room)
    unfolding room_asked
    room_refused h short = rows_pass hw hl (then_asked (soil_asked s.soil) (sym soil.first ∙ h) (asked-true (lt-ltb _ _ short)))

    pub bounds_found : {check : Check} → of_soil ≡ Ok tt → row_width * land_rows land ≤ room → Finds (bounds_asked s) check
        → Finds (before_months s weather land room) check
    unfolding room_asked
    bounds_found h enough bounds =
        rows_pass hw hl (then_asked (soil_asked s.soil) (sym soil.first ∙ h) (asked-false (le-ltb _ _ enough) bounds))

-- A list leaves what its months leave, or its refusal.
module _ (s : State) (weather land : List ℤ) (out : List ℕ) where
  pub passes-run : first_of (before_months s weather land (length out)) ≡ Ok tt
      → months (land_rows land) weather land 0 s out ≡ run s weather land out
  unfolding run
  passes-run h = rw h

  pub refuses_run : {refusal : Refusal} → first_of (before_months s weather land (length out)) ≡ Err refusal
      → refused_at refusal 0 s out ≡ run s weather land out
  unfolding run
  refuses_run h = rw h
