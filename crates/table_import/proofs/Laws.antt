-- Laws of a table: the numbers of its lines fit, the rows of lines that are all read are as many as the lines, what 3 and 8 let
-- pass, and which refusal is given.
-- Assumes nothing.
use Rattle.std.specs.Prelude.{Ok, Err}
use mathlib.Core.Path.{◌≡◌, refl, sym, ◌∙◌, ap}
use mathlib.Core.Bool.{Bool, true}
use mathlib.Core.List.{List, ◌∷◌, ◌++◌}
use Prim.Native.Nat.{ℕ, ◌*◌, ◌≤◌}
use native.Mathlib.Omega.{arith}
use borrow.Author.Tests.{ltb-false}
use lib.Dec.{ltb}
use lib.IntN.{ℤ, pos}
use lib.ListN.{length, take, drop}
use lib.Seq.{length-take-le}
use Rattle.month_state.specs.declared.Weather.{Weather}
use Rattle.std.proofs.lemmas.Bool.{or_parts}
use Rattle.month_refusals.specs.declared.Refusal.{Refusal}
use Rattle.month_refusals.specs.declared.Refusal.TheVariants.{TableForm}
use Rattle.month_refusals.specs.declared.RefusedAt.{RefusedAt}
use Rattle.month_refusals.specs.Asked.{◌if◌, Check, checking_order, part_of, first_of, Finds, Found, found, told, number_and_place, Exactly}
use Rattle.month_refusals.specs.Asked.{placed_found, placed_told, ◌on◌}
use Rattle.month_refusals.specs.Refusals.{weather_asked}
use Rattle.month_refusals.proofs.First.{or_else, found_at, found_then, passes-one, exactly}
use Rattle.list_rows.specs.Rows.{weather_width}
use Rattle.book_digits.proofs.Writing.{overwritten_part}
use Rattle.book_rows.specs.Rows.{LineFits, RowGives, weather_gives, RowsEnd, begun_with}
use Rattle.book_rows.proofs.Laws.{weather_wide, full, front}
use Rattle.book_rows.proofs.Found.{end_finds, weather-found}
use Rattle.table_lines.specs.Lines.{table_line, line_count}
use Rattle.table_lines.proofs.Laws.{table_read}
use Rattle.table_import.specs.Table.{table_row, read_table, lines_outside, before_lines, table_asked, TableAnswer, TableLeft}
use Rattle.table_import.specs.Table.{after_lines, table_checked, table_of}

-- ---- the lines

-- The values of a line that was read fit 64 bits with a sign.
pub table_fits : (s : List ℕ) (place line : ℕ) → LineFits (table_line s place line)
table_fits s place line =
    record {
      values = λ n next h.
          let read = table_read s place line n next h in
          (omega (arith, read.rain_below), omega (arith, read.evapotranspiration_below));
    }

abbrev pub table_at : List ℕ → ℕ → ℕ → RowGives
table_at s place line = weather_gives (table_row s place line)

-- Lines that are read to their end give all their rows.
pub table_full :
    (lines : ℕ) (s : List ℕ) (end : ℕ) → (read_table lines s).ends ≡ Ok end
    → length (read_table lines s).numbers ≡ weather_width * lines
unfolding read_table
table_full lines s end h = full weather_width table_at (λ s place line. weather_wide (table_row s place line)) lines s 0 1 end h

-- ---- what the lines leave

-- A line that is refused leaves the output, ..
pub lines_refused :
    {end : RowsEnd} {e : RefusedAt} (lines : ℕ) (numbers out : List ℤ) → end ≡ Err e
    → record { answer = Err e; output = out } ≡ after_lines end lines numbers out
lines_refused lines numbers out is = rw is

abbrev left_read : ℕ → List ℤ → TableLeft
left_read lines output = record { answer = Ok lines; output = output }

-- .. and where all are read, the front of memory that begins with their numbers, put over the output's, is what they leave.
pub lines_put :
    (s : List ℕ) (lines : ℕ) {end : RowsEnd} {next : ℕ} → end ≡ (read_table lines s).ends → end ≡ Ok next
    → (before out : List ℤ) {memory part : List ℤ} → memory ≡ begun_with before (read_table lines s).numbers
    → part ≡ take (weather_width * lines) memory → weather_width * lines ≤ length out
    → record { answer = Ok lines; output = part ++ drop (weather_width * lines) out }
    ≡ after_lines (read_table lines s).ends lines (read_table lines s).numbers out
lines_put s lines {next} ends is before out {part} begun copied room =
    let read : (read_table lines s).ends ≡ Ok next = sym ends ∙ is in
    let numbers : List ℤ = (read_table lines s).numbers in
    let size : length numbers ≡ weather_width * lines = table_full lines s next read in
    let same : part ≡ numbers = copied ∙ rw begun (front before numbers (weather_width * lines) size) in
    ap (left_read lines) (overwritten_part out 0 (weather_width * lines) numbers part same (sym size) (omega (arith, size, room)))
    ∙ rw read

-- ---- what 3 and 8 let pass

-- From 1 to 1,200 lines, and four numbers of room for each.
pub record Roomy (lines room : ℕ) : Type 0 where
  pub least : 1 ≤ lines
  pub most : lines ≤ 1200
  pub enough : weather_width * lines ≤ room

pub roomy : (lines room : ℕ) → first_of (before_lines lines room) ≡ Ok tt → Roomy lines room
unfolding before_lines lines_outside
roomy lines room h =
    let rows = passes-one _ _ h in
    let space = passes-one _ _ rows.1 in
    let range = or_parts (ltb lines 1) (ltb 1200 lines) rows.0 in
    record { least = ltb-false _ _ range.0; most = ltb-false _ _ range.1; enough = ltb-false _ _ space.0 }

-- The same of what their check finds: the memory has room for the lines, and so has the output; ..
pub lines_few : (lines room : ℕ) {check : Check} → Finds (before_lines lines room) check → check ≡ Ok tt → lines ≤ 1200
lines_few lines room finds is = (roomy lines room (sym finds.first ∙ is)).most

pub room_enough :
    (lines room : ℕ) {check : Check} → Finds (before_lines lines room) check → check ≡ Ok tt → weather_width * lines ≤ room
room_enough lines room finds is = (roomy lines room (sym finds.first ∙ is)).enough

-- .. so that their fronts, where the rows are put, are as long.
pub front_long : (n : ℕ) (list : List ℤ) → n ≤ length list → n ≡ length (take n list)
front_long n list h = sym (length-take-le n list h)

pub fronts_same : (n : ℕ) (a b : List ℤ) → n ≤ length a → n ≤ length b → length (take n a) ≡ length (take n b)
fronts_same n a b h h' = length-take-le n a h ∙ sym (length-take-le n b h')

-- What is asked before the lines is part of the papers' order.
pub before_in_order : (lines room : ℕ) → part_of checking_order (before_lines lines room) ≡ true
unfolding part_of before_lines
before_in_order lines room = refl

-- So is what a line is asked, of its form and then of its row.
pub line_in_order : (wrong : Bool) (w : Weather) → part_of checking_order ((TableForm if wrong) ∷ weather_asked w) ≡ true
unfolding part_of weather_asked
line_in_order wrong w = refl

-- ---- which refusal is given

lines_found :
    (end : RowsEnd) (lines : ℕ) (numbers out : List ℤ) → placed_found (after_lines end lines numbers out).answer ≡ end_finds end
lines_found (Ok place) lines numbers out = refl
lines_found (Err e) lines numbers out = refl

checked_found :
    (check : Check) (out : List ℤ) (later : TableLeft) (rest : Found) → placed_found later.answer ≡ rest
    → placed_found (table_checked check out later).answer ≡ or_else (found_at 0 check) rest
checked_found (Ok _) out later rest same = same
checked_found (Err refusal) out later rest same = refl

module _ (s : List ℕ) (out : List ℤ) where
  -- A table finds the first that applies, ..
  pub table_found_lem : placed_found (table_of s out).answer ≡ found (table_asked s (length out))
  unfolding table_of table_asked read_table table_row
  table_found_lem =
      let lines = line_count s in
      checked_found (first_of (before_lines lines (length out))) out _ _
      (lines_found (read_table lines s).ends lines (read_table lines s).numbers out
      ∙ weather-found TableForm (pos 1) table_line lines s 0 1)
      ∙ sym (found_then 0 (before_lines lines (length out)) _)

  -- .. gives its number and place, ..
  pub table_told_lem : placed_told (table_of s out).answer ≡ told (table_asked s (length out))
  table_told_lem = ap number_and_place table_found_lem

  -- .. and each refusal exactly there.
  pub table_exactly : Exactly (table_asked s (length out)) (placed_found (table_of s out).answer)
  table_exactly = exactly table_found_lem

  -- A table of so many lines leaves what they leave, or its refusal before them.
  module _ (lines : ℕ) (counted : lines ≡ line_count s) {check : Check} (finds : Finds (before_lines lines (length out)) check) where
    pub table_passes : check ≡ Ok tt → after_lines (read_table lines s).ends lines (read_table lines s).numbers out ≡ table_of s out
    unfolding table_of
    table_passes is = rw (sym counted, sym finds.first ∙ is)

    pub table_refuses : {refusal : Refusal} → check ≡ Err refusal → record { answer = Err (refusal on 0); output = out } ≡ table_of s out
    unfolding table_of
    table_refuses is = rw (sym counted, sym finds.first ∙ is)

  -- What leaves this has its number and place too, and its refusals.
  module _ {answer : TableAnswer} {output : List ℤ} (is : record { answer = answer; output = output } ≡ table_of s out) where
    answered : (table_of s out).answer ≡ answer
    answered = ap (λ (l : TableLeft). l.answer) (sym is)

    pub left_told : placed_told answer ≡ told (table_asked s (length out))
    left_told = rw answered at table_told_lem

    pub left_exactly : Exactly (table_asked s (length out)) (placed_found answer)
    left_exactly = rw answered at table_exactly
