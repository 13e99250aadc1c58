-- A book finds what its list of questions finds, line by line: it gives the papers' number and line of the first that applies,
-- and each refusal exactly where it is the first. So the earliest faulty line wins, then the lowest number.
-- A section is its first line, by cases, and what follows. Only the land takes more: the book reads its rows up to the first
-- that is malformed and then runs their months, where the questions are asked line by line.
-- Assumes nothing.
use Rattle.std.specs.Prelude.{Option, Some, None, Ok, Err}
use Rattle.book_lines.specs.declared.SoilNumbers.{SoilNumbers}
use Rattle.book_lines.specs.declared.LandNumbers.{LandNumbers}
use Rattle.month_refusals.specs.Asked.{◌on◌, Check, ◌if◌, first_of, Placed, at, Found, refused, found, told, number_and_place, Exactly}
use Rattle.month_refusals.specs.Asked.{placed_found, placed_told}
use mathlib.Core.Path.{◌≡◌, refl, sym, ◌∙◌, ap}
use mathlib.Core.Bool.{Bool, true, false, not, cond}
use mathlib.Core.List.{List, [], ◌∷◌, ◌++◌, append_assoc}
use Prim.Native.Nat.{ℕ, zero, suc, ◌+◌, ◌*◌}
use native.Mathlib.Omega.{arith}
use lib.Dec.{ltb, eqb}
use lib.IntN.{ℤ, pos}
use lib.ListN.{length, length-append}
use Rattle.number_units.specs.declared.Grams.{Grams}
use Rattle.month_state.specs.declared.State.{State}
use Rattle.month_state.specs.declared.Land.{Land}
use Rattle.month_state.specs.State.{new_state}
use Rattle.list_rows.specs.Rows.{land_width, land_numbers, land_rows, entries_at}
use Rattle.list_rows.proofs.Layouts.{land_of_length, land-back}
use Rattle.month_refusals.specs.declared.Refusal.{Refusal}
use Rattle.month_refusals.specs.declared.Refusal.TheVariants.{Length, Form, Rows}
use Rattle.month_refusals.specs.Refusals.{soil_asked, soil_check, entries_asked, entries_check}
use Rattle.month_refusals.proofs.First.{found_later, or_else, found_at, found-append, found_then, exactly}
use Rattle.month_call.specs.Month.{list_month}
use Rattle.list_run.specs.Run.{ListAnswer, months_asked}
use Rattle.list_run.proofs.Refusals.{months-found}
use Rattle.book_lines.specs.Lines.{head_line, soil_line, weather_line, land_line}
use Rattle.book_rows.specs.Rows.{RowsEnd, land_of, weather_row, as_land, land_row, land_gives, RowsRead, row_then, read_rows, read_weather, read_land}
use Rattle.book_rows.proofs.Found.{end_finds, weather-found}
use Rattle.book_run.specs.declared.Finished.{Finished}
use Rattle.book_run.specs.Book.{BookLeft, refused_on, soil_name, weather_name, land_name, not_one, bad_count, headed, BookAnswer}
use Rattle.book_run.specs.Book.{ending, after_rows, after_months, land_months, land_section, land_head, weather_then, weather_section}
use Rattle.book_run.specs.Book.{weather_head, soil_of, soil_checked, soil_then, soil_section, book_of}
use Rattle.book_run.proofs.Laws.{head_tested}
use Rattle.book_run.specs.BookAsked.{formed, head_then, month_entries, land_line_then, land_asked_from, weather_lines_asked, after_weather}
use Rattle.book_run.specs.BookAsked.{land_asked, weather_section_asked, weather_head_asked, soil_line_then, soil_section_asked, book_asked}

-- What a book leaves finds.
abbrev finding : BookLeft → Found
finding left = placed_found left.answer

-- ---- a section's head

-- One refusal on a line, then what follows.
one_found :
    (test : Bool) (refusal : Refusal) (line : ℕ) (rows : List ℕ) (later : BookLeft) (asked : List Placed) → finding later ≡ found asked
    → finding (cond test (refused_on refusal line rows) later) ≡ found (at line ((refusal if test) ∷ []) ++ asked)
unfolding found at
one_found true refusal line rows later asked same = refl
one_found false refusal line rows later asked same = same

-- A head, and its section.
head_found :
    (value : Option (ℕ × ℕ)) (bad : ℕ → Bool) (line : ℕ) (rows : List ℕ) (later : ℕ → ℕ → BookLeft) (asked : ℕ → ℕ → List Placed)
    → ((count next : ℕ) → finding (later count next) ≡ found (asked count next))
    → finding (headed value bad line rows later) ≡ found (head_then value bad line asked)
unfolding found at
head_found (Some (count, next)) bad line rows later asked same =
    rw (head_tested (bad count) line count next rows later)
    (one_found (bad count) Rows line rows (later count next) (asked count next) (same count next))
head_found None bad line rows later asked same = refl

-- ---- the land

-- The months of the rows that were read, and what follows them.
months_then : (answer : ListAnswer) (head : ℕ) (later : BookAnswer)
    → placed_found (after_months answer head later) ≡ or_else (found_later head (placed_found answer)) (placed_found later)
months_then (Ok _) head later = refl
months_then (Err e) head later = refl

-- The end of the book.
end-found : (test : Bool) (line months : ℕ) (pools co2 : Grams)
    → placed_found {Given = Finished} (cond test (Ok (record { months = months; total = pools; co2 = co2 })) (Err (Form on line)))
    ≡ found (at line ((Form if not test) ∷ []))
unfolding found at
end-found true line months pools co2 = refl
end-found false line months pools co2 = refl

-- One month's check on its row's line, and what follows.
month_then :
    (check : Check) (head place line : ℕ) (months end rest : Found) → line ≡ head + place → or_else (found_later head months) end ≡ rest
    → or_else (found_later head (or_else (found_at place check) months)) end ≡ or_else (found_at line check) rest
month_then (Ok _) head place line months end rest there same = same
month_then (Err refusal) head place line months end rest there same = ap (refused refusal) (sym there)

-- The month of a row, behind the numbers of the j rows before it, and the months after it.
module _ (weather before later : List ℤ) (l : Land) (j : ℕ) (long : length before ≡ land_width * j) where
  row-entries : entries_at weather (before ++ (land_numbers l ++ later)) j ≡ month_entries weather j l
  unfolding entries_at month_entries
  row-entries = rw (← long, land-back before later l)

  row-months :
      (state : State)
      → months_asked (land_rows (land_numbers l ++ later)) weather (before ++ (land_numbers l ++ later)) j state
      ≡ at (j + 1) (entries_asked state (month_entries weather j l))
      ++ months_asked (land_rows later) weather ((before ++ land_numbers l) ++ later) (suc j) (list_month state (month_entries weather j l)).state
  unfolding months_asked
  row-months state =
      let more : land_rows (land_numbers l ++ later) ≡ suc (land_rows later) =
      omega (arith, length-append (land_numbers l) later, land_of_length l) in
      rw (more, row-entries, append_assoc before (land_numbers l) later)

module _ (s : List ℕ) (weather : List ℤ) (head last count : ℕ) (reached : State) where
  -- What the rows read and their months find, behind the numbers of the j rows before them.
  abbrev land_finds : RowsRead → List ℤ → ℕ → State → Found
  land_finds land before j state =
      or_else (found_later head (found (months_asked (land_rows land.numbers) weather (before ++ land.numbers) j state)))
      (placed_found (after_rows land.ends s last count reached))

  -- One line, and those after it.
  land_line_lem :
      (row : Option (LandNumbers × ℕ)) (line j : ℕ) (state : State) (before : List ℤ) (later : ℕ → RowsRead) (asked : ℕ → State → List Placed)
      → length before ≡ land_width * j → line ≡ head + (j + 1)
      → ((next : ℕ) (state' : State) (before' : List ℤ) → length before' ≡ land_width * suc j
      → land_finds (later next) before' (suc j) state' ≡ found (asked next state'))
      → land_finds (row_then (land_gives (as_land row)) line later) before j state ≡ found (land_line_then row line weather j state asked)
  unfolding found at first_of months_asked
  land_line_lem (Some (n, next)) line j state before later asked long there same =
      let l = land_of n.cover n.plant n.manure in
      let e = month_entries weather j l in
      ap
      (λ (months : Found). or_else (found_later head months) (placed_found (after_rows (later next).ends s last count reached)))
      (ap found (row-months weather before (later next).numbers l j long state) ∙ found_then (j + 1) (entries_asked state e) _)
      ∙ month_then (entries_check state e) head (j + 1) line _ _ _ there
      (same next _ (before ++ land_numbers l) (omega (arith, length-append before (land_numbers l), land_of_length l)))
      ∙ sym (found_then line (formed (entries_asked state e)) _)
  land_line_lem None line j state before later asked long there same = refl

  -- So many lines, from the one of the month at place j.
  land-found :
      (left place line j : ℕ) (state : State) (before : List ℤ)
      → length before ≡ land_width * j → line ≡ head + (j + 1) → last ≡ line + left
      → land_finds (read_land left s place line) before j state ≡ found (land_asked_from left s place line weather j state)
  unfolding read_land read_rows land_asked_from land_row found months_asked ending
  land-found zero place line j state before long there end =
      let same : last ≡ line = omega arith in
      rw same (end-found (eqb place (length s)) line count _ _)
  land-found (suc left) place line j state before long there end =
      land_line_lem (land_line s place) line j state before _ _ long there
      (λ next state' before' long'. land-found left next (suc line) (suc j) state' before' long' (omega arith) (omega arith))

-- The whole section, and its head.
module _ (s : List ℕ) (weather : List ℤ) (state : State) (rows : List ℕ) where
  land_section_found :
      (count place head : ℕ)
      → finding (land_section count s place head weather state rows) ≡ found (land_asked_from count s place (head + 1) weather 0 state)
  unfolding land_section
  land_section_found count place head =
      let land = read_land count s place (head + 1) in
      let left = land_months land weather state rows in
      let end = head + 1 + count in
      months_then left.outcome.answer head (after_rows land.ends s end count left.outcome.state)
      ∙ rw (months-found (land_rows land.numbers) weather land.numbers 0 state rows)
      (land-found s weather head end count left.outcome.state count place (head + 1) 0 state [] refl refl refl)

  land_head_found : (place line : ℕ) → finding (land_head s place line weather state rows) ≡ found (land_asked s place line weather state)
  unfolding land_head land_asked
  land_head_found place line =
      head_found (head_line s place land_name) bad_count line rows _ _ (λ count next. land_section_found count next line)

-- ---- the weather

-- The weather's lines: a book's are those of any weather, by its refusal and its source.
lines_found :
    (count : ℕ) (s : List ℕ) (place line : ℕ)
    → end_finds (read_weather count s place line).ends ≡ found (weather_lines_asked count s place line)
unfolding read_weather weather_row
lines_found count s place line = weather-found Form (pos 0) (λ text at number. weather_line text at) count s place line

-- The weather, and the land after it.
weather_then_lem :
    (end : RowsEnd) (rows : List ℕ) (later : ℕ → BookLeft) (asked : ℕ → List Placed)
    → ((next : ℕ) → finding (later next) ≡ found (asked next))
    → finding (weather_then end rows later) ≡ or_else (end_finds end) (found (after_weather end asked))
weather_then_lem (Ok place) rows later asked same = same place
weather_then_lem (Err e) rows later asked same = refl

module _ (s : List ℕ) (state : State) (rows : List ℕ) where
  weather_section_found :
      (count place : ℕ) → finding (weather_section count s place state rows) ≡ found (weather_section_asked count s place state)
  unfolding weather_section weather_section_asked
  weather_section_found count place =
      let weather = read_weather count s place 4 in
      weather_then_lem weather.ends rows _ _ (λ next. land_head_found s weather.numbers state rows next (count + 4))
      ∙ rw (lines_found count s place 4) (sym (found-append (weather_lines_asked count s place 4) _))

  weather_head_found : (place : ℕ) → finding (weather_head s place state rows) ≡ found (weather_head_asked s place state)
  unfolding weather_head weather_head_asked
  weather_head_found place = head_found (head_line s place weather_name) bad_count 3 rows _ _ weather_section_found

-- ---- the soil

-- The soil's check, and its line.
soil_checked_lem :
    (check : Check) (rows : List ℕ) (later : BookLeft) (rest : Found) → finding later ≡ rest
    → finding (soil_checked check rows later) ≡ or_else (found_at 2 check) rest
soil_checked_lem (Ok _) rows later rest same = same
soil_checked_lem (Err refusal) rows later rest same = refl

soil-found :
    (line : Option (SoilNumbers × ℕ)) (rows : List ℕ) (later : State → ℕ → BookLeft) (asked : State → ℕ → List Placed)
    → ((state : State) (next : ℕ) → finding (later state next) ≡ found (asked state next))
    → finding (soil_then line rows later) ≡ found (soil_line_then line asked)
unfolding found at first_of
soil-found (Some (numbers, next)) rows later asked same =
    soil_checked_lem (soil_check (soil_of numbers)) rows _ _ (same (new_state (soil_of numbers)) next)
    ∙ sym (found_then 2 (formed (soil_asked (soil_of numbers))) _)
soil-found None rows later asked same = refl

-- ---- the book

module _ (s rows : List ℕ) where
  soil_section_found : (place : ℕ) → finding (soil_section s place rows) ≡ found (soil_section_asked s place)
  unfolding soil_section soil_section_asked
  soil_section_found place = soil-found (soil_line s place) rows _ _ (λ state next. weather_head_found s state rows next)

  -- A book finds the first that applies, ..
  pub book_found_lem : placed_found (book_of s rows).answer ≡ found (book_asked s)
  unfolding book_of book_asked
  book_found_lem =
      one_found (ltb 65536 (length s)) Length 0 rows _ _
      (head_found (head_line s 0 soil_name) not_one 1 rows _ _ (λ count next. soil_section_found next))

  -- .. gives its number and line, ..
  pub book_told_lem : placed_told (book_of s rows).answer ≡ told (book_asked s)
  book_told_lem = ap number_and_place book_found_lem

  -- .. and each refusal exactly there.
  pub book_exactly : Exactly (book_asked s) (placed_found (book_of s rows).answer)
  book_exactly = exactly book_found_lem
