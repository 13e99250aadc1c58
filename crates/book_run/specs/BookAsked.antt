-- What a book is asked, line by line: "In a book the earliest faulty line wins, then the lowest
-- number". The first of these that applies is the book's refusal, and its place the line
-- (proofs/Refusals.antt). Past a line that is malformed nothing is asked any more, whatever stands
-- in the list.
use Rattle.std.specs.Prelude.{Option, Some, None, Ok, Err, Bool, true, false, not, List, [], ◌∷◌}
use Rattle.std.specs.Prelude.{◌++◌, ℕ, zero, suc, ltb, eqb, ◌+◌, ◌*◌, ◌%◌, ℤ, pos, length}
use Rattle.book_lines.specs.declared.SoilNumbers.{SoilNumbers}
use Rattle.book_lines.specs.declared.LandNumbers.{LandNumbers}
use Rattle.month_state.specs.declared.State.{State}
use Rattle.month_state.specs.declared.Land.{Land}
use Rattle.month_state.specs.declared.Entries.{Entries}
use Rattle.month_state.specs.State.{new_state}
use Rattle.list_rows.specs.Rows.{weather_width, weather_from, weather_rows}
use Rattle.month_refusals.specs.declared.Refusal.TheVariants.{Length, Form, Rows}
use Rattle.month_refusals.specs.Asked.{Asked, ◌if◌, Placed, at}
use Rattle.month_refusals.specs.Refusals.{soil_asked, entries_asked}
use Rattle.month_call.specs.Month.{list_month}
use Rattle.book_lines.specs.Lines.{head_line, soil_line, weather_line, land_line}
use Rattle.book_rows.specs.Rows.{RowsEnd, land_of, read_weather}
use Rattle.book_rows.specs.RowsAsked.{weather_asked_from}
use Rattle.book_run.specs.Book.{soil_name, weather_name, land_name, not_one, bad_count, soil_of}

-- 2 of a line, then what its values are asked.
abbrev pub malformed : List Asked
malformed = (Form if true) ∷ []

abbrev pub formed : List Asked → List Asked
formed values = (Form if false) ∷ values

-- ---- a head

abbrev pub head_asked : Option (ℕ × ℕ) → (ℕ → Bool) → List Asked
head_asked (Some (count, next)) bad = formed ((Rows if bad count) ∷ [])
head_asked None bad = malformed

-- A head on a line: 2 and 3, and what follows it, from its count and the place of the next line.
abbrev pub after_head : Option (ℕ × ℕ) → (ℕ → ℕ → List Placed) → List Placed
after_head (Some (count, next)) later = later count next
after_head None later = []

abbrev pub head_then : Option (ℕ × ℕ) → (ℕ → Bool) → ℕ → (ℕ → ℕ → List Placed) → List Placed
head_then value bad line later = at line (head_asked value bad) ++ after_head value later

-- ---- land lines

-- The entries of a land row's month, at place j counted from 0: weather row j mod the weather's
-- rows, and the row.
unfoldable pub month_entries : List ℤ → ℕ → Land → Entries
month_entries weather j l =
    record { weather = weather_from weather (weather_width * (j % weather_rows weather)); land = l }

-- A land line whose month is the one at place j: 2, then what its month's entries are asked, and
-- what follows it.
abbrev pub land_line_then :
    Option (LandNumbers × ℕ) → ℕ → List ℤ → ℕ → State → (ℕ → State → List Placed) → List Placed
land_line_then (Some (n, next)) line weather j state later =
    let entries = month_entries weather j (land_of n.cover n.plant n.manure) in
    at line (formed (entries_asked state entries)) ++ later next (list_month state entries).state
land_line_then None line weather j state later = at line malformed

-- So many land lines from the one at a place and on a line. After the last one 2 is asked of bytes
-- that follow, on the line after it.
unfoldable pub land_asked_from : ℕ → List ℕ → ℕ → ℕ → List ℤ → ℕ → State → List Placed
land_asked_from zero s place line weather j state =
    at line ((Form if not (eqb place (length s))) ∷ [])
land_asked_from (suc left) s place line weather j state =
    land_line_then (land_line s place) line weather j state
    (λ next state'. land_asked_from left s next (suc line) weather (suc j) state')

-- ---- weather lines

-- So many weather lines from the one at a place and on a line: each 2, then 13 and 14. (19 finds
-- nothing: a book's evaporation is open pan's, 0.)
abbrev pub weather_lines_asked : ℕ → List ℕ → ℕ → ℕ → List Placed
weather_lines_asked count s place line =
    weather_asked_from Form (pos 0) (λ text at number. weather_line text at) count s place line

-- What follows the weather, from the place of the next line.
abbrev pub after_weather : RowsEnd → (ℕ → List Placed) → List Placed
after_weather (Ok place) later = later place
after_weather (Err e) later = []

-- ---- the sections

-- `LAND n` on a line, and its lines.
unfoldable pub land_asked : List ℕ → ℕ → ℕ → List ℤ → State → List Placed
land_asked s place line weather state =
    head_then (head_line s place land_name) bad_count line
    (λ count next. land_asked_from count s next (line + 1) weather 0 state)

-- `WEATHER n` on line 3, its lines, and the land.
unfoldable pub weather_section_asked : ℕ → List ℕ → ℕ → State → List Placed
weather_section_asked count s place state =
    weather_lines_asked count s place 4
    ++ after_weather (read_weather count s place 4).ends
    (λ next. land_asked s next (count + 4) (read_weather count s place 4).numbers state)

unfoldable pub weather_head_asked : List ℕ → ℕ → State → List Placed
weather_head_asked s place state =
    head_then (head_line s place weather_name) bad_count 3
    (λ count next. weather_section_asked count s next state)

-- The soil on line 2: 2, then 4 to 7, and the weather.
abbrev pub soil_line_then : Option (SoilNumbers × ℕ) → (State → ℕ → List Placed) → List Placed
soil_line_then (Some (numbers, next)) later =
    at 2 (formed (soil_asked (soil_of numbers))) ++ later (new_state (soil_of numbers)) next
soil_line_then None later = at 2 malformed

unfoldable pub soil_section_asked : List ℕ → ℕ → List Placed
soil_section_asked s place =
    soil_line_then (soil_line s place) (λ state next. weather_head_asked s next state)

-- A book: 1 with line 0, `SOIL 1` on line 1, and the soil.
unfoldable pub book_asked : List ℕ → List Placed
book_asked s =
    at 0 ((Length if ltb 65536 (length s)) ∷ [])
    ++ head_then (head_line s 0 soil_name) not_one 1 (λ count next. soil_section_asked s next)
