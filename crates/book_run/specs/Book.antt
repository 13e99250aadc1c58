-- Document 01's book: the soil, all weather, then the land. Land rows are read up to the first that
-- is malformed, and then step 7's own months run on them; a refused month's line stands before that
-- of the reading's fault. So the earliest faulty line wins (BookAsked.antt, proofs/Refusals.antt).
-- A byte is a number, a text a list of bytes, and `place` where a line begins. The book begins at
-- the end of this file, where definitions stand before their use.
use Rattle.std.specs.Prelude.{Option, Some, None, Result, Ok, Err}
use Rattle.std.specs.Prelude.{Bool, cond, not, ◌||◌, List, [], ◌∷◌, ℕ, ◌+◌, ltb, eqb, ℤ, length}
use Rattle.month_refusals.specs.declared.RefusedAt.{RefusedAt}
use Rattle.book_run.specs.declared.Finished.{Finished}
use Rattle.month_refusals.specs.Asked.{◌on◌, Check}
use Rattle.step_pools.specs.Pools.{grams}
use Rattle.month_state.specs.declared.Soil.{Soil}
use Rattle.month_state.specs.declared.State.{State}
use Rattle.month_state.specs.State.{new_state, five_pools}
use Rattle.month_refusals.specs.declared.Refusal.{Refusal}
use Rattle.month_refusals.specs.declared.Refusal.TheVariants.{Length, Form, Rows}
use Rattle.month_refusals.specs.Refusals.{soil_check}
use Rattle.list_rows.specs.Rows.{land_rows}
use Rattle.list_run.specs.Run.{ListAnswer, Left, months}
use Rattle.book_lines.specs.declared.SoilNumbers.{SoilNumbers}
use Rattle.book_lines.specs.Lines.{head_line, soil_line}
use Rattle.book_rows.specs.Rows.{RowsEnd, RowsRead, read_weather, read_land}

-- A book's answer: it ran to its end, or it is refused on a line.
abbrev pub BookAnswer : Type 0
BookAnswer = Result Finished RefusedAt

-- What a book leaves: its answer, and the rows with those of the months that ran.
pub record BookLeft : Type 0 where
  pub answer : BookAnswer
  pub rows : List ℕ

-- Refused on a line, the rows as they are.
abbrev pub refused_on : Refusal → ℕ → List ℕ → BookLeft
refused_on refusal line rows = record { answer = Err (refusal on line); rows = rows }

-- ---- a section's head

-- `SOIL`, `WEATHER` and `LAND`, each with the space after it.
abbrev pub soil_name : List ℕ
soil_name = 83 ∷ 79 ∷ 73 ∷ 76 ∷ 32 ∷ []

abbrev pub weather_name : List ℕ
weather_name = 87 ∷ 69 ∷ 65 ∷ 84 ∷ 72 ∷ 69 ∷ 82 ∷ 32 ∷ []

abbrev pub land_name : List ℕ
land_name = 76 ∷ 65 ∷ 78 ∷ 68 ∷ 32 ∷ []

-- 3: "SOIL's count isn't 1", ..
abbrev pub not_one : ℕ → Bool
not_one count = not (eqb count 1)

-- .. another count is outside 1 to 1,200.
abbrev pub bad_count : ℕ → Bool
bad_count count = ltb count 1 || ltb 1200 count

-- A head on its line: another form is 2, a bad count 3; else the count and the place of the next
-- line.
abbrev pub counted : Option (ℕ × ℕ) → (ℕ → Bool) → ℕ → Result (ℕ × ℕ) RefusedAt
counted (Some (count, next)) bad line = cond (bad count) (Err (Rows on line)) (Ok (count, next))
counted None bad line = Err (Form on line)

-- What follows a head: its refusal, or its section, from the count and the place of the next line.
abbrev pub counted_then : Result (ℕ × ℕ) RefusedAt → List ℕ → (ℕ → ℕ → BookLeft) → BookLeft
counted_then (Ok (count, next)) rows later = later count next
counted_then (Err e) rows later = refused_on e.refusal e.place rows

abbrev pub headed : Option (ℕ × ℕ) → (ℕ → Bool) → ℕ → List ℕ → (ℕ → ℕ → BookLeft) → BookLeft
headed head bad line rows later = counted_then (counted head bad line) rows later

-- ---- the land, and the end

-- "Nothing follows": bytes after the last line are 2 on the line after it. Else the book ran: its
-- months, five pools, CO2 to date.
unfoldable pub ending : List ℕ → ℕ → ℕ → ℕ → State → BookAnswer
ending s place line months state =
    cond (eqb place (length s))
    (Ok (record { months = months; total = grams (five_pools state); co2 = state.co2 }))
    (Err (Form on line))

-- After the land rows: the fault that ended their reading, or the end of the book on the line after
-- them.
abbrev pub after_rows : RowsEnd → List ℕ → ℕ → ℕ → State → BookAnswer
after_rows (Ok place) s line months state = ending s place line months state
after_rows (Err e) s line months state = Err e

-- After the months of the land rows that were read: a refused month on the line of its row, the
-- land's head being on line `head`; else what follows them.
abbrev pub after_months : ListAnswer → ℕ → BookAnswer → BookAnswer
after_months (Ok _) head later = later
after_months (Err e) head later = Err (e.refusal on (head + e.place))

-- The months of the land rows that were read, step 7's own.
abbrev pub land_months : RowsRead → List ℤ → State → List ℕ → Left
land_months land weather state rows =
    months (land_rows land.numbers) weather land.numbers 0 state rows

-- So many land rows, from a place on, whose head is on line `head`: they are read, and their months
-- run.
unfoldable pub land_section : ℕ → List ℕ → ℕ → ℕ → List ℤ → State → List ℕ → BookLeft
land_section count s place head weather state rows =
    let land = read_land count s place (head + 1) in
    let left = land_months land weather state rows in
    record {
      answer =
          after_months left.outcome.answer head
          (after_rows land.ends s (head + 1 + count) count left.outcome.state);
      rows = left.output;
    }

-- `LAND n` on a line, and its n rows.
unfoldable pub land_head : List ℕ → ℕ → ℕ → List ℤ → State → List ℕ → BookLeft
land_head s place line weather state rows =
    headed (head_line s place land_name) bad_count line rows
    (λ count next. land_section count s next line weather state rows)

-- ---- the weather

-- What follows the weather: the refusal, or the land from the next line on.
abbrev pub weather_then : RowsEnd → List ℕ → (ℕ → BookLeft) → BookLeft
weather_then (Ok place) rows later = later place
weather_then (Err e) rows later = refused_on e.refusal e.place rows

-- n weather rows from line 4 on, then the land, whose head is on line n + 4.
unfoldable pub weather_section : ℕ → List ℕ → ℕ → State → List ℕ → BookLeft
weather_section count s place state rows =
    let weather = read_weather count s place 4 in
    weather_then weather.ends rows
    (λ next. land_head s next (count + 4) weather.numbers state rows)

-- `WEATHER n` on line 3.
unfoldable pub weather_head : List ℕ → ℕ → State → List ℕ → BookLeft
weather_head s place state rows =
    headed (head_line s place weather_name) bad_count 3 rows
    (λ count next. weather_section count s next state rows)

-- ---- the soil

-- The soil of a line's numbers.
abbrev pub soil_of : SoilNumbers → Soil
soil_of n =
    record {
      clay = n.clay;
      depth = n.depth;
      kind = n.kind;
      pools = grams n.dpm ∷ grams n.rpm ∷ grams n.bio ∷ grams n.hum ∷ [];
      iom = grams n.iom;
    }

-- The soil on line 2: another form is 2, then 4 to 7; else the weather follows, and the months
-- begin with the new state.
abbrev pub soil_checked : Check → List ℕ → BookLeft → BookLeft
soil_checked (Ok _) rows later = later
soil_checked (Err refusal) rows later = refused_on refusal 2 rows

abbrev pub soil_then : Option (SoilNumbers × ℕ) → List ℕ → (State → ℕ → BookLeft) → BookLeft
soil_then (Some (numbers, next)) rows later =
    soil_checked (soil_check (soil_of numbers)) rows (later (new_state (soil_of numbers)) next)
soil_then None rows later = refused_on Form 2 rows

unfoldable pub soil_section : List ℕ → ℕ → List ℕ → BookLeft
soil_section s place rows =
    soil_then (soil_line s place) rows (λ state next. weather_head s next state rows)

-- ---- the book

-- 1 with line 0; else `SOIL 1` on line 1, and the soil.
unfoldable pub book_of : List ℕ → List ℕ → BookLeft
book_of s rows =
    cond (ltb 65536 (length s)) (refused_on Length 0 rows)
    (headed (head_line s 0 soil_name) not_one 1 rows (λ count next. soil_section s next rows))
