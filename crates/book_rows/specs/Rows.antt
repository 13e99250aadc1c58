-- The rows of a text's lines, one after another, up to the first that is at fault: those of the
-- book's WEATHER and LAND sections, and of a table. A byte is a number, a text a list of bytes, and
-- `place` where a line begins.
use Rattle.std.specs.Prelude.{Option, Some, None, Result, Ok, Err}
use Rattle.std.specs.Prelude.{◌≡◌, List, [], ◌++◌, ℕ, zero, suc, ◌<◌, ◌^◌, ℤ, pos, length, drop}
use Rattle.book_lines.specs.declared.WeatherNumbers.{WeatherNumbers}
use Rattle.book_lines.specs.declared.LandNumbers.{LandNumbers}
use Rattle.month_refusals.specs.declared.RefusedAt.{RefusedAt}
use Rattle.month_refusals.specs.Asked.{◌on◌, Check}
use Rattle.month_state.specs.declared.Weather.{Weather}
use Rattle.month_state.specs.declared.Land.{Land}
use Rattle.list_rows.specs.Rows.{weather_numbers, land_numbers}
use Rattle.month_refusals.specs.declared.Refusal.{Refusal}
use Rattle.month_refusals.specs.declared.Refusal.TheVariants.{Form}
use Rattle.month_refusals.specs.Refusals.{weather_check}
use Rattle.book_lines.specs.Lines.{weather_line, land_line}

-- What a line of weather, or of land, gives: its row with the place of the next line, or why it is
-- refused.
abbrev pub WeatherRow : Type 0
WeatherRow = Result (Weather × ℕ) Refusal

abbrev pub LandRow : Type 0
LandRow = Result (Land × ℕ) Refusal

-- How reading rows ends: with the place of the next line, or refused on a line.
abbrev pub RowsEnd : Type 0
RowsEnd = Result ℕ RefusedAt

-- ---- a line as a row

-- The weather of a line's values, from a source of the evaporation.
abbrev pub weather_for : ℤ → ℤ → ℕ → ℕ → Weather
weather_for source temperature rain evaporation =
    record {
      temperature = temperature;
      rain = pos rain;
      evaporation = pos evaporation;
      source = source;
    }

-- The weather and the land of a book's line. Its evaporation is open pan's: "book rows 0"; the
-- activity of its additions is that of fresh carbon: "book rows get 1000".
abbrev pub weather_of : ℤ → ℕ → ℕ → Weather
weather_of temperature rain evaporation = weather_for (pos 0) temperature rain evaporation

abbrev pub land_of : ℕ → ℕ → ℕ → Land
land_of cover plant manure =
    record { cover = pos cover; plant = pos plant; manure = pos manure; activity = pos 1000 }

-- A line of weather: another form is refused by its number (2 in a book, 18 in a table), then 13,
-- 14 and 19 are asked.
abbrev pub weather_passed : Check → Weather → ℕ → WeatherRow
weather_passed (Ok _) w next = Ok (w, next)
weather_passed (Err refusal) w next = Err refusal

abbrev pub as_weather : Refusal → ℤ → Option (WeatherNumbers × ℕ) → WeatherRow
as_weather malformed source (Some (n, next)) =
    weather_passed (weather_check (weather_for source n.temperature n.rain n.evaporation))
    (weather_for source n.temperature n.rain n.evaporation) next
as_weather malformed source None = Err malformed

-- What `as_weather` has to be given: a line whose numbers fit 64 bits with a sign.
pub record LineFits (line : Option (WeatherNumbers × ℕ)) : Type 0 where
  pub values : (n : WeatherNumbers) (next : ℕ)
      → line ≡ Some (n, next) → (n.rain < 2 ^ 63) × (n.evaporation < 2 ^ 63)

-- A book's weather line.
unfoldable pub weather_row : List ℕ → ℕ → WeatherRow
weather_row s place = as_weather Form (pos 0) (weather_line s place)

-- A land line: another form is 2. (15 to 17 and 21 are asked when its month runs.)
abbrev pub as_land : Option (LandNumbers × ℕ) → LandRow
as_land (Some (n, next)) = Ok ((land_of n.cover n.plant n.manure), next)
as_land None = Err Form

unfoldable pub land_row : List ℕ → ℕ → LandRow
land_row s place = as_land (land_line s place)

-- ---- rows, one after another

-- What a row gives: its numbers and the place of the next line, or a refusal.
pub data RowGives : Type 0 where
  numbers : List ℤ → ℕ → RowGives
  refused : Refusal → RowGives

abbrev pub weather_gives : WeatherRow → RowGives
weather_gives (Ok (w, next)) = numbers (weather_numbers w) next
weather_gives (Err refusal) = refused refusal

abbrev pub land_gives : LandRow → RowGives
land_gives (Ok (l, next)) = numbers (land_numbers l) next
land_gives (Err refusal) = refused refusal

-- What the row of a line gives in code: its four numbers with the place of the next line.
abbrev pub row_gives : Result (List ℤ × ℕ) Refusal → RowGives
row_gives (Ok (row, next)) = numbers row next
row_gives (Err refusal) = refused refusal

-- What reading rows gives: the numbers of those before the first that is at fault, and how it ends:
-- with the place of the next line, or refused on a line.
pub record RowsRead : Type 0 where
  pub numbers : List ℤ
  pub ends : RowsEnd

-- A row on its line, and the later rows.
abbrev pub row_then : RowGives → ℕ → (ℕ → RowsRead) → RowsRead
row_then (numbers row next) line later =
    record { numbers = row ++ (later next).numbers; ends = (later next).ends }
row_then (refused refusal) line later = record { numbers = []; ends = Err (refusal on line) }

-- So many rows of a kind, from the one at a place and on a line.
unfoldable pub read_rows : (List ℕ → ℕ → ℕ → RowGives) → ℕ → List ℕ → ℕ → ℕ → RowsRead
read_rows row zero s place line = record { numbers = []; ends = Ok place }
read_rows row (suc left) s place line =
    row_then (row s place line) line (λ next. read_rows row left s next (suc line))

-- A slice that begins with these numbers; everything after them stays.
abbrev pub begun_with : List ℤ → List ℤ → List ℤ
begun_with slice front = front ++ drop (length front) slice

-- "every weather line is checked, used or not".
unfoldable pub read_weather : ℕ → List ℕ → ℕ → ℕ → RowsRead
read_weather count s place line =
    read_rows (λ text at number. weather_gives (weather_row text at)) count s place line

unfoldable pub read_land : ℕ → List ℕ → ℕ → ℕ → RowsRead
read_land count s place line =
    read_rows (λ text at number. land_gives (land_row text at)) count s place line
