-- The rows of a list of months, step 7 of document 01: how weather, land and months' rows lie in
-- lent memory, how many there are, and the entries of a month. Only the definitions of this file
-- know how many numbers a row has and where each lies.
use Rattle.std.specs.Prelude.{Bool, not, ◌||◌, List, [], ◌∷◌, ℕ, ◌+◌, ◌*◌, ◌/◌, ◌%◌, ltb, eqb, ℤ}
use Rattle.std.specs.Prelude.{pos, length, get_or}
use Rattle.std.proofs.lemmas.List.Edits.{sets}
use Rattle.month_state.specs.declared.Weather.{Weather}
use Rattle.month_state.specs.declared.Land.{Land}
use Rattle.month_state.specs.declared.Entries.{Entries}
use Rattle.month_state.specs.declared.Row.{Row}

-- How many numbers each has.
abbrev pub weather_width : ℕ
weather_width = 4

abbrev pub land_width : ℕ
land_width = 4

abbrev pub entries_width : ℕ
entries_width = weather_width + land_width

abbrev pub row_width : ℕ
row_width = 7

-- The signed number at a place.
abbrev pub signed_at : List ℤ → ℕ → ℤ
signed_at numbers place = get_or numbers place (pos 0)

-- ---- a month's entries, and rows of them

-- A weather row from a place on: temperature, rain, evaporation, and the evaporation's source.
unfoldable pub weather_from : List ℤ → ℕ → Weather
weather_from numbers place =
    record {
      temperature = signed_at numbers place;
      rain = signed_at numbers (place + 1);
      evaporation = signed_at numbers (place + 2);
      source = signed_at numbers (place + 3);
    }

-- A land row from a place on: cover, plant, manure, and the activity of both.
unfoldable pub land_from : List ℤ → ℕ → Land
land_from numbers place =
    record {
      cover = signed_at numbers place;
      plant = signed_at numbers (place + 1);
      manure = signed_at numbers (place + 2);
      activity = signed_at numbers (place + 3);
    }

-- A month's entries: a weather row, then a land row.
unfoldable pub entries_of : List ℤ → Entries
entries_of numbers =
    record { weather = weather_from numbers 0; land = land_from numbers weather_width }

-- The numbers of a weather row and of a land row, as they are read.
unfoldable pub weather_numbers : Weather → List ℤ
weather_numbers w = w.temperature ∷ w.rain ∷ w.evaporation ∷ w.source ∷ []

unfoldable pub land_numbers : Land → List ℤ
land_numbers l = l.cover ∷ l.plant ∷ l.manure ∷ l.activity ∷ []

-- ---- a month's row

-- The numbers of a month's row: DPM, RPM, BIO, HUM, IOM, the month's CO2, D.
unfoldable pub row_numbers : Row → List ℕ
row_numbers row =
    row.dpm.0
    ∷ row.rpm.0
    ∷ row.bio.0
    ∷ row.hum.0
    ∷ row.iom.0
    ∷ row.co2.0
    ∷ row.deficit.0
    ∷ []

-- Row j, counted from 0, put in lent memory (`sets`); everything else stays.
unfoldable pub row_written : List ℕ → ℕ → Row → List ℕ
row_written out j row = sets out (row_width * j) (row_numbers row)

-- ---- the rows of a list

-- How many rows a list of numbers has.
abbrev pub weather_rows : List ℤ → ℕ
weather_rows weather = length weather / weather_width

abbrev pub land_rows : List ℤ → ℕ
land_rows land = length land / land_width

-- 3: "the number of weather or land rows lent to a list, is outside 1 to 1,200", or so many numbers
-- are no rows of a width: "four numbers a weather row" (change 2026-01), "four numbers a land row"
-- (change 2026-04).
unfoldable pub rows_outside : ℕ → ℕ → Bool
rows_outside width count =
    not (eqb (count % width) 0) || (ltb (count / width) 1 || ltb 1200 (count / width))

-- The entries of the month at place j, counted from 0: weather row j mod the weather's rows, and
-- land row j.
unfoldable pub entries_at : List ℤ → List ℤ → ℕ → Entries
entries_at weather land j =
    record {
      weather = weather_from weather (weather_width * (j % weather_rows weather));
      land = land_from land (land_width * j);
    }
