-- Laws of rows in lent memory: how many numbers they have, that what was put is read back, and that everything else stays.
-- Assumes nothing.
use mathlib.Core.Path.{◌≡◌, refl, sym, ◌∙◌, ap}
use mathlib.Core.List.{List, [], ◌∷◌, ◌++◌}
use Prim.Native.Nat.{ℕ, ◌+◌, ◌*◌, ◌≤◌, ◌<◌}
use native.Mathlib.Omega.{arith}
use lib.IntN.{ℤ, pos}
use lib.ListN.{length, get_or, take, drop}
use lib.Seq.{get_or-append_seam, get_or-append-add, length-sets}
use Rattle.month_state.specs.declared.Weather.{Weather}
use Rattle.month_state.specs.declared.Land.{Land}
use Rattle.month_state.specs.declared.Row.{Row}
use Rattle.month_layouts.proofs.Layouts.{put_there, put_elsewhere, stored, four_there}
use Rattle.list_rows.specs.Rows.{weather_width, land_width, row_width, weather_from, land_from}
use Rattle.list_rows.specs.Rows.{weather_numbers, land_numbers, row_numbers, row_written}

-- ---- weather rows

-- How many numbers a weather row has.
pub weather_of_length : (w : Weather) → length (weather_numbers w) ≡ weather_width
unfolding weather_numbers
weather_of_length w = refl

-- A weather row is read back from its numbers.
pub weather-back : (before rest : List ℤ) (w : Weather) → weather_from (before ++ (weather_numbers w ++ rest)) (length before) ≡ w
unfolding weather_from weather_numbers
weather-back before rest w =
    let all = weather_numbers w ++ rest in
    λ i. record {
      temperature = get_or-append_seam before w.temperature (w.rain ∷ w.evaporation ∷ w.source ∷ rest) (pos 0) i;
      rain = get_or-append-add before all 1 (pos 0) i;
      evaporation = get_or-append-add before all 2 (pos 0) i;
      source = get_or-append-add before all 3 (pos 0) i;
    }

-- Its numbers say the row, and what stands after them.
pub weather-same :
    (w v : Weather) (rest rest' : List ℤ) → weather_numbers w ++ rest ≡ weather_numbers v ++ rest' → (w ≡ v) × (rest ≡ rest')
unfolding weather_numbers
weather-same w v rest rest' e =
    (sym (weather-back [] rest w) ∙ ap (λ (l : List ℤ). weather_from l 0) e ∙ weather-back [] rest' v, ap (drop weather_width) e)

-- A weather row is what its four numbers say, ..
pub weather_there :
    (l : List ℤ) (place : ℕ) {r : List ℤ} → place + weather_width ≤ length l → r ≡ take weather_width (drop place l)
    → weather_from r 0 ≡ weather_from l place
unfolding weather_from
weather_there l place room h = rw (four_there (pos 0) l place room h)

-- .. and is read past other numbers as it is without them.
past : (before rest : List ℤ) (place c : ℕ) → get_or (before ++ rest) (length before + place + c) (pos 0) ≡ get_or rest (place + c) (pos 0)
past before rest place c =
    let further : length before + place + c ≡ length before + (place + c) = omega arith in
    rw further (get_or-append-add before rest (place + c) (pos 0))

pub weather_past : (before rest : List ℤ) (place : ℕ) → weather_from (before ++ rest) (length before + place) ≡ weather_from rest place
unfolding weather_from
weather_past before rest place =
    λ i. record {
      temperature = get_or-append-add before rest place (pos 0) i;
      rain = past before rest place 1 i;
      evaporation = past before rest place 2 i;
      source = past before rest place 3 i;
    }

-- ---- land rows

-- How many numbers a land row has.
pub land_of_length : (l : Land) → length (land_numbers l) ≡ land_width
unfolding land_numbers
land_of_length l = refl

-- A land row is read back from its numbers.
pub land-back : (before rest : List ℤ) (l : Land) → land_from (before ++ (land_numbers l ++ rest)) (length before) ≡ l
unfolding land_from land_numbers
land-back before rest l =
    let all = land_numbers l ++ rest in
    λ i. record {
      cover = get_or-append_seam before l.cover (l.plant ∷ l.manure ∷ l.activity ∷ rest) (pos 0) i;
      plant = get_or-append-add before all 1 (pos 0) i;
      manure = get_or-append-add before all 2 (pos 0) i;
      activity = get_or-append-add before all 3 (pos 0) i;
    }

-- A land row is what its four numbers say, ..
pub land_there :
    (l : List ℤ) (place : ℕ) {r : List ℤ} → place + land_width ≤ length l → r ≡ take land_width (drop place l)
    → land_from r 0 ≡ land_from l place
unfolding land_from
land_there l place room h = rw (four_there (pos 0) l place room h)

-- .. and is read past other numbers as it is without them.
pub land_past : (before rest : List ℤ) (place : ℕ) → land_from (before ++ rest) (length before + place) ≡ land_from rest place
unfolding land_from
land_past before rest place =
    λ i. record {
      cover = get_or-append-add before rest place (pos 0) i;
      plant = past before rest place 1 i;
      manure = past before rest place 2 i;
      activity = past before rest place 3 i;
    }

-- ---- months' rows

-- How many numbers a month's row has.
pub row_of_length : (row : Row) → length (row_numbers row) ≡ row_width
unfolding row_numbers
row_of_length row = refl

module _ (out : List ℕ) (j : ℕ) (row : Row) where
  -- Written, it leaves the output's length.
  pub row-length : length (row_written out j row) ≡ length out
  unfolding row_written
  row-length = length-sets out (row_width * j) (row_numbers row)

  -- A row's numbers are at its place, ..
  pub row_at :
      row_width * j + row_width ≤ length out → (c : ℕ) → c < row_width
      → get_or (row_written out j row) (row_width * j + c) 0 ≡ get_or (row_numbers row) c 0
  unfolding row_written
  row_at room c h =
      put_there out (row_width * j) (row_numbers row) c 0 (omega (arith, row_of_length row)) (omega (arith, row_of_length row))

  -- .. and everything else stays.
  pub row_off :
      (i : ℕ) → ((c : ℕ) → c < row_width → i ≡ row_width * j + c → ⊥)
      → get_or (row_written out j row) i 0 ≡ get_or out i 0
  unfolding row_written
  row_off i off =
      put_elsewhere out (row_width * j) (row_numbers row) i 0 (λ c h e. off c (omega (arith, row_of_length row)) e)

-- In memory of a row's length it is all that there is.
pub row_stored : (out : List ℕ) (row : Row) → length out ≡ row_width → row_written out 0 row ≡ row_numbers row
unfolding row_written
row_stored out row h = stored out (row_numbers row) (omega (arith, row_of_length row))
