-- A book's numbers, its text as it is written, and what step 7's list of months makes of them.
use Rattle.std.specs.Prelude.{Ok, ◌≡◌, ℕ, ◌+◌, ◌^◌, ◌<◌, ℤ, pos, nat_abs, length}
use mathlib.Core.List.{List, ◌++◌, flat_map}
use Rattle.step_pools.specs.Pools.{grams}
use Rattle.month_state.specs.declared.Weather.{Weather}
use Rattle.month_state.specs.declared.Land.{Land}
use Rattle.month_state.specs.State.{new_state, five_pools}
use Rattle.list_rows.specs.Rows.{weather_numbers, land_numbers, land_rows}
use Rattle.month_refusals.specs.Refusals.{soil_check}
use Rattle.list_run.specs.Run.{Left, months, run}
use Rattle.book_lines.specs.declared.SoilNumbers.{SoilNumbers}
use Rattle.book_rows.specs.Rows.{land_of}
use Rattle.book_rows.specs.RowText.{Each, SoundFrom, Counted}
use Rattle.book_lines.specs.LineText.{head_text, soil_text, weather_text, land_text}
use Rattle.book_run.specs.Book.{BookLeft, soil_name, weather_name, land_name, after_months, soil_of}

-- The numbers of a book: its soil's, and a row for each weather line and each land line.
pub record BookNumbers : Type 0 where
  pub soil : SoilNumbers
  pub weather : List Weather
  pub land : List Land

-- ---- the text

-- A row's line. (`nat_abs` leaves a number of 0 or more as it is, and in a well-formed book only a
-- temperature is below 0.)
abbrev pub weather_line_of : Weather → List ℕ
weather_line_of w = weather_text w.temperature (nat_abs w.rain) (nat_abs w.evaporation)

abbrev pub land_line_of : Land → List ℕ
land_line_of l = land_text (nat_abs l.cover) (nat_abs l.plant) (nat_abs l.manure)

-- "three sections in fixed order, each headed by its name, a space and its count". (`flat_map` puts
-- the lines of all rows one after another.)
unfoldable pub book_text : BookNumbers → List ℕ
book_text b =
    head_text soil_name 1
    ++ (soil_text b.soil
    ++ (head_text weather_name (length b.weather)
    ++ (flat_map weather_line_of b.weather
    ++ (head_text land_name (length b.land)
    ++ flat_map land_line_of b.land))))

-- ---- a book of which no line is at fault before its months run

-- A weather line says the row, of open pan, and 13 and 14 let it pass.
abbrev pub WeatherSound : Weather → Type 0
WeatherSound w = SoundFrom (pos 0) w

-- A land line says the row, and its numbers are values: "a digit 1 to 9 and up to nine more
-- digits".
pub record LandValues (l : Land) : Type 0 where
  pub of_line : land_of (nat_abs l.cover) (nat_abs l.plant) (nat_abs l.manure) ≡ l
  pub cover : nat_abs l.cover < 10 ^ 10
  pub plant : nat_abs l.plant < 10 ^ 10
  pub manure : nat_abs l.manure < 10 ^ 10

-- A book of which 1 to 7, 13 and 14 refuse nothing. Its months may still be refused, by 15 to 17.
pub record WellFormed (b : BookNumbers) : Type 0 where
  pub soil : soil_check (soil_of b.soil) ≡ Ok tt
  pub weather_count : Counted (length b.weather)
  pub weather : Each WeatherSound b.weather
  pub land_count : Counted (length b.land)
  pub land : Each LandValues b.land

-- A text is that of a well-formed book.
pub record Written (s : List ℕ) : Type 0 where
  pub numbers : BookNumbers
  pub good : WellFormed numbers
  pub text : s ≡ book_text numbers

-- ---- the list of months

-- The numbers of all rows one after another, as step 7's list is lent them.
abbrev pub weather_list : BookNumbers → List ℤ
weather_list b = flat_map weather_numbers b.weather

abbrev pub land_list : BookNumbers → List ℤ
land_list b = flat_map land_numbers b.land

-- What step 7's list leaves of a book's numbers, from the soil's new state: its months alone, ..
abbrev pub months_of : BookNumbers → List ℕ → Left
months_of b rows =
    months (land_rows (land_list b)) (weather_list b) (land_list b) 0 (new_state (soil_of b.soil))
    rows

-- .. and the whole list, whose checks 3, 4 to 7, 8 and 10 come before its months.
abbrev pub run_of : BookNumbers → List ℕ → Left
run_of b rows = run (new_state (soil_of b.soil)) (weather_list b) (land_list b) rows

-- What a list leaves, as what a book leaves: its months, the five pools and the CO2 to date; or the
-- refusal of a month, on the line of its land row (the head of the land is on line n + 4 after n
-- weather rows).
unfoldable pub of_list : BookNumbers → Left → BookLeft
of_list b left =
    let state = left.outcome.state in
    let pools = grams (five_pools state) in
    record {
      answer =
          after_months left.outcome.answer (length b.weather + 4)
          (Ok (record { months = length b.land; total = pools; co2 = state.co2 }));
      rows = left.output;
    }

-- What step 7's list makes of a book's numbers.
unfoldable pub list_of : BookNumbers → List ℕ → BookLeft
list_of b rows = of_list b (months_of b rows)
