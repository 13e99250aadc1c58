-- What reading lines of weather ends with is the first of what they are asked, once for a book's and a table's.
-- Assumes nothing.
use Rattle.std.specs.Prelude.{Option, Some, None, Ok, Err}
use Rattle.book_lines.specs.declared.WeatherNumbers.{WeatherNumbers}
use mathlib.Core.Path.{◌≡◌, refl, sym, ◌∙◌}
use mathlib.Core.Bool.{false}
use mathlib.Core.List.{List, ◌∷◌}
use Prim.Native.Nat.{ℕ, zero, suc}
use lib.IntN.{ℤ}
use Rattle.month_state.specs.declared.Weather.{Weather}
use Rattle.month_refusals.specs.Asked.{Check, ◌if◌, first_of, Placed, at, Found, nothing, refused, found}
use Rattle.month_refusals.specs.declared.Refusal.{Refusal}
use Rattle.month_refusals.specs.Refusals.{weather_asked, weather_check}
use Rattle.month_refusals.proofs.First.{or_else, found_at, found_then}
use Rattle.book_rows.specs.Rows.{RowsEnd, weather_for, weather_passed, as_weather, weather_gives, RowsRead, row_then, read_rows}
use Rattle.book_rows.specs.RowsAsked.{weather_line_then, weather_asked_from}

-- What the end of a reading finds.
abbrev pub end_finds : RowsEnd → Found
end_finds (Ok place) = nothing
end_finds (Err e) = refused e.refusal e.place

-- One line's check, one line, and so many lines.
weather_checked :
    (check : Check) (w : Weather) (next line : ℕ) (later : ℕ → RowsRead) (rest : Found) → end_finds (later next).ends ≡ rest
    → end_finds (row_then (weather_gives (weather_passed check w next)) line later).ends ≡ or_else (found_at line check) rest
weather_checked (Ok _) w next line later rest same = same
weather_checked (Err refusal) w next line later rest same = refl

module _ (malformed : Refusal) (source : ℤ) where
  weather_line_lem :
      (row : Option (WeatherNumbers × ℕ)) (line : ℕ) (later : ℕ → RowsRead) (asked : ℕ → List Placed)
      → ((next : ℕ) → end_finds (later next).ends ≡ found (asked next))
      → end_finds (row_then (weather_gives (as_weather malformed source row)) line later).ends
      ≡ found (weather_line_then malformed source row line asked)
  unfolding found at first_of
  weather_line_lem (Some (n, next)) line later asked same =
      let w = weather_for source n.temperature n.rain n.evaporation in
      weather_checked (weather_check w) w next line later (found (asked next)) (same next)
      ∙ sym (found_then line ((malformed if false) ∷ weather_asked w) (asked next))
  weather_line_lem None line later asked same = refl

  pub weather-found :
      (read : List ℕ → ℕ → ℕ → Option (WeatherNumbers × ℕ)) (count : ℕ) (s : List ℕ) (place line : ℕ)
      → end_finds (read_rows (λ text at number. weather_gives (as_weather malformed source (read text at number))) count s place line).ends
      ≡ found (weather_asked_from malformed source read count s place line)
  unfolding read_rows weather_asked_from found
  weather-found read zero s place line = refl
  weather-found read (suc count) s place line =
      weather_line_lem (read s place line) line _ _ (λ next. weather-found read count s next (suc line))
