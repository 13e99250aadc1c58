-- What lines of weather are asked, one after another: another form than theirs, by its number (2 in
-- a book, 18 in a table), then 13, 14 and 19 of their rows. Past a line that is malformed nothing
-- is asked any more.
use Rattle.std.specs.Prelude.{Option, Some, None, true, false, List, [], ◌∷◌, ◌++◌, ℕ, zero, suc, ℤ}
use Rattle.book_lines.specs.declared.WeatherNumbers.{WeatherNumbers}
use Rattle.month_refusals.specs.declared.Refusal.{Refusal}
use Rattle.month_refusals.specs.Asked.{◌if◌, Placed, at}
use Rattle.month_refusals.specs.Refusals.{weather_asked}
use Rattle.book_rows.specs.Rows.{weather_for}

-- A line, and what follows it, from the place of the next line. The evaporation's source is given.
abbrev pub weather_line_then :
    Refusal → ℤ → Option (WeatherNumbers × ℕ) → ℕ → (ℕ → List Placed) → List Placed
weather_line_then malformed source (Some (n, next)) line later =
    at line
    ((malformed if false) ∷ weather_asked (weather_for source n.temperature n.rain n.evaporation))
    ++ later next
weather_line_then malformed source None line later =
    at line ((malformed if true) ∷ [])

-- So many lines from the one at a place and on a line; `read` says what stands there.
unfoldable pub weather_asked_from :
    Refusal → ℤ → (List ℕ → ℕ → ℕ → Option (WeatherNumbers × ℕ)) → ℕ → List ℕ → ℕ → ℕ → List Placed
weather_asked_from malformed source read zero s place line = []
weather_asked_from malformed source read (suc left) s place line =
    weather_line_then malformed source (read s place line) line
    (λ next. weather_asked_from malformed source read left s next (suc line))
