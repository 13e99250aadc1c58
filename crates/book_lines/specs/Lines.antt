-- The lines of document 01's book: a section's head, and its lines of values. A line that departs
-- from its form has no numbers. A byte is a number, a text a list of bytes, and `at` the place
-- where a line begins. A line is read with the place of the next one.
use Rattle.std.specs.Prelude.{Bool, true, cond, ◌&&◌, List, [], ◌∷◌, ℕ, ◌+◌, Option, None, Some}
use Rattle.std.specs.Prelude.{length}
use Rattle.book_values.specs.Values.{byte_is, read_value, read_signed}
use Rattle.book_lines.specs.declared.SoilNumbers.{SoilNumbers}
use Rattle.book_lines.specs.declared.WeatherNumbers.{WeatherNumbers}
use Rattle.book_lines.specs.declared.LandNumbers.{LandNumbers}

-- These bytes stand at the place.
unfoldable pub bytes_are : List ℕ → ℕ → List ℕ → Bool
bytes_are s at [] = true
bytes_are s at (byte ∷ bytes) = byte_is s at byte && bytes_are s (at + 1) bytes

-- "One space between values": a space (byte 32), and the value after it.
unfoldable pub spaced_value : List ℕ → ℕ → Option (ℕ × ℕ)
spaced_value s at = cond (byte_is s at 32) (read_value s (at + 1)) None

-- "every line ended by byte 10": the last value of a line, with the place of the next line.
unfoldable pub ended : List ℕ → Option (ℕ × ℕ) → Option (ℕ × ℕ)
ended s (Some (n, next)) = cond (byte_is s next 10) (Some (n, next + 1)) None
ended s None = None

-- "headed by its name, a space and its count": the count, which has the form of a value. The name
-- is given with its space.
unfoldable pub head_line : List ℕ → ℕ → List ℕ → Option (ℕ × ℕ)
head_line s at name =
    cond (bytes_are s at name) (ended s (read_value s (at + length name))) None

-- What follows a value of a line, from the place after it; without the value, the line is
-- malformed.
abbrev pub value_then : {A Line : Type 0} → Option (A × ℕ) → (A → ℕ → Option Line) → Option Line
value_then (Some (value, next)) later = later value next
value_then None later = None

-- `SOIL 1`: clay, depth, kind, DPM, RPM, BIO, HUM, IOM.
unfoldable pub soil_line : List ℕ → ℕ → Option (SoilNumbers × ℕ)
soil_line s at =
    value_then (read_value s at) (λ clay a.
    value_then (spaced_value s a) (λ depth b.
    value_then (spaced_value s b) (λ kind c.
    value_then (spaced_value s c) (λ dpm d.
    value_then (spaced_value s d) (λ rpm e.
    value_then (spaced_value s e) (λ bio f.
    value_then (spaced_value s f) (λ hum g.
    value_then (ended s (spaced_value s g)) (λ iom next.
    Some (
      record {
        clay = clay;
        depth = depth;
        kind = kind;
        dpm = dpm;
        rpm = rpm;
        bio = bio;
        hum = hum;
        iom = iom;
      },
      next,
    )))))))))

-- `WEATHER n`: temperature, rain, evaporation. "temperature alone may have a minus".
unfoldable pub weather_line : List ℕ → ℕ → Option (WeatherNumbers × ℕ)
weather_line s at =
    value_then (read_signed s at) (λ temperature a.
    value_then (spaced_value s a) (λ rain b.
    value_then (ended s (spaced_value s b)) (λ evaporation next.
    Some (record { temperature = temperature; rain = rain; evaporation = evaporation }, next))))

-- `LAND n`: cover, plant grams, manure grams.
unfoldable pub land_line : List ℕ → ℕ → Option (LandNumbers × ℕ)
land_line s at =
    value_then (read_value s at) (λ cover a.
    value_then (spaced_value s a) (λ plant b.
    value_then (ended s (spaced_value s b)) (λ manure next.
    Some (record { cover = cover; plant = plant; manure = manure }, next))))
