-- The lines of document 01's book as they are written: each value in its decimal form, one space
-- between values, and byte 10 at the end.
use Rattle.std.specs.Prelude.{List, ◌++◌, ℕ, ◌^◌, ◌<◌, ℤ}
use Rattle.book_digits.specs.Digits.{decimal, signed_decimal, spaced, line_end}
use Rattle.book_lines.specs.declared.SoilNumbers.{SoilNumbers}

-- "headed by its name, a space and its count". The name is given with its space.
unfoldable pub head_text : List ℕ → ℕ → List ℕ
head_text name n = name ++ decimal n ++ line_end

-- `SOIL 1`: clay, depth, kind, DPM, RPM, BIO, HUM, IOM.
unfoldable pub soil_text : SoilNumbers → List ℕ
soil_text x =
    decimal x.clay
    ++ spaced x.depth
    ++ spaced x.kind
    ++ spaced x.dpm
    ++ spaced x.rpm
    ++ spaced x.bio
    ++ spaced x.hum
    ++ spaced x.iom
    ++ line_end

-- `WEATHER n`: temperature, rain, evaporation. "temperature alone may have a minus".
unfoldable pub weather_text : ℤ → ℕ → ℕ → List ℕ
weather_text temperature rain evaporation =
    signed_decimal temperature ++ spaced rain ++ spaced evaporation ++ line_end

-- `LAND n`: cover, plant grams, manure grams.
unfoldable pub land_text : ℕ → ℕ → ℕ → List ℕ
land_text cover plant manure = decimal cover ++ spaced plant ++ spaced manure ++ line_end

-- "a digit 1 to 9 and up to nine more digits": a soil's numbers that the form of a value can say.
pub record SoilBelow (x : SoilNumbers) : Type 0 where
  pub clay : x.clay < 10 ^ 10
  pub depth : x.depth < 10 ^ 10
  pub kind : x.kind < 10 ^ 10
  pub dpm : x.dpm < 10 ^ 10
  pub rpm : x.rpm < 10 ^ 10
  pub bio : x.bio < 10 ^ 10
  pub hum : x.hum < 10 ^ 10
  pub iom : x.iom < 10 ^ 10
