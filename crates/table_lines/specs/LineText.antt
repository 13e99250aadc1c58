-- The lines of a weather office's table as they are written, document 02's change 2026-01: numbers
-- in tenths with a dot, semicolons between them, and byte 10 at the end.
use Rattle.std.specs.Prelude.{List, [], ◌∷◌, ◌++◌, ℕ, ◌+◌, ◌/◌, ◌%◌, ℤ}
use Rattle.book_digits.specs.Digits.{decimal, signed_text, line_end}

-- "the book's form plus a dot and one digit": 123 is 12.3.
unfoldable pub tenths_text : ℕ → List ℕ
tenths_text n = decimal (n / 10) ++ (46 ∷ (48 + n % 10) ∷ [])

-- The same with a minus before a number below 0: -5 is -0.5.
unfoldable pub signed_tenths_text : ℤ → List ℕ
signed_tenths_text z = signed_text tenths_text z

-- "month;temperature;rain;evapotranspiration": the line of this number.
unfoldable pub table_line_text : ℕ → ℤ → ℕ → ℕ → List ℕ
table_line_text number temperature rain evapotranspiration =
    decimal number
    ++ (59 ∷ signed_tenths_text temperature)
    ++ (59 ∷ tenths_text rain)
    ++ (59 ∷ tenths_text evapotranspiration)
    ++ line_end
