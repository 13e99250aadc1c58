-- The lines of a weather office's table, document 02's change 2026-01: "text lines of
-- month;temperature;rain;evapotranspiration". A line that departs from its form has no numbers. A
-- byte is a number, a text a list of bytes, and `at` the place where a line begins.
use Rattle.std.specs.Prelude.{Bool, not, cond, ◌&&◌, List, ℕ, ◌+◌, ◌-◌, ◌*◌, eqb, ℤ}
use Rattle.std.specs.Prelude.{Option, None, Some, length, get_or}
use Rattle.std.specs.List.{count_by}
use Rattle.book_values.specs.Values.{is_digit, byte_is, read_value, signed_by}
use Rattle.book_lines.specs.declared.WeatherNumbers.{WeatherNumbers}
use Rattle.book_lines.specs.Lines.{ended, value_then}

-- "plus a dot and one digit": after a value, a dot (byte 46) and a digit. The number is in tenths.
unfoldable pub with_tenth : List ℕ → Option (ℕ × ℕ) → Option (ℕ × ℕ)
with_tenth s (Some (n, next)) =
    cond (byte_is s next 46 && is_digit (get_or s (next + 1) 0))
    (Some (10 * n + (get_or s (next + 1) 0 - 48), next + 2))
    None
with_tenth s None = None

-- "in the book's form plus a dot and one digit": 12.3 is 123.
unfoldable pub read_tenths : List ℕ → ℕ → Option (ℕ × ℕ)
read_tenths s at = with_tenth s (read_value s at)

-- "-0.5 is read, -0.0 isn't": the temperature, which may have a minus as the book's has.
unfoldable pub read_signed_tenths : List ℕ → ℕ → Option (ℤ × ℕ)
read_signed_tenths s at = signed_by read_tenths s at

-- A semicolon (byte 59), and the number after it.
unfoldable pub next_tenths : List ℕ → ℕ → Option (ℕ × ℕ)
next_tenths s at = cond (byte_is s at 59) (read_tenths s (at + 1)) None

unfoldable pub next_signed : List ℕ → ℕ → Option (ℤ × ℕ)
next_signed s at = cond (byte_is s at 59) (read_signed_tenths s (at + 1)) None

-- "the month counting 1, 2, 3 from the first line": a value that is the line's number.
unfoldable pub numbered : ℕ → Option (ℕ × ℕ) → Option (ℕ × ℕ)
numbered number (Some (n, next)) = cond (eqb n number) (Some (n, next)) None
numbered number None = None

-- "month;temperature;rain;evapotranspiration", and byte 10: the table's line of this number.
unfoldable pub table_line : List ℕ → ℕ → ℕ → Option (WeatherNumbers × ℕ)
table_line s at number =
    value_then (numbered number (read_value s at)) (λ month a.
    value_then (next_signed s a) (λ temperature b.
    value_then (next_tenths s b) (λ rain c.
    value_then (ended s (next_tenths s c)) (λ evapotranspiration next.
    Some
    (record { temperature = temperature; rain = rain; evaporation = evapotranspiration }, next)))))

-- How many lines a table has: each byte 10 ends one, ..
unfoldable pub line_ends : List ℕ → ℕ
line_ends s = count_by (λ byte. eqb byte 10) s

-- .. and "Bytes after the last byte 10 are a line too": the last byte is not byte 10. (Past its end
-- a text has byte 10 here, so that an empty one has no bytes after it.)
unfoldable pub bytes_after : List ℕ → Bool
bytes_after s = not (eqb (get_or s (length s - 1) 10) 10)

unfoldable pub line_count : List ℕ → ℕ
line_count s = line_ends s + cond (bytes_after s) 1 0
