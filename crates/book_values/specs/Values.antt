-- How a value of document 01's book is read. A byte is a number, a text a list of bytes. A value is
-- read with the place after it. `get_or s at 0` is the byte at a place; past the end it is 0, which
-- is no digit and no minus.
use Rattle.std.specs.Prelude.{Bool, cond, ◌&&◌, List, ℕ, zero, suc, ◌+◌, ◌-◌, ◌*◌, leb, ltb, eqb, ℤ}
use Rattle.std.specs.Prelude.{pos, neg_ℤ, Option, None, Some, length, get_or}

-- The digits 0 to 9 are the bytes 48 to 57.
unfoldable pub is_digit : ℕ → Bool
is_digit byte = leb 48 byte && leb byte 57

-- The digit at the place `at`, as a number.
unfoldable pub digit_at : List ℕ → ℕ → Option ℕ
digit_at s at = cond (is_digit (get_or s at 0)) (Some (get_or s at 0 - 48)) None

-- There is a byte at the place `at`, and it is this one.
unfoldable pub byte_is : List ℕ → ℕ → ℕ → Bool
byte_is s at byte = ltb at (length s) && eqb (get_or s at 0) byte

-- The place after this byte, where it stands at the place `at`.
unfoldable pub past : List ℕ → ℕ → ℕ → Option ℕ
past s at byte = cond (byte_is s at byte) (Some (at + 1)) None

-- "up to nine more digits": up to `left` of them, after those that make `value`. The first byte
-- that is no digit, or a digit too many, is left standing where the line has to go on.
unfoldable pub more_digits : ℕ → ℕ → List ℕ → ℕ → ℕ × ℕ
more_digits zero value s at = (value, at)
more_digits (suc left) value s at =
    cond (is_digit (get_or s at 0))
    (more_digits left (10 * value + (get_or s at 0 - 48)) s (at + 1))
    (value, at)

-- "A value is 0, or a digit 1 to 9 and up to nine more digits": the value at the place `at`, with
-- the place after it.
unfoldable pub read_value : List ℕ → ℕ → Option (ℕ × ℕ)
read_value s at =
    cond (eqb (get_or s at 0) 48) (Some (0, at + 1))
    (cond (is_digit (get_or s at 0)) (Some (more_digits 9 (get_or s at 0 - 48) s (at + 1))) None)

-- A value as it stands, ..
unfoldable pub without_minus : Option (ℕ × ℕ) → Option (ℤ × ℕ)
without_minus (Some (n, next)) = Some (pos n, next)
without_minus None = None

-- .. and after a minus, which is "not before 0".
unfoldable pub after_minus : Option (ℕ × ℕ) → Option (ℤ × ℕ)
after_minus (Some (n, next)) = cond (eqb n 0) None (Some (neg_ℤ (pos n), next))
after_minus None = None

-- "may have a minus" (byte 45): what is read at the place, or a minus and what is read after it.
abbrev pub signed_by : (List ℕ → ℕ → Option (ℕ × ℕ)) → List ℕ → ℕ → Option (ℤ × ℕ)
signed_by read s at =
    cond (eqb (get_or s at 0) 45) (after_minus (read s (at + 1))) (without_minus (read s at))

-- "temperature alone may have a minus": a value, or a minus and a value.
unfoldable pub read_signed : List ℕ → ℕ → Option (ℤ × ℕ)
read_signed s at = signed_by read_value s at
