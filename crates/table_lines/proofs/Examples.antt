-- Texts of a table and how they are read, computed from the definitions. Assumes nothing.
use Rattle.std.specs.Prelude.{None, Some}
use mathlib.Core.Path.{◌≡◌, refl}
use mathlib.Core.List.{List, [], ◌∷◌}
use Prim.Native.Nat.{ℕ}
use lib.IntN.{pos, negsuc}
use Rattle.book_values.specs.Values.{is_digit, byte_is, more_digits, read_value, without_minus, after_minus}
use Rattle.book_lines.specs.Lines.{ended}
use Rattle.table_lines.specs.Lines.{with_tenth, read_tenths, read_signed_tenths, next_tenths, next_signed, numbered, table_line}
use Rattle.table_lines.specs.Lines.{line_ends, bytes_after, line_count}

-- What is read at the start of each text: "0.0", "12.3", "-0.5", "1.25" (1.2, with the 5 left standing); and what is not read:
-- "-0.0", ".5", "5", "5.", "05.0", "+1.0".
pub temperatures : record {
  nothing : read_signed_tenths (48 ∷ 46 ∷ 48 ∷ []) 0 ≡ Some (pos 0, 3);
  above : read_signed_tenths (49 ∷ 50 ∷ 46 ∷ 51 ∷ []) 0 ≡ Some (pos 123, 4);
  below : read_signed_tenths (45 ∷ 48 ∷ 46 ∷ 53 ∷ []) 0 ≡ Some (negsuc 4, 4);
  two : read_signed_tenths (49 ∷ 46 ∷ 50 ∷ 53 ∷ []) 0 ≡ Some (pos 12, 3);
  minus : read_signed_tenths (45 ∷ 48 ∷ 46 ∷ 48 ∷ []) 0 ≡ None;
  bare : read_signed_tenths (46 ∷ 53 ∷ []) 0 ≡ None;
  whole : read_signed_tenths (53 ∷ []) 0 ≡ None;
  dot : read_signed_tenths (53 ∷ 46 ∷ []) 0 ≡ None;
  leading : read_signed_tenths (48 ∷ 53 ∷ 46 ∷ 48 ∷ []) 0 ≡ None;
  plus : read_signed_tenths (43 ∷ 49 ∷ 46 ∷ 48 ∷ []) 0 ≡ None;
}
unfolding is_digit byte_is more_digits read_value without_minus after_minus with_tenth read_tenths read_signed_tenths
temperatures =
    record {
      nothing = refl;
      above = refl;
      below = refl;
      two = refl;
      minus = refl;
      bare = refl;
      whole = refl;
      dot = refl;
      leading = refl;
      plus = refl;
    }

-- The first line "1;-0.5;12.3;0.0", with its end (byte 10) or another rest.
abbrev pub line : List ℕ → List ℕ
line rest = 49 ∷ 59 ∷ 45 ∷ 48 ∷ 46 ∷ 53 ∷ 59 ∷ 49 ∷ 50 ∷ 46 ∷ 51 ∷ 59 ∷ 48 ∷ 46 ∷ 48 ∷ rest

-- It is read as line 1 only, and only with its end right after it.
pub lines : record {
  first : table_line (line (10 ∷ [])) 0 1 ≡ Some (record { temperature = negsuc 4; rain = 123; evaporation = 0 }, 16);
  second : table_line (line (10 ∷ [])) 0 2 ≡ None;
  unended : table_line (line []) 0 1 ≡ None;
  digit : table_line (line (48 ∷ 10 ∷ [])) 0 1 ≡ None;
}
unfolding is_digit byte_is more_digits read_value without_minus after_minus ended with_tenth read_tenths read_signed_tenths next_tenths
    next_signed numbered table_line
lines = record { first = refl; second = refl; unended = refl; digit = refl }

-- How many lines texts have: no bytes none, a byte 10 alone one.
pub counts : record {
  none : line_count [] ≡ 0;
  unended : line_count (line []) ≡ 1;
  ended : line_count (line (10 ∷ [])) ≡ 1;
  after : line_count (line (10 ∷ 49 ∷ [])) ≡ 2;
  empty : line_count (10 ∷ []) ≡ 1;
}
unfolding line_ends bytes_after line_count
counts = record { none = refl; unended = refl; ended = refl; after = refl; empty = refl }
