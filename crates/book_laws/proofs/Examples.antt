-- Texts of the book and how they are read, computed from the definitions. Assumes nothing.
use Rattle.std.specs.Prelude.{Some, None}
use mathlib.Core.Path.{◌≡◌, refl, ap}
use mathlib.Core.List.{List, [], ◌∷◌}
use Prim.Native.Nat.{ℕ}
use lib.IntN.{pos, negsuc}
use Rattle.book_digits.specs.Digits.{digits_of, decimal, overwritten}
use Rattle.book_values.specs.Values.{is_digit, more_digits, read_value, without_minus, after_minus, read_signed}

-- What is read at the start of each text: "0", "740 80", "01" (0, with the 1 left standing), "", " 7", "-5".
pub values : record {
  zero : read_value (48 ∷ []) 0 ≡ Some (0, 1);
  two : read_value (55 ∷ 52 ∷ 48 ∷ 32 ∷ 56 ∷ 48 ∷ []) 0 ≡ Some (740, 3);
  leading : read_value (48 ∷ 49 ∷ []) 0 ≡ Some (0, 1);
  empty : read_value [] 0 ≡ None;
  space : read_value (32 ∷ 55 ∷ []) 0 ≡ None;
  minus : read_value (45 ∷ 53 ∷ []) 0 ≡ None;
}
unfolding is_digit more_digits read_value
values = record { zero = refl; two = refl; leading = refl; empty = refl; space = refl; minus = refl }

-- Ten digits are read, and an eleventh is left standing.
abbrev pub nines : List ℕ → List ℕ
nines rest = 57 ∷ 57 ∷ 57 ∷ 57 ∷ 57 ∷ 57 ∷ 57 ∷ 57 ∷ 57 ∷ 57 ∷ rest

pub ten_digits : read_value (nines (32 ∷ [])) 0 ≡ Some (9999999999, 10)
unfolding is_digit more_digits read_value
ten_digits = refl

pub eleven_digits : read_value (nines (57 ∷ [])) 0 ≡ Some (9999999999, 10)
unfolding is_digit more_digits read_value
eleven_digits = refl

-- With a sign: "-5", "34", "-0", "-05", "--5", "+5", "-".
pub temperatures : record {
  below : read_signed (45 ∷ 53 ∷ []) 0 ≡ Some ((negsuc 4), 2);
  above : read_signed (51 ∷ 52 ∷ []) 0 ≡ Some ((pos 34), 2);
  zero : read_signed (45 ∷ 48 ∷ []) 0 ≡ None;
  leading : read_signed (45 ∷ 48 ∷ 53 ∷ []) 0 ≡ None;
  twice : read_signed (45 ∷ 45 ∷ 53 ∷ []) 0 ≡ None;
  plus : read_signed (43 ∷ 53 ∷ []) 0 ≡ None;
  alone : read_signed (45 ∷ []) 0 ≡ None;
}
unfolding is_digit more_digits read_value without_minus after_minus read_signed
temperatures =
    record { below = refl; above = refl; zero = refl; leading = refl; twice = refl; plus = refl; alone = refl }

-- "0" and "113937", and the second put into a text of eight bytes from place 1 on.
pub zero_written : decimal 0 ≡ 48 ∷ []
unfolding digits_of decimal
zero_written = refl

pub pool_written : decimal 113937 ≡ 49 ∷ 49 ∷ 51 ∷ 57 ∷ 51 ∷ 55 ∷ []
unfolding digits_of decimal
pool_written = refl

pub pool_put : overwritten (1 ∷ 2 ∷ 3 ∷ 4 ∷ 5 ∷ 6 ∷ 7 ∷ 8 ∷ []) 1 (decimal 113937)
    ≡ 1 ∷ 49 ∷ 49 ∷ 51 ∷ 57 ∷ 51 ∷ 55 ∷ 8 ∷ []
unfolding overwritten
pool_put = ap (overwritten (1 ∷ 2 ∷ 3 ∷ 4 ∷ 5 ∷ 6 ∷ 7 ∷ 8 ∷ []) 1) pool_written
