-- The form of the lines of the calls, each after its letter, and what of a text is left after one.
-- A number stands after a space (byte 32), and a line ends with byte 10.
use Rattle.std.specs.Prelude.{Bool, true, cond, List, [], ◌∷◌, ℕ, ◌*◌, eqb, leb, Option, Some, None}
use Rattle.list_rows.specs.Rows.{weather_width, land_width, entries_width}
use Rattle.month_layouts.specs.Layouts.{soil_width, kept_width, state_width}
use Rattle.test_history.specs.History.{history_read}
use Rattle.test_numbers.specs.Numbers.{Read, then_read, before, bytes_read, this_byte, digits_read}
use Rattle.test_numbers.specs.Numbers.{signed_read, number_read, array_read, list_read, is_read}

-- So many numbers, and the end of the line.
abbrev pub numbers_line : ℕ → List ℕ → Read Unit
numbers_line n = before (array_read digits_read n) (this_byte 10)

-- A current state's numbers.
unfoldable pub state_read : List ℕ → Read Unit
state_read text = is_read (array_read digits_read state_width text)

-- N: a soil.
unfoldable pub start_line : List ℕ → Read Unit
start_line = numbers_line soil_width

-- M: a state, a number and a month's entries.
unfoldable pub month_line : List ℕ → Read Unit
month_line =
    before state_read
    (before (number_read digits_read)
    (before (array_read signed_read entries_width) (this_byte 10)))

-- B: a state, and the base of the places of its kept ones.
unfoldable pub take_back_line : List ℕ → Read Unit
take_back_line = before state_read (numbers_line kept_width)

-- D and K: three numbers. A: two.
unfoldable pub survival_line : List ℕ → Read Unit
survival_line = numbers_line 3

unfoldable pub age_line : List ℕ → Read Unit
age_line = numbers_line 2

-- R: a state and a number.
unfoldable pub radiocarbon_line : List ℕ → Read Unit
radiocarbon_line = before state_read (before (number_read digits_read) (this_byte 10))

-- There is memory for a number, or for none.
abbrev pub taken : Bool → List ℕ → Read Unit
taken fits left = (cond fits (Some tt) None, left)

-- L and S: weather and land, for which there is room, a number that the call takes, and a state.
unfoldable pub series_line : (ℕ → Bool) → List ℕ → Read Unit
series_line takes =
    before (list_read signed_read (weather_width * 1250))
    (before (list_read signed_read (land_width * 1250))
    (λ text. then_read (number_read digits_read text)
    (λ number. before state_read (before (this_byte 10) (taken (takes number))))))

-- L takes a length of the rows' memory up to 8,500, and S every number of years.
abbrev pub list_takes : ℕ → Bool
list_takes size = leb size 8500

abbrev pub spin_up_takes : ℕ → Bool
spin_up_takes years = true

-- T: the length of the weather's memory, up to 4,900, and that of a table, which follows with an
-- end of its own.
unfoldable pub table_line : List ℕ → Read Unit
table_line text =
    then_read (number_read digits_read text) (λ room left.
    then_read (number_read digits_read left) (λ size.
    before (this_byte 10)
    (before (bytes_read size) (before (this_byte 10) (taken (leb room 4900))))))

-- The line after a letter: N, M, B, H, L, S, D, K, R, A or T.
unfoldable pub line_read : ℕ → List ℕ → Read Unit
line_read letter text =
    cond (eqb letter 78) (start_line text)
    (cond (eqb letter 77) (month_line text)
    (cond (eqb letter 66) (take_back_line text)
    (cond (eqb letter 72) (history_read text)
    (cond (eqb letter 76) (series_line list_takes text)
    (cond (eqb letter 83) (series_line spin_up_takes text)
    (cond (eqb letter 68) (survival_line text)
    (cond (eqb letter 75) (survival_line text)
    (cond (eqb letter 82) (radiocarbon_line text)
    (cond (eqb letter 65) (age_line text)
    (cond (eqb letter 84) (table_line text) (None, text)))))))))))

-- What is left after a line that has its form.
abbrev pub left_of : Read Unit → Option (List ℕ)
left_of (Some _, left) = Some left
left_of (None, left) = None

-- What is left of a text after the call that it begins with.
unfoldable pub call_left : List ℕ → Option (List ℕ)
call_left [] = None
call_left (letter ∷ text) = left_of (line_read letter text)
