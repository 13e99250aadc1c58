-- What document 01's program writes: `POOLS n`, a line a month and `TOTAL t g`, or only
-- `REFUSED number line`. A byte is a number, a text a list of bytes. Every line is ended by byte
-- 10; between the parts of a line stands one space, byte 32.
use Rattle.std.specs.Prelude.{List, [], ◌∷◌, ◌++◌, ℕ, zero, suc, ◌+◌, ◌*◌, get_or}
use Rattle.book_digits.specs.Digits.{decimal, spaced, line_end}

-- Always enough bytes for what is written for a book: 1,200 lines of at most 168, the first and the
-- last.
abbrev pub output_size : ℕ
output_size = 204800

-- So many numbers of the rows, from a place on, each after a space.
unfoldable pub numbers : ℕ → List ℕ → ℕ → List ℕ
numbers zero rows from = []
numbers (suc left) rows from = spaced (get_or rows from 0) ++ numbers left rows (from + 1)

-- "a line a month (month, then its row)": of the month at place j, counted from 0. Its row is the
-- seven numbers from 7 × j on.
unfoldable pub row_line : List ℕ → ℕ → List ℕ
row_line rows j = decimal (j + 1) ++ (numbers 7 rows (7 * j) ++ line_end)

-- The lines of so many months, from the one at place j.
unfoldable pub row_lines : ℕ → List ℕ → ℕ → List ℕ
row_lines zero rows j = []
row_lines (suc left) rows j = row_line rows j ++ row_lines left rows (j + 1)

-- "POOLS ", "TOTAL " and "REFUSED ".
abbrev pub pools_name : List ℕ
pools_name = 80 ∷ 79 ∷ 79 ∷ 76 ∷ 83 ∷ 32 ∷ []

abbrev pub total_name : List ℕ
total_name = 84 ∷ 79 ∷ 84 ∷ 65 ∷ 76 ∷ 32 ∷ []

abbrev pub refused_name : List ℕ
refused_name = 82 ∷ 69 ∷ 70 ∷ 85 ∷ 83 ∷ 69 ∷ 68 ∷ 32 ∷ []

-- `POOLS n`
unfoldable pub pools_line : ℕ → List ℕ
pools_line count = pools_name ++ (decimal count ++ line_end)

-- A line of a name and two numbers.
unfoldable pub named_line : List ℕ → ℕ → ℕ → List ℕ
named_line name first second = name ++ (decimal first ++ (spaced second ++ line_end))

-- What a book that ran gives: its months, their rows, and `TOTAL t g` "(five pools, CO2 to date)".
unfoldable pub finished_output : ℕ → ℕ → ℕ → List ℕ → List ℕ
finished_output count total co2 rows =
    pools_line count ++ (row_lines count rows 0 ++ named_line total_name total co2)

-- "On a refusal it writes only `REFUSED number line`".
abbrev pub refused_output : ℕ → ℕ → List ℕ
refused_output number line = named_line refused_name number line
