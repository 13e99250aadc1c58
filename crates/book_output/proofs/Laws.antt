-- A text on its way: what is added piece by piece is added as a whole. And a row's numbers and the months' lines, one more at a
-- time. Assumes nothing.
use mathlib.Core.Path.{◌≡◌, refl, sym, ◌∙◌, ap, ap₂}
use mathlib.Core.List.{List, [], ◌++◌, append-nil, append_assoc}
use Prim.Native.Nat.{ℕ, zero, suc, ◌+◌, ◌*◌, ◌≤◌, ◌<◌}
use native.Mathlib.Nat.{add-zero, zero-add}
use native.Mathlib.Numerals.{add-one}
use native.Mathlib.Omega.{arith}
use lib.ListN.{length, get_or, length-append}
use Rattle.std.specs.List.{between}
use Rattle.std.proofs.lemmas.List.Edits.{length-between, get_or-between}
use Rattle.book_digits.specs.Digits.{decimal, spaced, line_end, overwritten}
use Rattle.book_digits.proofs.Writing.{overwritten-append}
use Rattle.book_output.specs.declared.Text.{Text}
use Rattle.book_output.specs.Output.{numbers, row_line, row_lines}
use Rattle.book_output.specs.Text.{Added}

-- Nothing is added.
pub unchanged : (text : Text) → Added text [] text
unfolding overwritten
unchanged text = record { same = refl; size = refl; len = omega arith; out = refl }

-- Bytes are added, and then more.
pub then : {before middle after : Text} {xs ys : List ℕ} → Added before xs middle → Added middle ys after →
    Added before (xs ++ ys) after
then {before} {middle} {after} {xs} {ys} a b =
    let end : middle.len ≡ before.len + length xs = a.len in
    record {
      same = b.same ∙ a.same;
      size = b.size ∙ a.size;
      len = omega (arith, length-append xs ys, a.len, b.len);
      out =
          b.out
          ∙ ap₂ (λ (list : List ℕ) (at : ℕ). overwritten list at ys) a.out end
          ∙ overwritten-append before.out.now before.len xs ys;
    }

-- A number more is added, ..
numbers-suc : (k : ℕ) (rows : List ℕ) (from : ℕ) →
    numbers (suc k) rows from ≡ numbers k rows from ++ spaced (get_or rows (from + k) 0)
unfolding numbers
numbers-suc zero rows from = rw (add-zero from) (append-nil (spaced (get_or rows from 0)))
numbers-suc (suc k) rows from =
    ap (λ (bytes : List ℕ). spaced (get_or rows from 0) ++ bytes) (numbers-suc k rows (from + 1))
    ∙ sym (append_assoc (spaced (get_or rows from 0)) (numbers k rows (from + 1)) (spaced (get_or rows (from + 1 + k) 0)))
    ∙ ap (λ (i : ℕ). (spaced (get_or rows from 0) ++ numbers k rows (from + 1)) ++ spaced (get_or rows i 0)) (omega arith)

pub number_more : {before middle after : Text} (k : ℕ) (row : List ℕ) → Added before (numbers k row 0) middle →
    Added middle (spaced (get_or row k 0)) after → Added before (numbers (k + 1) row 0) after
number_more k row a b = rw (add-one k, numbers-suc k row 0, zero-add k) (then a b)

-- The numbers of a part of the rows are theirs.
pub numbers_part : (k : ℕ) (rows part : List ℕ) (from at : ℕ) →
    ((i : ℕ) → i < at + k → get_or part i 0 ≡ get_or rows (from + i) 0) → numbers k part at ≡ numbers k rows (from + at)
unfolding numbers
numbers_part zero rows part from at same = refl
numbers_part (suc k) rows part from at same =
    let here : get_or part at 0 ≡ get_or rows (from + at) 0 = same at (omega arith) in
    let next : from + (at + 1) ≡ from + at + 1 = omega arith in
    ap₂ (λ (n : ℕ) (bytes : List ℕ). spaced n ++ bytes) here
    (numbers_part k rows part from (at + 1) (λ i h. same i (omega arith)) ∙ ap (λ (i : ℕ). numbers k rows i) next)

-- .. and a line more: the month's number, its seven numbers and byte 10.
lines-suc : (k : ℕ) (rows : List ℕ) (j : ℕ) → row_lines (suc k) rows j ≡ row_lines k rows j ++ row_line rows (j + k)
unfolding row_lines
lines-suc zero rows j = rw (add-zero j) (append-nil (row_line rows j))
lines-suc (suc k) rows j =
    ap (λ (bytes : List ℕ). row_line rows j ++ bytes) (lines-suc k rows (j + 1))
    ∙ sym (append_assoc (row_line rows j) (row_lines k rows (j + 1)) (row_line rows (j + 1 + k)))
    ∙ ap (λ (i : ℕ). (row_line rows j ++ row_lines k rows (j + 1)) ++ row_line rows i) (omega arith)

line_is : (j : ℕ) (rows : List ℕ) → 7 * j + 7 ≤ length rows →
    decimal (j + 1)
    ++ (numbers (length (between (7 * j) (7 * j + 7) rows)) (between (7 * j) (7 * j + 7) rows) 0 ++ line_end)
    ≡ row_line rows j
unfolding row_line
line_is j rows h =
    let seven : length (between (7 * j) (7 * j + 7) rows) ≡ 7 = omega (arith, length-between rows (7 * j) (7 * j + 7) h) in
    let row : numbers 7 (between (7 * j) (7 * j + 7) rows) 0 ≡ numbers 7 rows (7 * j + 0) =
    numbers_part 7 rows (between (7 * j) (7 * j + 7) rows) (7 * j) 0
    (λ i w. get_or-between rows (7 * j) (7 * j + 7) i 0 (omega arith)) in
    ap (λ (bytes : List ℕ). decimal (j + 1) ++ (bytes ++ line_end))
    (ap (λ (k : ℕ). numbers k (between (7 * j) (7 * j + 7) rows) 0) seven ∙ row ∙ ap (λ (i : ℕ). numbers 7 rows i) (add-zero (7 * j)))

pub line_more : {before middle after : Text} (j : ℕ) (rows : List ℕ) → 7 * j + 7 ≤ length rows →
    Added before (row_lines j rows 0) middle →
    Added middle
    (decimal (j + 1)
    ++ (numbers (length (between (7 * j) (7 * j + 7) rows)) (between (7 * j) (7 * j + 7) rows) 0 ++ line_end))
    after → Added before (row_lines (j + 1) rows 0) after
line_more j rows h a b = rw (add-one j, lines-suc j rows 0, zero-add j) (then a (rw (line_is j rows h) at b))
