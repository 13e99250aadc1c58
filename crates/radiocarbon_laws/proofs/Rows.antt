-- Land rows without activities are read as the rows without their activity, and are as many numbers.
-- Assumes nothing.
use mathlib.Core.Path.{◌≡◌, refl, sym, ◌∙◌, ap}
use mathlib.Core.List.{List, [], ◌∷◌}
use Prim.Native.Nat.{ℕ, zero, suc, ◌+◌, ◌*◌, ◌≤◌}
use native.Mathlib.Omega.{arith}
use lib.IntN.{ℤ, pos}
use lib.ListN.{length, get_or}
use Rattle.month_state.specs.declared.Land.{Land}
use Rattle.list_rows.specs.Rows.{land_width, land_from, entries_at}
use Rattle.list_rows.proofs.Layouts.{land_past}
use Rattle.radiocarbon_laws.specs.Without.{land_without, entries_without, after_staying, rows_without}

same_length : (stay : ℕ) (land : List ℤ) → length (after_staying stay land) ≡ length land
unfolding after_staying
same_length stay [] = refl
same_length zero (activity ∷ rows) = ap suc (same_length 3 rows)
same_length (suc stay) (number ∷ rows) = ap suc (same_length stay rows)

pub rows-length : (land : List ℤ) → length (rows_without land) ≡ length land
rows-length land = same_length 3 land

-- Past its end a list has 0.
past_end : (numbers : List ℤ) (n : ℕ) → length numbers ≤ n → get_or numbers n (pos 0) ≡ pos 0
past_end [] n h = refl
past_end (x ∷ numbers) zero h = absurd (omega arith)
past_end (x ∷ numbers) (suc n) h = past_end numbers n (omega arith)

-- A land whose activity is 0 already.
bare : (l : Land) → l.activity ≡ pos 0 → l ≡ land_without l
bare l h = λ i. record { cover = l.cover; plant = l.plant; manure = l.manure; activity = h i }

short : (numbers : List ℤ) (j : ℕ) → length numbers ≤ 3 → land_from numbers (land_width * j) ≡ land_without (land_from numbers (land_width * j))
unfolding land_from
short numbers j few = bare (land_from numbers (land_width * j)) (past_end numbers (land_width * j + 3) (omega arith))

first-row :
    (a b c d : ℤ) (rest rest' : List ℤ)
    → land_from (a ∷ b ∷ c ∷ pos 0 ∷ rest) 0 ≡ land_without (land_from (a ∷ b ∷ c ∷ d ∷ rest') 0)
unfolding land_from
first-row a b c d rest rest' = refl

pub row_without : (land : List ℤ) (j : ℕ) → land_from (rows_without land) (land_width * j) ≡ land_without (land_from land (land_width * j))
unfolding after_staying
row_without [] j = short [] j (omega arith)
row_without (a ∷ []) j = short (a ∷ []) j (omega arith)
row_without (a ∷ b ∷ []) j = short (a ∷ b ∷ []) j (omega arith)
row_without (a ∷ b ∷ c ∷ []) j = short (a ∷ b ∷ c ∷ []) j (omega arith)
row_without (a ∷ b ∷ c ∷ d ∷ rest) zero = first-row a b c d (after_staying 3 rest) rest
row_without (a ∷ b ∷ c ∷ d ∷ rest) (suc j) =
    let next : land_width * suc j ≡ 4 + land_width * j = omega arith in
    rw next
    (land_past (a ∷ b ∷ c ∷ pos 0 ∷ []) (after_staying 3 rest) (land_width * j)
    ∙ row_without rest j
    ∙ ap land_without (sym (land_past (a ∷ b ∷ c ∷ d ∷ []) rest (land_width * j))))

pub entries_without_lem : (weather land : List ℤ) (j : ℕ) → entries_at weather (rows_without land) j ≡ entries_without (entries_at weather land j)
unfolding entries_at
entries_without_lem weather land j = rw (row_without land j)
