-- Rows as they are written, one line after another: those of a book's section, and of a table.
use Rattle.std.specs.Prelude.{Ok, ◌≡◌, List, [], ◌∷◌, ◌++◌, ℕ, suc, ◌≤◌, ℤ, nat_abs}
use Rattle.month_state.specs.declared.Weather.{Weather}
use Rattle.month_refusals.specs.Refusals.{weather_check}
use Rattle.book_rows.specs.Rows.{weather_for}

-- The lines of rows one after another, the first on a line of this number. (A table's line has its
-- number in it, a book's has not.)
unfoldable pub lines_from : {Row : Type 0} → (ℕ → Row → List ℕ) → ℕ → List Row → List ℕ
lines_from line number [] = []
lines_from line number (row ∷ rows) = line number row ++ lines_from line (suc number) rows

-- Each of a list is so.
pub data Each {A : Type 0} (P : A → Type 0) : List A → Type 0 where
  none : Each P []
  more : {x : A} {xs : List A} → P x → Each P xs → Each P (x ∷ xs)

-- A line of weather says the row, its evaporation being from a source, and 13, 14 and 19 let it
-- pass. (`nat_abs` leaves a number of 0 or more as it is: only a temperature may be below 0.)
pub record SoundFrom (source : ℤ) (w : Weather) : Type 0 where
  pub of_line :
      weather_for source w.temperature (nat_abs w.rain) (nat_abs w.evaporation) ≡ w
  pub passes : weather_check w ≡ Ok tt

-- 3: a count is from 1 to 1,200.
pub record Counted (n : ℕ) : Type 0 where
  pub least : 1 ≤ n
  pub most : n ≤ 1200
