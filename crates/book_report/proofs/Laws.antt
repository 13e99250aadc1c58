-- A book that ran has run at most 1,200 months, since a count of land rows above that is refused. Assumes nothing.
use Rattle.month_refusals.specs.Asked.{◌on◌, Check}
use Rattle.std.specs.Prelude.{Option, Some, None, Ok, Err}
use mathlib.Core.Path.{◌≡◌, refl}
use mathlib.Core.Bool.{Bool, true, false, cond}
use mathlib.Core.List.{List}
use Prim.Native.Nat.{ℕ, ◌+◌, ◌≤◌}
use native.Mathlib.Omega.{arith}
use lib.Dec.{ltb, eqb}
use lib.IntN.{ℤ}
use lib.ListN.{length}
use Rattle.number_units.specs.declared.Grams.{Grams}
use Rattle.step_pools.specs.Pools.{grams}
use Rattle.month_state.specs.declared.State.{State}
use Rattle.month_state.specs.State.{new_state, five_pools}
use Rattle.month_refusals.specs.declared.Refusal.TheVariants.{Length, Form, Rows}
use Rattle.month_refusals.specs.Refusals.{soil_check}
use Rattle.list_run.specs.Run.{ListAnswer}
use Rattle.book_lines.specs.declared.SoilNumbers.{SoilNumbers}
use Rattle.book_lines.specs.Lines.{head_line, soil_line}
use Rattle.book_rows.specs.Rows.{RowsEnd, read_weather, read_land}
use Rattle.book_run.specs.Book.{BookAnswer, after_months, land_months, land_section, land_head, weather_then, weather_section, weather_head}
use Rattle.book_run.specs.Book.{BookLeft, refused_on, soil_name, weather_name, land_name, not_one, bad_count, headed, ending, after_rows}
use Rattle.book_run.specs.Book.{soil_of, soil_checked, soil_then, soil_section, book_of}
use Rattle.book_run.proofs.Laws.{good-count, head_tested}
use Rattle.book_report.specs.Report.{months_run}

-- What a book leaves says that at most 1,200 months were run.
abbrev Few : BookLeft → Type 0
Few left = months_run left.answer ≤ 1200

-- ---- each step leads to its own refusal, or to what follows it

test_few : (test : Bool) (x y : BookLeft) → (test ≡ true → Few x) → (test ≡ false → Few y) → Few (cond test x y)
test_few true x y h k = h refl
test_few false x y h k = k refl

headed_few : (v : Option (ℕ × ℕ)) (bad : ℕ → Bool) (line : ℕ) (rows : List ℕ) (later : ℕ → ℕ → BookLeft)
    → ((count next : ℕ) → bad count ≡ false → Few (later count next)) → Few (headed v bad line rows later)
headed_few (Some (count, next)) bad line rows later h =
    rw (head_tested (bad count) line count next rows later)
    (test_few (bad count) (refused_on Rows line rows) (later count next) (λ e. omega arith) (h count next))
headed_few None bad line rows later h = omega arith

weather_few : (end : RowsEnd) (rows : List ℕ) (later : ℕ → BookLeft) → ((at : ℕ) → Few (later at)) → Few (weather_then end rows later)
weather_few (Ok at) rows later h = h at
weather_few (Err e) rows later h = omega arith

checked_few : (check : Check) (rows : List ℕ) (later : BookLeft) → Few later → Few (soil_checked check rows later)
checked_few (Ok _) rows later h = h
checked_few (Err refusal) rows later h = omega arith

soil_few : (l : Option (SoilNumbers × ℕ)) (rows : List ℕ) (later : State → ℕ → BookLeft) → ((s : State) (next : ℕ) → Few (later s next))
    → Few (soil_then l rows later)
soil_few (Some (numbers, next)) rows later h =
    let state = new_state (soil_of numbers) in
    checked_few (soil_check (soil_of numbers)) rows (later state next) (h state next)
soil_few None rows later h = omega arith

-- ---- the land: a book that finishes ran as many months as its count

ending_few : (test : Bool) (months line : ℕ) (total co2 : Grams)
    → months_run (cond test (Ok (record { months = months; total = total; co2 = co2 })) (Err (Form on line))) ≤ months
ending_few true months line total co2 = omega arith
ending_few false months line total co2 = omega arith

rows_few : (end : RowsEnd) (s : List ℕ) (line months : ℕ) (state : State) → months_run (after_rows end s line months state) ≤ months
unfolding ending
rows_few (Ok place) s line months state =
    ending_few (eqb place (length s)) months line (grams (five_pools state)) state.co2
rows_few (Err e) s line months state = omega arith

months_few : (answer : ListAnswer) (head : ℕ) (later : BookAnswer) → months_run (after_months answer head later) ≤ months_run later
months_few (Ok _) head later = omega arith
months_few (Err e) head later = omega arith

land_few : (count : ℕ) (s : List ℕ) (place head : ℕ) (weather : List ℤ) (state : State) (rows : List ℕ) → bad_count count ≡ false
    → Few (land_section count s place head weather state rows)
unfolding land_section
land_few count s place head weather state rows good =
    let land = read_land count s place (head + 1) in
    let left = land_months land weather state rows in
    omega (
      arith,
      (good-count count good).most,
      months_few left.outcome.answer head (after_rows land.ends s (head + 1 + count) count left.outcome.state),
      rows_few land.ends s (head + 1 + count) count left.outcome.state,
    )

-- ---- the sections

land_head_few : (s : List ℕ) (place line : ℕ) (weather : List ℤ) (state : State) (rows : List ℕ)
    → Few (land_head s place line weather state rows)
unfolding land_head
land_head_few s place line weather state rows =
    headed_few (head_line s place land_name) bad_count line rows _
    (λ count next good. land_few count s next line weather state rows good)

weather_head_few : (s : List ℕ) (place : ℕ) (state : State) (rows : List ℕ) → Few (weather_head s place state rows)
unfolding weather_head weather_section
weather_head_few s place state rows =
    headed_few (head_line s place weather_name) bad_count 3 rows _
    (λ count next good. weather_few (read_weather count s next 4).ends rows _
    (λ land. land_head_few s land (count + 4) (read_weather count s next 4).numbers state rows))

-- THE COUNT: whatever its bytes are, a book runs at most 1,200 months.
pub months-most : (s rows : List ℕ) → months_run (book_of s rows).answer ≤ 1200
unfolding book_of soil_section
months-most s rows =
    test_few (ltb 65536 (length s)) (refused_on Length 0 rows)
    (headed (head_line s 0 soil_name) not_one 1 rows (λ count next. soil_section s next rows)) (λ long. omega arith)
    (λ short. headed_few (head_line s 0 soil_name) not_one 1 rows (λ count next. soil_section s next rows)
    (λ count next one. soil_few (soil_line s next) rows (λ state at. weather_head s at state rows)
    (λ state at. weather_head_few s at state rows)))

-- The same of an answer that is the book's.
pub answer-most : (s rows : List ℕ) {left : BookLeft} → left ≡ book_of s rows → months_run left.answer ≤ 1200
answer-most s rows is = rw is (months-most s rows)
