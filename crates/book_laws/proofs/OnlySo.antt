-- ONLY SO: a book that finishes is the text of well-formed numbers, and so it ran as step 7's list of them: no other form is taken.
-- One that doesn't is refused by one of 1 to 7 and 13 to 17: 13 and 14 on a weather line, 15 to 17 in a month.
-- Assumes nothing.
use Rattle.std.specs.Prelude.{Option, Some, None, Ok, Err}
use Rattle.book_lines.specs.declared.LandNumbers.{LandNumbers}
use Rattle.month_refusals.specs.Asked.{◌on◌, Check, first_of}
use mathlib.Core.Path.{◌≡◌, refl, ◌∙◌, ap}
use mathlib.Core.Bool.{Bool, true, false, cond}
use mathlib.Core.List.{List, [], ◌++◌, flat_map, append-nil}
use Prim.Native.Nat.{ℕ, zero, suc, ◌+◌, ◌*◌, ◌%◌, ◌≤◌, ◌<◌}
use native.Mathlib.Nat.{mod-lt}
use native.Mathlib.Omega.{arith}
use borrow.Author.Tests.{lt-leb, eqb-true, not-false}
use lib.Dec.{ltb, eqb}
use lib.IntN.{ℤ}
use lib.ListN.{length, drop}
use lib.Seq.{drop-length}
use Rattle.number_units.specs.declared.Grams.{Grams}
use Rattle.month_state.specs.declared.Soil.{Soil}
use Rattle.month_state.specs.declared.State.{State}
use Rattle.month_state.specs.declared.Entries.{Entries}
use Rattle.month_state.specs.declared.Weather.{Weather}
use Rattle.month_state.specs.declared.Land.{Land}
use Rattle.month_state.specs.State.{month_limit, new_state}
use Rattle.list_rows.specs.Rows.{weather_width, land_width, weather_from, land_from, weather_numbers, land_numbers}
use Rattle.list_rows.specs.Rows.{weather_rows, land_rows, entries_at}
use Rattle.list_rows.proofs.Layouts.{weather_of_length, weather-back, weather_past, land_of_length, land-back, land_past}
use Rattle.month_refusals.specs.declared.Refusal.{Refusal}
use Rattle.month_refusals.specs.declared.Refusal.TheVariants.{Length, Rows, Form}
use Rattle.month_refusals.specs.Refusals.{limit_reached, activity_outside, soil_asked, weather_asked, land_asked, carbon_asked, entries_asked}
use Rattle.month_refusals.specs.Refusals.{soil_check, weather_check, entries_check}
use Rattle.month_refusals.proofs.First.{finds_own, first-append}
use Rattle.month_call.specs.Month.{outcome_of, list_month}
use Rattle.list_run.specs.Run.{ListAnswer, Left, months}
use Rattle.list_run.proofs.Months as courses
use Rattle.list_run.proofs.Months.{Course, course}
use Rattle.list_run.proofs.ListCalls.{done_months}
use Rattle.list_run.proofs.Laws.{same_refused}
use Rattle.book_lines.specs.declared.SoilNumbers.{SoilNumbers}
use Rattle.book_lines.specs.Lines.{head_line, soil_line, land_line}
use Rattle.book_lines.proofs.Laws.{head_read, soil_read}
use Rattle.book_rows.specs.Rows.{land_of, as_land, land_row, land_gives, RowsRead, row_then, read_rows, read_weather, read_land}
use Rattle.book_run.specs.Book.{BookAnswer, soil_then, soil_section, book_of, BookLeft, refused_on, soil_name, weather_name, land_name, not_one}
use Rattle.book_run.specs.Book.{bad_count, headed, ending, after_rows, after_months, land_months, land_section, land_head, weather_then}
use Rattle.book_run.specs.Book.{weather_section, weather_head, soil_of, soil_checked}
use Rattle.book_run.proofs.Laws.{good-count, head_tested}
use Rattle.book_rows.specs.RowText.{Each, none, more, Counted}
use Rattle.book_rows.proofs.RowKinds.{plain_lines, LinesAre, written, other, rows_only, rows-length, rows-most}
use Rattle.book_laws.specs.BookText.{weather_line_of, land_line_of, book_text, LandValues, WeatherSound, Written, list_of}
use Rattle.book_laws.specs.Numbers.{refuses_book}
use Rattle.book_laws.proofs.Rows.{weather-kind, land-kind}
use Rattle.book_laws.proofs.RoundTrip.{round_trip}

-- ---- the weather of the months

-- There is weather, and every row of it passes 13, 14 and 19.
record AllPass (weather : List ℤ) : Type 0 where
  some : 0 < weather_rows weather
  each : (i : ℕ) → i < weather_rows weather → weather_check (weather_from weather (weather_width * i)) ≡ Ok tt

-- So every month's weather does.
month-passes : (weather land : List ℤ) (j : ℕ) → AllPass weather → weather_check (entries_at weather land j).weather ≡ Ok tt
unfolding entries_at
month-passes weather land j all = all.each (j % weather_rows weather) (mod-lt j all.some)

-- The rows of a book's weather are such.
row-passes :
    {xs : List Weather} → Each WeatherSound xs → (i : ℕ) → i < length xs
    → weather_check (weather_from (flat_map weather_numbers xs) (weather_width * i)) ≡ Ok tt
unfolding flat_map
row-passes none i h = absurd (omega arith)
row-passes (more {x} {xs} sound later) zero h = rw (weather-back [] (flat_map weather_numbers xs) x) sound.passes
row-passes (more {x} {xs} sound later) (suc i) h =
    let next : weather_width * suc i ≡ length (weather_numbers x) + weather_width * i = omega (arith, weather_of_length x) in
    rw (next, weather_past (weather_numbers x) (flat_map weather_numbers xs) (weather_width * i)) (row-passes later i (omega arith))

all_pass_lem : (xs : List Weather) → Counted (length xs) → Each WeatherSound xs → AllPass (flat_map weather_numbers xs)
all_pass_lem xs counted sound =
    let rows : weather_rows (flat_map weather_numbers xs) ≡ length xs = omega (arith, rows-length weather-kind xs) in
    record { some = omega (arith, counted.least); each = λ i h. row-passes sound i (omega arith) }

-- ---- the activity of the land

-- Every row passes 21, and so does what is read past the last: 0.
record Fresh (land : List ℤ) : Type 0 where
  each : (i : ℕ) → activity_outside (land_from land (land_width * i)) ≡ false

month_fresh : (weather land : List ℤ) (j : ℕ) → Fresh land → activity_outside (entries_at weather land j).land ≡ false
unfolding entries_at
month_fresh weather land j fresh = fresh.each j

none_fresh : (i : ℕ) → activity_outside (land_from [] (land_width * i)) ≡ false
unfolding activity_outside land_from
none_fresh i = refl

-- A row of activity 1000, which 21 passes, before such rows.
row_fresh : (l : Land) (later : List ℤ) → activity_outside l ≡ false → Fresh later → Fresh (land_numbers l ++ later)
row_fresh l later own fresh = record { each = at }
  where
    at : (i : ℕ) → activity_outside (land_from (land_numbers l ++ later) (land_width * i)) ≡ false
    at zero = rw (land-back [] later l) own
    at (suc i) =
        let next : land_width * suc i ≡ length (land_numbers l) + land_width * i = omega (arith, land_of_length l) in
        rw (next, land_past (land_numbers l) later (land_width * i)) (fresh.each i)

-- The rows of a book's land, as many as are read, are such.
then_fresh :
    (row : Option (LandNumbers × ℕ)) (line : ℕ) (later : ℕ → RowsRead) → ((next : ℕ) → Fresh (later next).numbers)
    → Fresh (row_then (land_gives (as_land row)) line later).numbers
unfolding activity_outside
then_fresh (Some (n, next)) line later fresh =
    row_fresh (land_of n.cover n.plant n.manure) (later next).numbers refl (fresh next)
then_fresh None line later fresh = record { each = none_fresh }

land_fresh : (count : ℕ) (s : List ℕ) (at line : ℕ) → Fresh (read_land count s at line).numbers
unfolding read_land read_rows land_row
land_fresh zero s at line = record { each = none_fresh }
land_fresh (suc count) s at line = then_fresh (land_line s at) line _ (λ next. land_fresh count s next (suc line))

-- ---- the months

-- A month that 12, 13, 14, 19 and 21 let pass is refused by one of 15 to 17, ..
entries_find :
    {r : Refusal} (s : State) (e : Entries) → s.months < month_limit → weather_check e.weather ≡ Ok tt
    → activity_outside e.land ≡ false → entries_check s e ≡ Err r → refuses_book r ≡ true
unfolding first_of entries_asked limit_reached carbon_asked land_asked
entries_find s e few passes fresh h =
    finds_own refuses_book (carbon_asked s e.land) (rw fresh refl)
    (rw (lt-leb month_limit s.months few, first-append (weather_asked e.weather) (carbon_asked s e.land), passes) at h)

month_finds :
    {r : Refusal} (s : State) (e : Entries) → s.months < month_limit → weather_check e.weather ≡ Ok tt
    → activity_outside e.land ≡ false → (list_month s e).answer ≡ Err r → refuses_book r ≡ true
unfolding list_month outcome_of
month_finds {r} s e few passes fresh h = entries_find s e few passes fresh (by_check (entries_check s e) h)
  where
    by_check : (check : Check) → (outcome_of check s e).answer ≡ Err r → check ≡ Err r
    by_check (Ok _) h = absurd (let z : ◌≡◌ {A = ℕ} 0 1 = cc in omega arith)
    by_check (Err reason) h = cc

-- .. and so are months that don't come to 12.
months_find :
    {weather land : List ℤ} {left j : ℕ} {s : State} {out : List ℕ} {end : Left} {r : Refusal} {place : ℕ}
    → AllPass weather → Fresh land → Course weather land left j s out end → s.months + left ≤ month_limit
    → end.outcome.answer ≡ Err (r on place) → refuses_book r ≡ true
months_find all fresh courses.finished few h = absurd (let z : ◌≡◌ {A = ℕ} 0 1 = cc in omega arith)
months_find {weather} {land} {j} {s} {r} all fresh (courses.refused reason e) few h =
    let same : reason ≡ r = (same_refused h).0 in
    month_finds s (entries_at weather land j) (omega arith) (month-passes weather land j all) (month_fresh weather land j fresh)
    (e ∙ ap Err same)
months_find {weather} {land} {j} {s} all fresh (courses.month row e later) few h =
    months_find all fresh later (omega (arith, done_months s (entries_at weather land j) row e)) h

list_finds :
    {r : Refusal} {place : ℕ} (soil : Soil) (weather land : List ℤ) (rows : List ℕ) → AllPass weather → Fresh land
    → length land ≤ land_width * 1200
    → (months (land_rows land) weather land 0 (new_state soil) rows).outcome.answer ≡ Err (r on place) → refuses_book r ≡ true
unfolding new_state
list_finds soil weather land rows all fresh few h =
    months_find all fresh (course weather land (land_rows land) 0 (new_state soil) rows) (omega arith) h

-- ---- how a book ends

-- It finishes, being written so, or is refused by one of the numbers.
data Ends (s : List ℕ) : BookAnswer → Type 0 where
  finished :
      {months : ℕ} {pools co2 : Grams} → Counted months → Written s → Ends s (Ok (record { months = months; total = pools; co2 = co2 }))
  refused : {r : Refusal} {line : ℕ} → refuses_book r ≡ true → Ends s (Err (r on line))

module _ (s : List ℕ) where
  -- By a test, a head, ..
  by_test :
      (test : Bool) (r : Refusal) (line : ℕ) (rows : List ℕ) (later : BookLeft) → refuses_book r ≡ true
      → (test ≡ false → Ends s later.answer) → Ends s (cond test (refused_on r line rows) later).answer
  by_test true r line rows later own rest = refused own
  by_test false r line rows later own rest = rest refl

  by_head :
      (head : Option (ℕ × ℕ)) (bad : ℕ → Bool) (line : ℕ) (rows : List ℕ) (later : ℕ → ℕ → BookLeft)
      → ((count next : ℕ) → head ≡ Some (count, next) → bad count ≡ false → Ends s (later count next).answer)
      → Ends s (headed head bad line rows later).answer
  by_head (Some (count, next)) bad line rows later rest =
      rw (head_tested (bad count) line count next rows later)
      (by_test (bad count) Rows line rows (later count next) refl (λ good. rest count next refl good))
  by_head None bad line rows later rest = refused refl

  -- .. the soil, ..
  by_check :
      (x : SoilNumbers) (check : Check) (rows : List ℕ) (later : BookLeft) → soil_check (soil_of x) ≡ check
      → (check ≡ Ok tt → Ends s later.answer) → Ends s (soil_checked check rows later).answer
  unfolding soil_asked
  by_check x (Ok _) rows later is rest = rest refl
  by_check x (Err r) rows later is rest = refused (finds_own refuses_book (soil_asked (soil_of x)) refl is)

  by_soil :
      (line : Option (SoilNumbers × ℕ)) (rows : List ℕ) (later : State → ℕ → BookLeft)
      → ((x : SoilNumbers) (next : ℕ) → line ≡ Some (x, next) → soil_check (soil_of x) ≡ Ok tt
      → Ends s (later (new_state (soil_of x)) next).answer)
      → Ends s (soil_then line rows later).answer
  by_soil (Some (x, next)) rows later rest =
      by_check x (soil_check (soil_of x)) rows (later (new_state (soil_of x)) next) refl (λ pass. rest x next refl pass)
  by_soil None rows later rest = refused refl

  -- .. the weather, ..
  by_weather :
      {count at : ℕ} {read : RowsRead} (rows : List ℕ) (later : List ℤ → ℕ → BookLeft)
      → LinesAre (λ n. weather_line_of) weather_numbers WeatherSound refuses_book count s at 4 read
      → ((xs : List Weather) (next : ℕ) → length xs ≡ count → Each WeatherSound xs
      → drop at s ≡ flat_map weather_line_of xs ++ drop next s → Ends s (later (flat_map weather_numbers xs) next).answer)
      → Ends s (weather_then read.ends rows (later read.numbers)).answer
  by_weather rows later (written {end} xs size sound text) rest =
      rest xs end size sound (text ∙ ap (λ (l : List ℕ). l ++ drop end s) (plain_lines weather_line_of 4 xs))
  by_weather rows later (other own) rest = refused own

  -- .. the months, and the land with the end of the text.
  by_months :
      (answer : ListAnswer) (head : ℕ) (later : BookAnswer)
      → ((r : Refusal) (place : ℕ) → answer ≡ Err (r on place) → refuses_book r ≡ true)
      → Ends s later → Ends s (after_months answer head later)
  by_months (Ok _) head later find rest = rest
  by_months (Err e) head later find rest = refused (find e.refusal e.place refl)

  by_end :
      (test : Bool) (place line months : ℕ) (pools co2 : Grams) → eqb place (length s) ≡ test
      → (drop place s ≡ [] → Ends s (Ok (record { months = months; total = pools; co2 = co2 })))
      → Ends s (cond test (Ok (record { months = months; total = pools; co2 = co2 })) (Err (Form on line)))
  by_end true place line months pools co2 is rest = rest (rw (eqb-true place (length s) is) (drop-length s))
  by_end false place line months pools co2 is rest = refused refl

  by_land :
      {count at number : ℕ} {read : RowsRead} (line : ℕ) (state : State) → Counted count
      → LinesAre (λ n. land_line_of) land_numbers LandValues refuses_book count s at number read
      → ((xs : List Land) → length xs ≡ count → Each LandValues xs → drop at s ≡ flat_map land_line_of xs → Written s)
      → Ends s (after_rows read.ends s line count state)
  unfolding ending
  by_land {number} line state counted (written {end} xs size values text) rest =
      by_end (eqb end (length s)) end line _ _ _ refl
      (λ ends. finished counted
      (rest xs size values (text ∙ rw (ends, plain_lines land_line_of number xs) (append-nil (flat_map land_line_of xs)))))
  by_land line state counted (other own) rest = refused own

  land-ends :
      (soil : Soil) (count at head : ℕ) (weather : List ℤ) (rows : List ℕ) → AllPass weather → Counted count
      → ((xs : List Land) → length xs ≡ count → Each LandValues xs → drop at s ≡ flat_map land_line_of xs → Written s)
      → Ends s (land_section count s at head weather (new_state soil) rows).answer
  unfolding land_section read_land
  land-ends soil count at head weather rows all counted rest =
      let land = read_land count s at (head + 1) in
      let few : length land.numbers ≤ land_width * 1200 = omega (arith, counted.most, rows-most land-kind count s at (head + 1)) in
      let left = land_months land weather (new_state soil) rows in
      by_months left.outcome.answer head _ (λ r place h. list_finds soil weather land.numbers rows all (land_fresh count s at (head + 1)) few h)
      (by_land (head + 1 + count) left.outcome.state counted (rows_only land-kind count s at (head + 1)) rest)

book_ends : (s rows : List ℕ) → Ends s (book_of s rows).answer
unfolding book_of soil_section weather_head weather_section land_head read_weather book_text
book_ends s rows =
    by_test s (ltb 65536 (length s)) Length 0 rows _ refl (λ short.
    by_head s (head_line s 0 soil_name) not_one 1 rows _ (λ one at-soil soil_head is_one.
    by_soil s (soil_line s at-soil) rows _ (λ x at-weather-head soil pass.
    by_head s (head_line s at-weather-head weather_name) bad_count 3 rows _ (λ m at-weather weather_head_lem good-m.
    by_weather s rows (λ numbers next. land_head s next (m + 4) numbers (new_state (soil_of x)) rows)
    (rows_only weather-kind m s at-weather 4) (λ weather at-land-head weather_count sound weather-text.
    by_head s (head_line s at-land-head land_name) bad_count (m + 4) rows _ (λ n at-land land_head_lem good-n.
    let counted = good-count n good-n in
    let all = all_pass_lem weather (rw weather_count (good-count m good-m)) sound in
    land-ends s (soil_of x) n at-land (m + 4) (flat_map weather_numbers weather) rows all counted (λ land land_count values land-text.
    let single : one ≡ 1 = eqb-true one 1 (not-false _ is_one) in
    record {
      numbers = record { soil = x; weather = weather; land = land };
      good =
          record {
            soil = pass;
            weather_count = rw weather_count (good-count m good-m);
            weather = sound;
            land_count = rw land_count counted;
            land = values;
          };
      text =
          rw (
            single,
            (soil_read s at-soil x at-weather-head soil).text,
            (head_read s at-weather-head weather_name m at-weather weather_head_lem).text,
            weather-text,
            (head_read s at-land-head land_name n at-land land_head_lem).text,
            land-text,
            ← weather_count,
            ← land_count,
          ) at (head_read s 0 soil_name one at-soil soil_head).text;
    })))))))

-- ---- a book that finishes

module _ {months : ℕ} {pools co2 : Grams} (s rows : List ℕ)
    (h : (book_of s rows).answer ≡ Ok (record { months = months; total = pools; co2 = co2 }))
  where
    found : Counted months × Written s
    found = of_ends (rw h at (book_ends s rows))
      where
        of_ends : Ends s (Ok (record { months = months; total = pools; co2 = co2 })) → Counted months × Written s
        of_ends (finished counted text) = (counted, text)

    pub book_written : Written s
    book_written = found.1

    -- It ran as step 7's list of its numbers: the answer and every row are the list's; ..
    pub finished_runs : book_of s rows ≡ list_of book_written.numbers rows
    finished_runs =
        ap (λ (l : List ℕ). book_of l rows) book_written.text ∙ round_trip book_written.numbers rows book_written.good

    -- .. from 1 to 1,200 months.
    pub finished-count : Counted months
    finished-count = found.0

-- ---- a book that is refused

-- 8 to 12 and 18 to 22 never refuse it.
pub book_numbers :
    (s rows : List ℕ) (refusal : Refusal) (line : ℕ) → (book_of s rows).answer ≡ Err (refusal on line) → refuses_book refusal ≡ true
book_numbers s rows refusal line h = of_ends (rw h at (book_ends s rows))
  where
    of_ends : Ends s (Err (refusal on line)) → refuses_book refusal ≡ true
    of_ends (refused own) = own
