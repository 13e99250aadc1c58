-- Laws of rows, once for any kind of row and width: the first row and the later ones, how many numbers are read, and the
-- slice that they are put in. Then the two kinds, and the values of their lines.
-- Assumes nothing.
use Rattle.std.specs.Prelude.{Option, Some, None, Result, Ok, Err}
use Rattle.std.specs.Option.{ok_or}
use Rattle.std.specs.Result.{result_ok}
use Rattle.month_refusals.specs.Asked.{◌on◌}
use mathlib.Core.Path.{◌≡◌, refl, sym, ◌∙◌, ap}
use mathlib.Core.List.{List, [], ◌++◌, append-nil, append_assoc}
use Prim.Native.Nat.{ℕ, zero, suc, ◌+◌, ◌-◌, ◌*◌, ◌≤◌, ◌<◌, ◌^◌}
use native.Mathlib.Nat.{add-suc, sub-zero, add-zero, mul-zero, mul-le-mul_left}
use native.Mathlib.Numerals.{add-one}
use native.Mathlib.Omega.{arith}
use lib.IntN.{ℤ, pos}
use mir.Syntax.{w64}
use mir.Val.{SFits, to_z, of_z}
use mir.Facts.{to_z_pos, to_z-of_z}
use lib.ListN.{length, take, drop, length-append, drop_of_length-le, take-append-drop}
use lib.Seq.{sets, length-sets, length-take-le, take_at, drop-drop}
use Rattle.month_state.proofs.Counting.{sub-suc, none_left}
use Rattle.list_rows.specs.Rows.{weather_width, land_width}
use Rattle.month_layouts.proofs.Layouts.{put_taken, put_dropped}
use Rattle.list_rows.proofs.Layouts.{weather_of_length, land_of_length}
use Rattle.month_refusals.specs.declared.Refusal.{Refusal}
use Rattle.book_lines.specs.declared.WeatherNumbers.{WeatherNumbers}
use Rattle.book_lines.specs.declared.LandNumbers.{LandNumbers}
use Rattle.book_lines.specs.Lines.{weather_line, land_line}
use Rattle.book_lines.proofs.Laws.{weather_read, land_read}
use Rattle.book_rows.specs.Rows.{RowsEnd, WeatherRow, LandRow, RowsRead, row_then, read_rows, begun_with, read_weather, read_land}
use Rattle.book_rows.specs.Rows.{weather_for, land_of, LineFits, weather_row, land_row, RowGives, numbers, refused, weather_gives, land_gives}

-- ---- numbers that fit

-- The values of a line that was read fit 64 bits with a sign.
pub weather_fits : (s : List ℕ) (place : ℕ) → LineFits (weather_line s place)
weather_fits s place =
    record {
      values = λ n next h.
          let read = weather_read s place n next h in
          (omega (arith, read.rain_below), omega (arith, read.evaporation_below));
    }

pub land_fits :
    (s : List ℕ) (place : ℕ) (n : LandNumbers) (next : ℕ) → land_line s place ≡ Some (n, next)
    → (n.cover < 2 ^ 63) × (n.plant < 2 ^ 63) × (n.manure < 2 ^ 63)
land_fits s place n next h =
    let read = land_read s place n next h in
    (omega (arith, read.cover-below), omega (arith, read.plant-below), omega (arith, read.manure-below))

-- What `ok_or` gives of a line: a line that it lets by is there, ..
pub line_there :
    {A E : Type 0} (line : Option A) (malformed : E) {given : Result A E} {x : A} → given ≡ ok_or line malformed → given ≡ Ok x
    → line ≡ Some x
line_there (Some y) malformed made is = ap result_ok (sym made ∙ is)
line_there None malformed made is = ap result_ok (sym made ∙ is)

abbrev pub error_or : {A E : Type 0} → E → Result A E → E
error_or e₀ (Ok x) = e₀
error_or e₀ (Err e) = e

-- .. and one that it refuses isn't.
pub line_missing :
    {A E : Type 0} (line : Option A) (malformed : E) {given : Result A E} {e : E} → given ≡ ok_or line malformed → given ≡ Err e
    → (line ≡ None) × (malformed ≡ e)
line_missing (Some y) malformed made is = (ap result_ok (sym made ∙ is), ap (error_or malformed) (sym made ∙ is))
line_missing None malformed made is = (ap result_ok (sym made ∙ is), ap (error_or malformed) (sym made ∙ is))

-- Numbers of a line go into its row as bits, which are read back.
abbrev pub bits : ℤ → ℤ
bits z = to_z w64 (of_z w64 z)

pub weather_bits :
    (source : ℤ) (n : WeatherNumbers) → SFits w64 source → SFits w64 n.temperature → (n.rain < 2 ^ 63) × (n.evaporation < 2 ^ 63)
    → record { temperature = bits n.temperature; rain = to_z w64 n.rain; evaporation = to_z w64 n.evaporation; source = bits source }
    ≡ weather_for source n.temperature n.rain n.evaporation
weather_bits source n known warm fits =
    λ i. record {
      temperature = to_z-of_z {w = w64} warm i;
      rain = to_z_pos w64 fits.0 i;
      evaporation = to_z_pos w64 fits.1 i;
      source = to_z-of_z {w = w64} known i;
    }

pub land_bits :
    (n : LandNumbers) → (n.cover < 2 ^ 63) × (n.plant < 2 ^ 63) × (n.manure < 2 ^ 63)
    → record { cover = to_z w64 n.cover; plant = to_z w64 n.plant; manure = to_z w64 n.manure; activity = pos 1000 }
    ≡ land_of n.cover n.plant n.manure
land_bits n fits =
    λ i. record {
      cover = to_z_pos w64 fits.0 i;
      plant = to_z_pos w64 fits.1 i;
      manure = to_z_pos w64 fits.2 i;
      activity = pos 1000;
    }

-- ---- the first row and the later ones

-- Numbers before those that reading gives.
abbrev pub before : List ℤ → RowsRead → RowsRead
before some later = record { numbers = some ++ later.numbers; ends = later.ends }

-- Nothing read, and how it ends.
abbrev pub nothing_read : RowsEnd → RowsRead
nothing_read end = record { numbers = []; ends = end }

module _ (row : List ℕ → ℕ → ℕ → RowGives) (left : ℕ) (s : List ℕ) (place line : ℕ) where
  pub row-refused :
      (refusal : Refusal) → row s place line ≡ refused refusal
      → read_rows row (suc left) s place line ≡ nothing_read (Err (refusal on line))
  unfolding read_rows
  row-refused refusal h = rw h

  pub row_then_lem :
      (found : List ℤ) (next : ℕ) → row s place line ≡ numbers found next
      → read_rows row (suc left) s place line ≡ before found (read_rows row left s next (suc line))
  unfolding read_rows
  row_then_lem found next h = rw h

-- ---- how many numbers are read

-- What a row gives has so many numbers.
pub data Wide (width : ℕ) : RowGives → Type 0 where
  wide : {found : List ℤ} {next : ℕ} → length found ≡ width → Wide width (numbers found next)
  none : {refusal : Refusal} → Wide width (refused refusal)

-- Numbers of at most so many rows.
pub record RowsOf (width left : ℕ) (found : List ℤ) : Type 0 where
  pub rows : ℕ
  pub most : rows ≤ left
  pub size : length found ≡ width * rows

module _ (width : ℕ) where
  some_then :
      (given : RowGives) (line left : ℕ) (later : ℕ → RowsRead) → Wide width given
      → ((next : ℕ) → RowsOf width left (later next).numbers) → RowsOf width (suc left) (row_then given line later).numbers
  some_then (numbers found next) line left later (wide is) rest =
      record {
        rows = suc (rest next).rows;
        most = omega (arith, (rest next).most);
        size = simp length-append (omega (arith, is, (rest next).size));
      }
  some_then (refused refusal) line left later none rest = record { rows = 0; most = omega arith; size = rw mul-zero }

  full_then :
      (given : RowGives) (line left end : ℕ) (later : ℕ → RowsRead) → Wide width given
      → ((next : ℕ) → (later next).ends ≡ Ok end → length (later next).numbers ≡ width * left)
      → (row_then given line later).ends ≡ Ok end → length (row_then given line later).numbers ≡ width * suc left
  full_then (numbers found next) line left end later (wide is) rest h =
      simp length-append (omega (arith, is, rest next h))
  full_then (refused refusal) line left end later none rest h = absurd (let z : ◌≡◌ {A = ℕ} 0 1 = cc in omega arith)

  module _
      (row : List ℕ → ℕ → ℕ → RowGives)
      (all-wide : (s : List ℕ) (place line : ℕ) → Wide width (row s place line))
    where
      -- They are those of whole rows, as many as were asked for at most; ..
      pub some : (left : ℕ) (s : List ℕ) (place line : ℕ) → RowsOf width left (read_rows row left s place line).numbers
      unfolding read_rows
      some zero s place line = record { rows = 0; most = omega arith; size = rw mul-zero }
      some (suc left) s place line =
          some_then (row s place line) line left _ (all-wide s place line) (λ next. some left s next (suc line))

      -- .. where reading ends with the next line, of all of them.
      pub full :
          (left : ℕ) (s : List ℕ) (place line end : ℕ) → (read_rows row left s place line).ends ≡ Ok end
          → length (read_rows row left s place line).numbers ≡ width * left
      unfolding read_rows
      full zero s place line end h = rw mul-zero
      full (suc left) s place line end h =
          full_then (row s place line) line left end _ (all-wide s place line) (λ next e. full left s next (suc line) end e) h

-- ---- the slice that begins with them

-- A slice of as many numbers, begun with them, is those numbers; ..
pub whole_slice : (slice found : List ℤ) → length found ≡ length slice → begun_with slice found ≡ found
whole_slice slice found h =
    let past : length slice ≤ length found = omega (arith, h) in
    ap (λ (l : List ℤ). found ++ l) (drop_of_length-le slice past) ∙ append-nil found

-- .. so is the front of a slice that begins with them, ..
pub front : (slice found : List ℤ) (n : ℕ) → length found ≡ n → take n (begun_with slice found) ≡ found
front slice found n size = take_at found (drop (length found) slice) n size

-- .. and that of a slice whose front was begun with them.
pub front_begun :
    (n : ℕ) (slice part found : List ℤ) → length found ≡ n → n ≤ length slice → part ≡ begun_with (take n slice) found
    → take n (part ++ drop n slice) ≡ found
front_begun n slice part found size room is =
    let same : part ≡ found = is ∙ whole_slice (take n slice) found (size ∙ sym (length-take-le n slice room)) in
    rw same (take_at found (drop n slice) n size)

-- ---- rows that are put in a slice one by one

-- After i rows: the slice's numbers up to there, before what the rows that are left give, are the whole; those after them are as
-- they were.
pub record Reading
    (row : List ℕ → ℕ → ℕ → RowGives)
    (width : ℕ)
    (s : List ℕ)
    (place line count : ℕ)
    (slice₀ slice : List ℤ)
    (next i : ℕ)
    : Type 0 where
  pub turn : i ≤ count
  pub size : length slice ≡ length slice₀
  pub room : width * count ≤ length slice
  pub kept : drop (width * i) slice ≡ drop (width * i) slice₀
  pub whole : before (take (width * i) slice) (read_rows row (count - i) s next (line + i)) ≡ read_rows row count s place line

-- Where reading ends: the rows that were read, how it ends, and the slice.
abbrev pub Ended : (List ℕ → ℕ → ℕ → RowGives) → ℕ → List ℕ → ℕ → ℕ → ℕ → List ℤ → List ℤ → ℕ → RowsEnd → Type 0
Ended row width s place line count slice₀ slice i end =
    (width * i ≡ length (read_rows row count s place line).numbers)
    × ((end ≡ (read_rows row count s place line).ends)
    × (slice ≡ begun_with slice₀ (read_rows row count s place line).numbers))

rows_room : (width i count : ℕ) → i < count → width * i + width ≤ width * count
rows_room width i count h = omega (arith, mul-le-mul_left width h)

module _ {row : List ℕ → ℕ → ℕ → RowGives} {width : ℕ} {s : List ℕ} {place line count : ℕ} where
  -- Before the first row, ..
  pub begins : (slice : List ℤ) → width * count ≤ length slice → Reading row width s place line count slice slice place 0
  begins slice room =
      record { turn = omega arith; size = refl; room = room; kept = refl; whole = rw (mul-zero, sub-zero, add-zero) }

  module _ {slice₀ slice : List ℤ} {next i : ℕ} (reading : Reading row width s place line count slice₀ slice next i) where
    pub room_here : i < count → width * i + width ≤ length slice
    room_here more = omega (arith, rows_room width i count more, reading.room)

    -- .. after one more that is put in its place, ..
    pub row_put :
        {found slice' : List ℤ} {after : ℕ} → i < count → row s next (line + i) ≡ numbers found after → length found ≡ width
        → slice' ≡ sets slice (width * i) found → Reading row width s place line count slice₀ slice' after (i + 1)
    row_put {found} {slice'} {after} more is long puts =
        let room : width * i + width ≤ length slice = room_here more in
        let same : length (sets slice (width * i) found) ≡ length slice = length-sets slice (width * i) found in
        let wider : width * i + width ≡ width * suc i = omega arith in
        let later : RowsRead = read_rows row (count - suc i) s after (suc (line + i)) in
        let left : read_rows row (count - i) s next (line + i) ≡ before found later =
        rw (sub-suc more) (row_then_lem row (count - suc i) s next (line + i) found after is) in
        rw (puts, add-one)
        (record {
          turn = omega arith;
          size = same ∙ reading.size;
          room = omega (arith, same, reading.room);
          kept =
              put_dropped width slice i found long room ∙ sym (drop-drop width (width * i) slice)
              ∙ ap (drop width) reading.kept ∙ drop-drop width (width * i) slice₀ ∙ ap (λ (n : ℕ). drop n slice₀) wider;
          whole =
              rw add-suc
              (ap (λ (l : List ℤ). before l later) (put_taken width slice i found long room)
              ∙ ap (λ (l : List ℤ). record { numbers = l; ends = later.ends })
              (append_assoc (take (width * i) slice) found later.numbers)
              ∙ sym (ap (before (take (width * i) slice)) left) ∙ reading.whole);
        })

    -- .. and where it ends: ..
    ends-here :
        {end : RowsEnd} → read_rows row (count - i) s next (line + i) ≡ nothing_read end
        → Ended row width s place line count slice₀ slice i end
    ends-here {end} here =
        let whole : record { numbers = take (width * i) slice ++ []; ends = end } ≡ read_rows row count s place line =
        sym (ap (before (take (width * i) slice)) here) ∙ reading.whole in
        let inside : width * i ≤ length slice = omega (arith, mul-le-mul_left width reading.turn, reading.room) in
        rw (← whole, append-nil, length-take-le (width * i) slice inside, ← reading.kept)
        (refl, (refl, sym (take-append-drop (width * i) slice)))

    -- with a row that is refused, ..
    pub ends-refused :
        {refusal : Refusal} → i < count → row s next (line + i) ≡ refused refusal
        → Ended row width s place line count slice₀ slice i (Err (refusal on (line + i)))
    ends-refused {refusal} more is =
        ends-here (rw (sub-suc more) (row-refused row (count - suc i) s next (line + i) refusal is))

    -- or after the last one.
    pub ends_next : count ≤ i → Ended row width s place line count slice₀ slice i (Ok next)
    unfolding read_rows
    ends_next over = ends-here (rw (none_left over))

-- ---- the two kinds

abbrev pub weather_at : List ℕ → ℕ → ℕ → RowGives
weather_at s place line = weather_gives (weather_row s place)

abbrev pub land_at : List ℕ → ℕ → ℕ → RowGives
land_at s place line = land_gives (land_row s place)

pub weather_wide : (row : WeatherRow) → Wide weather_width (weather_gives row)
weather_wide (Ok (w, next)) = wide (weather_of_length w)
weather_wide (Err refusal) = none

land_wide : (row : LandRow) → Wide land_width (land_gives row)
land_wide (Ok (l, next)) = wide (land_of_length l)
land_wide (Err refusal) = none

-- Weather that is read to its end has all its rows, ..
pub weather_full :
    (count : ℕ) (s : List ℕ) (place line end : ℕ) → (read_weather count s place line).ends ≡ Ok end
    → length (read_weather count s place line).numbers ≡ weather_width * count
unfolding read_weather
weather_full count s place line end h =
    full weather_width weather_at (λ s place line. weather_wide (weather_row s place)) count s place line end h

-- Land that is refused has some.
pub land_some : (count : ℕ) (s : List ℕ) (place line : ℕ) → RowsOf land_width count (read_land count s place line).numbers
unfolding read_land
land_some count s place line = some land_width land_at (λ s place line. land_wide (land_row s place)) count s place line
