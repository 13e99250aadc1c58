-- Rows of a book's section, of either kind: as they are written they are read back, and what was read is what would be
-- written.
-- Assumes nothing.
use Rattle.std.specs.Prelude.{Option, Some, None, Ok}
use Rattle.book_lines.specs.declared.LandNumbers.{LandNumbers}
use mathlib.Core.Path.{◌≡◌, refl, sym, ◌∙◌, ap}
use mathlib.Core.List.{List, [], ◌++◌, flat_map}
use Prim.Native.Nat.{ℕ, ◌+◌, ◌^◌, ◌≤◌, ◌<◌}
use native.Mathlib.Omega.{arith}
use lib.IntN.{ℤ, pos, nat_abs}
use lib.ListN.{length, drop}
use Rattle.month_state.specs.declared.Land.{Land}
use Rattle.list_rows.specs.Rows.{weather_width, land_width, land_from, weather_numbers, land_numbers}
use Rattle.list_rows.proofs.Layouts.{land_of_length, land-back}
use Rattle.month_refusals.specs.declared.Refusal.TheVariants.{Form}
use Rattle.month_refusals.specs.Refusals.{source_outside, weather_asked}
use Rattle.book_lines.specs.Lines.{weather_line, land_line}
use Rattle.book_lines.proofs.Laws.{weather_round, weather_read, land_round, land_read}
use Rattle.book_lines.specs.LineText.{weather_text}
use Rattle.book_rows.specs.Rows.{weather_row, as_land, land_row, RowGives, numbers, weather_gives, land_gives, read_rows}
use Rattle.book_rows.specs.RowText.{Each}
use Rattle.book_rows.proofs.RowKinds.{plain_lines, LineIs, written, other, Kind, rows_back, WeatherText, weather-rows}
use Rattle.book_laws.specs.BookText.{weather_line_of, land_line_of, LandValues, WeatherSound}
use Rattle.book_laws.specs.Numbers.{refuses_book}

-- A book's lines have no number in them: as they are written they are read back.
pub plain_back :
    {Row : Type 0} {width : ℕ} {row : List ℕ → ℕ → ℕ → RowGives} {line : Row → List ℕ} {values : Row → List ℤ} {Good : Row → Type 0}
    {xs : List Row} (kind : Kind width row (λ number. line) values Good refuses_book) (s : List ℕ) (at number : ℕ) (rest : List ℕ)
    → number + length xs ≤ 10 ^ 10 → Each Good xs → drop at s ≡ flat_map line xs ++ rest
    → ((read_rows row (length xs) s at number).numbers ≡ flat_map values xs)
    × ((read_rows row (length xs) s at number).ends ≡ Ok (at + length (flat_map line xs)))
plain_back {line} {xs} kind s at number rest few good e =
    rw (plain_lines line number xs) at
    (rows_back kind s at number rest few good (e ∙ ap (λ (l : List ℕ). l ++ rest) (sym (plain_lines line number xs))))

-- ---- weather rows

weather-text : WeatherText Form (pos 0) (λ s at number. weather_line s at) (λ number. weather_text) refuses_book
unfolding weather_asked source_outside
weather-text =
    record {
      reads = λ s at number temperature rain evaporation next e.
          (weather_read s at (record { temperature = temperature; rain = rain; evaporation = evaporation }) next e).text;
      rounds = λ s at number temperature rain evaporation rest few t r v e.
          weather_round temperature rain evaporation s at rest (omega arith) (omega arith) (omega arith) e;
      form = refl;
      asked = λ temperature rain evaporation. refl;
    }

pub weather-kind :
    Kind weather_width (λ text at number. weather_gives (weather_row text at)) (λ n. weather_line_of) weather_numbers WeatherSound refuses_book
unfolding weather_row
weather-kind = weather-rows weather-text

-- ---- land rows

land_written_lem :
    (l : Land) (s : List ℕ) (at number : ℕ) (rest : List ℕ) → number < 10 ^ 10 → LandValues l → drop at s ≡ land_line_of l ++ rest
    → land_gives (land_row s at) ≡ numbers (land_numbers l) (at + length (land_line_of l))
unfolding land_row
land_written_lem l s at number rest few v e =
    rw (
      land_round (nat_abs l.cover) (nat_abs l.plant) (nat_abs l.manure) s at rest v.cover v.plant
          v.manure e,
      v.of_line,
    )

land_by : (s : List ℕ) (at number : ℕ) (read : Option (LandNumbers × ℕ)) → land_line s at ≡ read
    → LineIs (λ n. land_line_of) land_numbers LandValues refuses_book s at number (land_gives (as_land read))
land_by s at number (Some (n, next)) e =
    let read = land_read s at n next e in
    written
    (record {
      of_line = refl;
      cover = read.cover-below;
      plant = read.plant-below;
      manure = read.manure-below;
    })
    read.text
land_by s at number None e = other refl

pub land-kind : Kind land_width (λ text at number. land_gives (land_row text at)) (λ n. land_line_of) land_numbers LandValues refuses_book
unfolding land_row land_numbers
land-kind =
    record {
      back = land_written_lem;
      only = λ s at number. land_by s at number (land_line s at) refl;
      wide = land_of_length;
      same = λ l m rest rest' e.
          (sym (land-back [] rest l) ∙ ap (λ (n : List ℤ). land_from n 0) e ∙ land-back [] rest' m, ap (drop land_width) e);
    }
