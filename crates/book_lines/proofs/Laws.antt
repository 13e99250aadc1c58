-- The laws of the book's lines, for the crates above: a line as it is written is read back, and a line that is read stands in
-- the text as it would be written, its values below 10^10. Assumes nothing.
use Rattle.std.specs.Prelude.{Option, None, Some}
use mathlib.Core.Path.{◌≡◌, sym, ◌∙◌, ap, subst}
use mathlib.Core.Bool.{true}
use mathlib.Core.List.{List, ◌∷◌, ◌++◌, append_assoc}
use Prim.{Unit}
use Prim.Native.Nat.{ℕ, ◌+◌, ◌^◌, ◌≤◌, ◌<◌}
use native.Mathlib.Omega.{arith}
use lib.IntN.{ℤ, nat_abs}
use lib.ListN.{length, drop, length-append}
use Rattle.book_digits.specs.Digits.{decimal, signed_decimal}
use Rattle.book_values.specs.Values.{read_value, read_signed}
use Rattle.book_values.proofs.Texts.{after, PartRead, tested}
use Rattle.book_values.proofs.Laws.{ValueRead, value_read, value_round, SignedRead, signed_read, signed_round}
use Rattle.book_lines.specs.declared.SoilNumbers.{SoilNumbers}
use Rattle.book_lines.specs.declared.WeatherNumbers.{WeatherNumbers}
use Rattle.book_lines.specs.declared.LandNumbers.{LandNumbers}
use Rattle.book_lines.specs.Lines.{bytes_are, ended, head_line, soil_line, weather_line, land_line}
use Rattle.book_lines.specs.LineText.{head_text, soil_text, weather_text, land_text, SoilBelow}
use Rattle.book_lines.proofs.Reading.{head_some}
use Rattle.book_lines.proofs.Parts.{bytes_read, bytes_round, end_read, end_round, end_no_digit}
use Rattle.book_lines.proofs.Numbers.{Numbers, text_of, soil_row, weather_row, land_row, soil_is, weather_is, land_is}
use Rattle.book_lines.proofs.Numbers.{value_cases, values_cases, line_parts, space_first, line_round}

-- A head that was read: its count is below 10^10, it stands there as it is written, and the next line begins after it, within
-- the text.
pub head_read : (s : List ℕ) (at : ℕ) (name : List ℕ) (n next : ℕ) → head_line s at name ≡ Some (n, next) →
    PartRead (10 ^ 10) s at n (head_text name n) next
unfolding head_line head_text
head_read s at name n next e =
    let count : Option (ℕ × ℕ) = read_value s (at + length name) in
    let found : (bytes_are s at name ≡ true) × (ended s count ≡ Some (n, next)) = tested _ e in
    end_read s at count (λ m. name ++ decimal m) (λ m place read.
    let v : ValueRead s (at + length name) m place = value_read s (at + length name) m place read in
    record {
      below = v.below;
      text = bytes_read s at name found.0 ∙ rw v.text (sym (append_assoc name (decimal m) (drop place s)));
      above = omega arith;
      within = v.within;
    }) n next found.1

-- ROUND TRIP of a head.
pub head_round : (name : List ℕ) (n : ℕ) (s : List ℕ) (at : ℕ) (rest : List ℕ) → n < 10 ^ 10 →
    drop at s ≡ head_text name n ++ rest → head_line s at name ≡ Some (n, at + length (head_text name n))
unfolding head_text
head_round name n s at rest h e =
    let text : drop at s ≡ name ++ (decimal n ++ (10 ∷ rest)) = e ∙ simp append_assoc in
    let count : drop (at + length name) s ≡ decimal n ++ (10 ∷ rest) = after s at name (decimal n ++ (10 ∷ rest)) text in
    let place : ℕ = at + length name + length (decimal n) in
    let end : drop place s ≡ 10 ∷ rest = after s (at + length name) (decimal n) (10 ∷ rest) count in
    head_some s at name (bytes_round s at name (decimal n ++ (10 ∷ rest)) text)
    ∙ end_round s (read_value s (at + length name)) n place rest
    (value_round n s (at + length name) (10 ∷ rest) h count end_no_digit) end
    ∙ ap (λ (k : ℕ). Some (n, k)) (simp length-append (omega arith))

-- A land line that was read, in the same terms as a head.
pub record LandRead (s : List ℕ) (at cover plant manure next : ℕ) : Type 0 where
  pub cover-below : cover < 10 ^ 10
  pub plant-below : plant < 10 ^ 10
  pub manure-below : manure < 10 ^ 10
  pub text : drop at s ≡ land_text cover plant manure ++ drop next s
  pub above : at < next
  pub within : next ≤ length s

-- Every line has no numbers, or is so.
abbrev Land : List ℕ → ℕ → Option (LandNumbers × ℕ) → Type 0
Land s at (Some (x, next)) = LandRead s at x.cover x.plant x.manure next
Land s at None = Unit {0}

land_any : (s : List ℕ) (at : ℕ) → Land s at (land_line s at)
unfolding land_text
land_any s at =
    rw land_is
    (value_cases (Land s at) (read_value s at) tt (λ n a first. values_cases (Land s at) s 1 a tt (λ x next r.
    let v : ValueRead s at n a = value_read s at n a first in
    record {
      cover-below = v.below;
      plant-below = r.below.0;
      manure-below = r.below.1;
      text = v.text ∙ rw r.text (sym (line_parts (decimal n) 1 x (drop next s)));
      above = omega (arith, v.above, r.above);
      within = r.within;
    })))

pub land_read : (s : List ℕ) (at : ℕ) (x : LandNumbers) (next : ℕ) → land_line s at ≡ Some (x, next) →
    LandRead s at x.cover x.plant x.manure next
land_read s at x next e = subst (Land s at) e (land_any s at)

-- ROUND TRIP of a land line.
pub land_round : (cover plant manure : ℕ) (s : List ℕ) (at : ℕ) (rest : List ℕ) → cover < 10 ^ 10 → plant < 10 ^ 10 →
    manure < 10 ^ 10 → drop at s ≡ land_text cover plant manure ++ rest →
    land_line s at
    ≡ Some (record { cover = cover; plant = plant; manure = manure }, at + length (land_text cover plant manure))
unfolding land_text
land_round cover plant manure s at rest hc hp hm e =
    let x : Numbers 1 = (plant, manure) in
    rw (land_is, value_round cover s at (text_of 1 x ++ rest) hc (e ∙ line_parts (decimal cover) 1 x rest) (space_first 1 x rest))
    (line_round 1 (land_row cover) x s at (decimal cover) rest (hp, hm) e)

-- A weather line that was read, in the same terms.
pub record WeatherRead (s : List ℕ) (at : ℕ) (temperature : ℤ) (rain evaporation next : ℕ) : Type 0 where
  pub temperature_below : nat_abs temperature < 10 ^ 10
  pub rain_below : rain < 10 ^ 10
  pub evaporation_below : evaporation < 10 ^ 10
  pub text : drop at s ≡ weather_text temperature rain evaporation ++ drop next s
  pub above : at < next
  pub within : next ≤ length s

abbrev Weather : List ℕ → ℕ → Option (WeatherNumbers × ℕ) → Type 0
Weather s at (Some (x, next)) = WeatherRead s at x.temperature x.rain x.evaporation next
Weather s at None = Unit {0}

weather_any : (s : List ℕ) (at : ℕ) → Weather s at (weather_line s at)
unfolding weather_text
weather_any s at =
    rw weather_is
    (value_cases (Weather s at) (read_signed s at) tt (λ z a first. values_cases (Weather s at) s 1 a tt (λ x next r.
    let v : SignedRead s at z a = signed_read s at z a first in
    record {
      temperature_below = v.below;
      rain_below = r.below.0;
      evaporation_below = r.below.1;
      text = v.text ∙ rw r.text (sym (line_parts (signed_decimal z) 1 x (drop next s)));
      above = omega (arith, v.above, r.above);
      within = r.within;
    })))

pub weather_read : (s : List ℕ) (at : ℕ) (x : WeatherNumbers) (next : ℕ) → weather_line s at ≡ Some (x, next) →
    WeatherRead s at x.temperature x.rain x.evaporation next
weather_read s at x next e = subst (Weather s at) e (weather_any s at)

-- ROUND TRIP of a weather line.
pub weather_round : (temperature : ℤ) (rain evaporation : ℕ) (s : List ℕ) (at : ℕ) (rest : List ℕ) →
    nat_abs temperature < 10 ^ 10 → rain < 10 ^ 10 → evaporation < 10 ^ 10 →
    drop at s ≡ weather_text temperature rain evaporation ++ rest →
    weather_line s at
    ≡ Some (
      record { temperature = temperature; rain = rain; evaporation = evaporation },
      at + length (weather_text temperature rain evaporation),
    )
unfolding weather_text
weather_round temperature rain evaporation s at rest ht hr he e =
    let x : Numbers 1 = (rain, evaporation) in
    let first : List ℕ = signed_decimal temperature in
    rw (weather_is, signed_round temperature s at (text_of 1 x ++ rest) ht (e ∙ line_parts first 1 x rest) (space_first 1 x rest))
    (line_round 1 (weather_row temperature) x s at first rest (hr, he) e)

-- The soil's line that was read, in the same terms.
pub record SoilRead (s : List ℕ) (at : ℕ) (x : SoilNumbers) (next : ℕ) : Type 0 where
  pub below : SoilBelow x
  pub text : drop at s ≡ soil_text x ++ drop next s
  pub above : at < next
  pub within : next ≤ length s

abbrev Soil : List ℕ → ℕ → Option (SoilNumbers × ℕ) → Type 0
Soil s at (Some (x, next)) = SoilRead s at x next
Soil s at None = Unit {0}

soil_any : (s : List ℕ) (at : ℕ) → Soil s at (soil_line s at)
unfolding soil_text
soil_any s at =
    rw soil_is
    (value_cases (Soil s at) (read_value s at) tt (λ n a first. values_cases (Soil s at) s 6 a tt (λ x next r.
    let v : ValueRead s at n a = value_read s at n a first in
    let b = r.below in
    record {
      below =
          record {
            clay = v.below;
            depth = b.0;
            kind = b.1.0;
            dpm = b.1.1.0;
            rpm = b.1.1.1.0;
            bio = b.1.1.1.1.0;
            hum = b.1.1.1.1.1.0;
            iom = b.1.1.1.1.1.1;
          };
      text = v.text ∙ rw r.text (sym (line_parts (decimal n) 6 x (drop next s)));
      above = omega (arith, v.above, r.above);
      within = r.within;
    })))

pub soil_read : (s : List ℕ) (at : ℕ) (x : SoilNumbers) (next : ℕ) → soil_line s at ≡ Some (x, next) →
    SoilRead s at x next
soil_read s at x next e = subst (Soil s at) e (soil_any s at)

-- ROUND TRIP of the soil's line.
pub soil_round : (x : SoilNumbers) (s : List ℕ) (at : ℕ) (rest : List ℕ) → SoilBelow x →
    drop at s ≡ soil_text x ++ rest → soil_line s at ≡ Some (x, at + length (soil_text x))
unfolding soil_text
soil_round x s at rest b e =
    let y : Numbers 6 = (x.depth, (x.kind, (x.dpm, (x.rpm, (x.bio, (x.hum, x.iom)))))) in
    let first : List ℕ = decimal x.clay in
    rw (soil_is, value_round x.clay s at (text_of 6 y ++ rest) b.clay (e ∙ line_parts first 6 y rest) (space_first 6 y rest))
    (line_round 6 (soil_row x.clay) y s at first rest
    (b.depth, (b.kind, (b.dpm, (b.rpm, (b.bio, (b.hum, b.iom)))))) e)
