-- The values of a line after its first, one law for the soil's, the weather's and the land's lines: how they are read one
-- after another to the line's end, and how they stand in the text. Assumes nothing.
use Rattle.std.specs.Prelude.{Option, None, Some}
use mathlib.Core.Path.{◌≡◌, refl, sym, ◌∙◌, ap}
use mathlib.Core.Bool.{false}
use mathlib.Core.List.{List, ◌∷◌, ◌++◌, append_assoc}
use Prim.Native.Nat.{ℕ, zero, suc, ◌+◌, ◌^◌, ◌≤◌, ◌<◌}
use native.Mathlib.Omega.{arith}
use lib.IntN.{ℤ}
use lib.ListN.{length, get_or, drop, length-append}
use lib.Seq.{append_snoc}
use Rattle.book_digits.specs.Digits.{spaced, line_end}
use Rattle.book_values.specs.Values.{is_digit, read_value, read_signed}
use Rattle.book_lines.specs.declared.SoilNumbers.{SoilNumbers}
use Rattle.book_lines.specs.declared.WeatherNumbers.{WeatherNumbers}
use Rattle.book_lines.specs.declared.LandNumbers.{LandNumbers}
use Rattle.book_lines.specs.Lines.{spaced_value, ended, value_then, soil_line, weather_line, land_line}
use Rattle.book_values.proofs.Texts.{after, PartRead}
use Rattle.book_lines.proofs.Parts.{spaced_read, spaced_round, end_read, end_round, space_no_digit, end_no_digit}

-- So many numbers, and a last one.
abbrev pub Numbers : ℕ → Type 0
Numbers zero = ℕ
Numbers (suc k) = ℕ × Numbers k

-- What a line makes of them: each is read after a space, the last with the line's end.
unfoldable pub values_then : {Line : Type 0} → List ℕ → (k : ℕ) → ℕ → (Numbers k → ℕ → Option Line) → Option Line
values_then s zero at row = value_then (ended s (spaced_value s at)) row
values_then s (suc k) at row =
    value_then (spaced_value s at) (λ n next. values_then s k next (λ x. row (n, x)))

-- The three lines in these terms: the first value, and those after it.
abbrev pub soil_row : ℕ → Numbers 6 → ℕ → Option (SoilNumbers × ℕ)
soil_row clay x next =
    Some (
      record {
        clay = clay;
        depth = x.0;
        kind = x.1.0;
        dpm = x.1.1.0;
        rpm = x.1.1.1.0;
        bio = x.1.1.1.1.0;
        hum = x.1.1.1.1.1.0;
        iom = x.1.1.1.1.1.1;
      },
      next,
    )

abbrev pub weather_row : ℤ → Numbers 1 → ℕ → Option (WeatherNumbers × ℕ)
weather_row temperature x next = Some (record { temperature = temperature; rain = x.0; evaporation = x.1 }, next)

abbrev pub land_row : ℕ → Numbers 1 → ℕ → Option (LandNumbers × ℕ)
land_row cover x next = Some (record { cover = cover; plant = x.0; manure = x.1 }, next)

module _ (s : List ℕ) (at : ℕ) where
  pub soil_is : soil_line s at ≡ value_then (read_value s at) (λ n a. values_then s 6 a (soil_row n))
  unfolding soil_line values_then
  soil_is = refl

  pub weather_is : weather_line s at ≡ value_then (read_signed s at) (λ z a. values_then s 1 a (weather_row z))
  unfolding weather_line values_then
  weather_is = refl

  pub land_is : land_line s at ≡ value_then (read_value s at) (λ n a. values_then s 1 a (land_row n))
  unfolding land_line values_then
  land_is = refl

-- ---- what stands in the text

-- The numbers as they are written.
abbrev pub text_of : (k : ℕ) → Numbers k → List ℕ
text_of zero n = spaced n ++ line_end
text_of (suc k) x = spaced x.0 ++ text_of k x.1

-- They stand after what the line begins with.
abbrev pub line_text : List ℕ → (k : ℕ) → Numbers k → List ℕ
line_text first zero n = first ++ spaced n ++ line_end
line_text first (suc k) x = line_text (first ++ spaced x.0) k x.1

line_is : (first : List ℕ) (k : ℕ) (x : Numbers k) → line_text first k x ≡ first ++ text_of k x
line_is first zero n = append_assoc first (spaced n) line_end
line_is first (suc k) x =
    line_is (first ++ spaced x.0) k x.1 ∙ append_assoc first (spaced x.0) (text_of k x.1)

pub line_parts : (first : List ℕ) (k : ℕ) (x : Numbers k) (rest : List ℕ) →
    line_text first k x ++ rest ≡ first ++ (text_of k x ++ rest)
line_parts first k x rest = rw (line_is first k x) (append_assoc first (text_of k x) rest)

-- The form of a value can say each of them.
abbrev pub Below : (k : ℕ) → Numbers k → Type 0
Below zero n = n < 10 ^ 10
Below (suc k) x = (x.0 < 10 ^ 10) × Below k x.1

-- Numbers that were read, in the same terms as one with a part of a line.
pub record NumbersRead (s : List ℕ) (at k : ℕ) (x : Numbers k) (next : ℕ) : Type 0 where
  pub below : Below k x
  pub text : drop at s ≡ text_of k x ++ drop next s
  pub above : at < next
  pub within : next ≤ length s

-- What holds of no line, and of a line with any value that is read, holds of the line.
pub value_cases : {A Line : Type 0} (P : Option Line → Type 0) (v : Option (A × ℕ)) {later : A → ℕ → Option Line} → P None →
    ((n : A) (next : ℕ) → v ≡ Some (n, next) → P (later n next)) → P (value_then v later)
value_cases P (Some (n, next)) none some = some n next refl
value_cases P None none some = none

pub values_cases : {Line : Type 0} (P : Option Line → Type 0) (s : List ℕ) (k at : ℕ)
    {row : Numbers k → ℕ → Option Line} → P None →
    ((x : Numbers k) (next : ℕ) → NumbersRead s at k x next → P (row x next)) → P (values_then s k at row)
unfolding values_then
values_cases P s zero at none some =
    value_cases P (ended s (spaced_value s at)) none (λ n next e.
    let r : PartRead (10 ^ 10) s at n (spaced n ++ line_end) next =
    end_read s at (spaced_value s at) spaced (spaced_read s at) n next e in
    some n next (record { below = r.below; text = r.text; above = r.above; within = r.within }))
values_cases P s (suc k) at none some =
    value_cases P (spaced_value s at) none (λ n place e.
    let r : PartRead (10 ^ 10) s at n (spaced n) place = spaced_read s at n place e in
    values_cases P s k place none (λ x next q.
    some (n, x) next
    (record {
      below = (r.below, q.below);
      text = r.text ∙ ap (λ (l : List ℕ). spaced n ++ l) q.text ∙ sym (append_assoc (spaced n) (text_of k x) (drop next s));
      above = omega (arith, r.above, q.above);
      within = q.within;
    })))

-- A space stands before them.
pub space_first : (k : ℕ) (x : Numbers k) (rest : List ℕ) → is_digit (get_or (text_of k x ++ rest) 0 0) ≡ false
space_first zero x rest = space_no_digit
space_first (suc k) x rest = space_no_digit

-- ROUND TRIP of the numbers, ..
values_round : {Line : Type 0} (k : ℕ) (row : Numbers k → ℕ → Option Line) (x : Numbers k) (s : List ℕ)
    (at : ℕ) (rest : List ℕ) → Below k x → drop at s ≡ text_of k x ++ rest →
    values_then s k at row ≡ row x (at + length (text_of k x))
unfolding values_then
values_round zero row n s at rest h e =
    let text : drop at s ≡ spaced n ++ (10 ∷ rest) = e ∙ append_snoc (spaced n) 10 rest in
    rw (end_round s (spaced_value s at) n (at + length (spaced n)) rest
    (spaced_round n s at (10 ∷ rest) h text end_no_digit) (after s at (spaced n) (10 ∷ rest) text))
    (ap (row n) (simp length-append (omega arith)))
values_round (suc k) row x s at rest h e =
    let later : List ℕ = text_of k x.1 ++ rest in
    let text : drop at s ≡ spaced x.0 ++ later = e ∙ append_assoc (spaced x.0) (text_of k x.1) rest in
    rw (spaced_round x.0 s at later h.0 text (space_first k x.1 rest))
    (values_round k (λ y. row (x.0, y)) x.1 s (at + length (spaced x.0)) rest h.1
    (after s at (spaced x.0) later text)
    ∙ ap (row x) (simp length-append (omega arith)))

-- .. after what the line begins with.
pub line_round : {Line : Type 0} (k : ℕ) (row : Numbers k → ℕ → Option Line) (x : Numbers k) (s : List ℕ) (at : ℕ)
    (first rest : List ℕ) → Below k x → drop at s ≡ line_text first k x ++ rest →
    values_then s k (at + length first) row ≡ row x (at + length (line_text first k x))
line_round k row x s at first rest h e =
    values_round k row x s (at + length first) rest h
    (after s at first (text_of k x ++ rest) (e ∙ line_parts first k x rest))
    ∙ ap (row x) (rw (line_is first k x) (simp length-append (omega arith)))
