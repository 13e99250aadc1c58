-- The laws of a table's lines, for the crates above: a line as it is written is read back, a line that is read stands in the
-- text as it would be written, and a line's text adds one to the count of lines. Assumes nothing.
use Rattle.std.specs.Prelude.{Option, None, Some}
use Rattle.std.proofs.lemmas.Option.{none-some, some_pair_parts}
use Rattle.book_lines.specs.declared.WeatherNumbers.{WeatherNumbers}
use mathlib.Core.Path.{◌≡◌, refl, sym, ◌∙◌, ap, subst}
use mathlib.Core.Bool.{true}
use mathlib.Core.List.{List, [], ◌∷◌, ◌++◌, append_assoc}
use mathlib.Core.Logic.{inl, inr}
use Prim.{Unit}
use Prim.Native.Nat.{ℕ, suc, ◌+◌, ◌-◌, ◌^◌, ◌≤◌, ◌<◌}
use native.Mathlib.Omega.{arith}
use borrow.Author.Tests.{eq-eqb, eqb-true}
use lib.Dec.{eqb}
use lib.IntN.{ℤ, nat_abs}
use lib.ListN.{length, get_or, drop, length-append}
use lib.Seq.{append_snoc}
use Rattle.book_digits.specs.Digits.{decimal, line_end}
use Rattle.book_values.specs.Values.{read_value}
use Rattle.book_values.proofs.Reading.{digit_above}
use Rattle.book_values.proofs.Texts.{after, PartRead, tested}
use Rattle.book_values.proofs.Laws.{ValueRead, value_read, value_round}
use Rattle.book_lines.specs.Lines.{ended}
use Rattle.book_lines.proofs.Parts.{end_read, end_round}
use Rattle.book_lines.proofs.Numbers.{value_cases}
use Rattle.table_lines.specs.Lines.{next_tenths, next_signed, numbered, table_line, line_ends, line_count}
use Rattle.table_lines.specs.LineText.{tenths_text, signed_tenths_text, table_line_text}
use Rattle.table_lines.proofs.Tenths.{next_read, next_round, next_signed_read, next_signed_round}
use Rattle.table_lines.proofs.Counting.{is_end, ends_empty, other_adds, ends_most, ends-fewer, ends_some}
use Rattle.table_lines.proofs.Counting.{count-ended, count_open, ends-decimal, ends_tenths, ends_signed}
use Rattle.table_lines.proofs.Counting.{none_joined, line_counted}

-- A line that was read: its numbers are below their limits, it stands there as it is written, and the next line begins after
-- it, within the text.
pub record TableRead (s : List ℕ) (at number : ℕ) (temperature : ℤ) (rain evapotranspiration next : ℕ) : Type 0 where
  pub number-below : number < 10 ^ 10
  pub temperature_below : nat_abs temperature < 10 ^ 11
  pub rain_below : rain < 10 ^ 11
  pub evapotranspiration_below : evapotranspiration < 10 ^ 11
  pub text : drop at s ≡ table_line_text number temperature rain evapotranspiration ++ drop next s
  pub above : at < next
  pub within : next ≤ length s

-- A month that was read is the line's number.
month_read : (s : List ℕ) (at number : ℕ) (v : Option (ℕ × ℕ)) (n next : ℕ) → read_value s at ≡ v →
    numbered number v ≡ Some (n, next) → ValueRead s at number next
unfolding numbered
month_read s at number (Some (m, k)) n next value e =
    let found : (eqb m number ≡ true) × (Some (m, k) ≡ Some (n, next)) = tested _ e in
    let same = some_pair_parts m n k next found.1 in
    let is : m ≡ number = eqb-true m number found.0 in
    value_read s at number next (value ∙ rw (is, same.1) refl)
month_read s at number None n next value e = absurd (none-some (n, next) e)

-- A line's parts one after another.
parts : (a b c d e f : List ℕ) → (a ++ b ++ c ++ d ++ e) ++ f ≡ a ++ (b ++ (c ++ (d ++ e ++ f)))
parts a b c d e f = simp append_assoc

ends : (at : ℕ) (a b c d : List ℕ) →
    at + length a + length b + length c + length d + 1 ≡ at + length (a ++ b ++ c ++ d ++ line_end)
ends at a b c d = simp length-append (omega arith)

-- Every line has no numbers, or is so.
abbrev Table : List ℕ → ℕ → ℕ → Option (WeatherNumbers × ℕ) → Type 0
Table s at number (Some (x, next)) = TableRead s at number x.temperature x.rain x.evaporation next
Table s at number None = Unit {0}

table_any : (s : List ℕ) (at number : ℕ) → Table s at number (table_line s at number)
unfolding table_line table_line_text
table_any s at number =
    value_cases (Table s at number) (numbered number (read_value s at)) tt (λ n a month.
    value_cases (Table s at number) (next_signed s a) tt (λ z b signed.
    value_cases (Table s at number) (next_tenths s b) tt (λ r c rain.
    value_cases (Table s at number) (ended s (next_tenths s c)) tt (λ e next last.
    let m : ValueRead s at number a = month_read s at number (read_value s at) n a refl month in
    let t : PartRead (10 ^ 11) s a (nat_abs z) (59 ∷ signed_tenths_text z) b = next_signed_read s a z b signed in
    let p : PartRead (10 ^ 11) s b r (59 ∷ tenths_text r) c = next_read s b r c rain in
    let l : PartRead (10 ^ 11) s c e (59 ∷ tenths_text e ++ line_end) next =
    end_read s c (next_tenths s c) (λ k. 59 ∷ tenths_text k) (next_read s c) e next last in
    record {
      number-below = m.below;
      temperature_below = t.below;
      rain_below = p.below;
      evapotranspiration_below = l.below;
      text =
          m.text
          ∙ rw (t.text, p.text, l.text)
          (sym (parts (decimal number) (59 ∷ signed_tenths_text z) (59 ∷ tenths_text r) (59 ∷ tenths_text e) line_end (drop next s)));
      above = omega (arith, m.above, t.above, p.above, l.above);
      within = l.within;
    }))))

pub table_read : (s : List ℕ) (at number : ℕ) (x : WeatherNumbers) (next : ℕ) → table_line s at number ≡ Some (x, next) →
    TableRead s at number x.temperature x.rain x.evaporation next
table_read s at number x next e = subst (Table s at number) e (table_any s at number)

-- ROUND TRIP of a line.
pub table_round : (number : ℕ) (temperature : ℤ) (rain evapotranspiration : ℕ) (s : List ℕ) (at : ℕ) (rest : List ℕ) →
    number < 10 ^ 10 → nat_abs temperature < 10 ^ 11 → rain < 10 ^ 11 → evapotranspiration < 10 ^ 11 →
    drop at s ≡ table_line_text number temperature rain evapotranspiration ++ rest →
    table_line s at number
    ≡ Some (
      record { temperature = temperature; rain = rain; evaporation = evapotranspiration },
      at + length (table_line_text number temperature rain evapotranspiration),
    )
unfolding numbered table_line table_line_text
table_round number temperature rain evapotranspiration s at rest hn ht hr he e =
    let signed : List ℕ = 59 ∷ signed_tenths_text temperature in
    let second : List ℕ = 59 ∷ tenths_text rain in
    let third : List ℕ = 59 ∷ tenths_text evapotranspiration in
    let from-c : List ℕ = third ++ line_end ++ rest in
    let from-b : List ℕ = second ++ from-c in
    let from-a : List ℕ = signed ++ from-b in
    let text : drop at s ≡ decimal number ++ from-a = e ∙ parts (decimal number) signed second third line_end rest in
    let a : ℕ = at + length (decimal number) in
    let text-a : drop a s ≡ from-a = after s at (decimal number) from-a text in
    let b : ℕ = a + length signed in
    let text-b : drop b s ≡ from-b = after s a signed from-b text-a in
    let c : ℕ = b + length second in
    let text-c : drop c s ≡ third ++ (10 ∷ rest) = after s b second from-c text-b ∙ append_snoc third 10 rest in
    let d : ℕ = c + length third in
    let text-d : drop d s ≡ 10 ∷ rest = after s c third (10 ∷ rest) text-c in
    rw (
      value_round number s at from-a hn text (digit_above 59 (omega arith)),
      eq-eqb number number refl,
      next_signed_round temperature s a from-b ht text-a,
      next_round rain s b from-c hr text-b,
      end_round s (next_tenths s c) evapotranspiration d rest (next_round evapotranspiration s c (10 ∷ rest) he text-c) text-d,
    )
    (ap (λ (k : ℕ). Some (record { temperature = temperature; rain = rain; evaporation = evapotranspiration }, k)) (ends at (decimal number) signed second third))

-- ---- how many lines

-- A line's text is one line more: it has one byte 10, its last.
pub count_line : (number : ℕ) (temperature : ℤ) (rain evapotranspiration : ℕ) (rest : List ℕ) →
    line_count (table_line_text number temperature rain evapotranspiration ++ rest) ≡ suc (line_count rest)
unfolding table_line_text
count_line number temperature rain evapotranspiration rest =
    line_counted _ rest
    (none_joined _ _
    (none_joined _ _
    (none_joined _ _ (ends-decimal number) (behind (signed_tenths_text temperature) (ends_signed temperature)))
    (behind (tenths_text rain) (ends_tenths rain)))
    (behind (tenths_text evapotranspiration) (ends_tenths evapotranspiration)))
  where
    behind : (bytes : List ℕ) → line_ends bytes ≡ 0 → line_ends (59 ∷ bytes) ≡ 0
    behind bytes e = other_adds 59 bytes (λ z. omega arith) ∙ e

-- A text without bytes has no lines, and no other text has none; it has at most as many as bytes.
pub count_empty : line_count [] ≡ 0
count_empty = count-ended [] refl ∙ ends_empty

pub count_none : (s : List ℕ) → line_count s ≡ 0 → s ≡ []
count_none [] e = refl
count_none (byte ∷ s) e =
    let place : ℕ = length (byte ∷ s) - 1 in
    elim (is_end (get_or (byte ∷ s) place 10)) [
      | inl last ↦
          absurd (omega (arith, count-ended (byte ∷ s) last, ends_some (byte ∷ s) place (omega arith) last))
      | inr last ↦ absurd (omega (arith, count_open (byte ∷ s) last))
    ]

pub count_most : (s : List ℕ) → line_count s ≤ length s
count_most [] = rw count_empty (omega arith)
count_most (byte ∷ s) =
    let place : ℕ = length (byte ∷ s) - 1 in
    elim (is_end (get_or (byte ∷ s) place 10)) [
      | inl last ↦ omega (arith, count-ended (byte ∷ s) last, ends_most (byte ∷ s))
      | inr last ↦ omega (arith, count_open (byte ∷ s) last, ends-fewer (byte ∷ s) place (omega arith) last)
    ]
