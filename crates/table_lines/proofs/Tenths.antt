-- Numbers in tenths beside the text: what is written is read back, and what is read stands in the text as it would be
-- written, below 10^11. Likewise with a minus, and after a semicolon. Assumes nothing.
use Rattle.std.specs.Prelude.{Option, None, Some}
use Rattle.std.proofs.lemmas.Option.{none-some, some_pair_parts}
use mathlib.Core.Path.{◌≡◌, refl, ◌∙◌, ap, ap₂}
use mathlib.Core.Bool.{Bool, true, false, ◌&&◌}
use mathlib.Core.List.{List, [], ◌∷◌, ◌++◌, append_assoc}
use Prim.Native.Nat.{ℕ, ◌+◌, ◌-◌, ◌*◌, ◌/◌, ◌%◌, ◌^◌, ◌<◌}
use native.Mathlib.Omega.{arith}
use lib.IntN.{ℤ, nat_abs}
use lib.ListN.{length, get_or, drop, length-append}
use Rattle.book_digits.specs.Digits.{decimal}
use Rattle.book_digits.proofs.Digits.{DigitByte}
use Rattle.book_values.specs.Values.{is_digit, byte_is, read_value}
use Rattle.book_values.proofs.Reading.{contrary, digit_true, digit_below, digit_byte, digit_within, byte_is_within}
use Rattle.book_values.proofs.Texts.{byte_there, byte_at, byte_read, byte_round, after, PartRead, byte_first, part_then, tested}
use Rattle.book_values.proofs.Minus.{sign_round, sign_read}
use Rattle.book_values.proofs.Laws.{ValueRead, value_read, value_round, no_minus}
use Rattle.table_lines.specs.Lines.{with_tenth, read_tenths, read_signed_tenths, next_tenths, next_signed}
use Rattle.table_lines.specs.LineText.{tenths_text, signed_tenths_text}

-- A number in tenths that was found: the value before its dot, the dot and the digit.
pub record Tenths (s : List ℕ) (at n next : ℕ) : Type 0 where
  pub place : ℕ
  pub value : read_value s at ≡ Some (n / 10, place)
  pub dot : byte_is s place 46 ≡ true
  pub digit : byte_is s (place + 1) (48 + n % 10) ≡ true
  pub ends : place + 1 + 1 ≡ next

both : {a b : Bool} → a && b ≡ true → (a ≡ true) × (b ≡ true)
both {a = true} e = (refl, e)
both {a = false} e = absurd (contrary e refl)

tenth_found : (s : List ℕ) (at : ℕ) (v : Option (ℕ × ℕ)) (n next : ℕ) → read_value s at ≡ v → with_tenth s v ≡ Some (n, next) →
    Tenths s at n next
unfolding with_tenth
tenth_found s at (Some (m, k)) n next value e =
    let byte : ℕ = get_or s (k + 1) 0 in
    let found : (byte_is s k 46 && is_digit byte ≡ true) × (Some (10 * m + (byte - 48), k + 2) ≡ Some (n, next)) =
    tested _ e in
    let tests : (byte_is s k 46 ≡ true) × (is_digit byte ≡ true) = both found.0 in
    let b : DigitByte byte = digit_byte byte tests.1 in
    let same = some_pair_parts (10 * m + (byte - 48)) n (k + 2) next found.1 in
    let says : 10 * m + (byte - 48) ≡ n = same.0 in
    let ends : k + 2 ≡ next = same.1 in
    let whole : m ≡ n / 10 = omega arith in
    let last : byte ≡ 48 + n % 10 = omega arith in
    record {
      place = k;
      value = value ∙ ap (λ (q : ℕ). Some (q, k)) whole;
      dot = tests.0;
      digit =
          byte_round s (k + 1) (48 + n % 10) (drop (k + 1 + 1) s)
          (byte_there s (k + 1) (digit_within s (k + 1) tests.1) ∙ ap (λ (d : ℕ). d ∷ drop (k + 1 + 1) s) last);
      ends = omega arith;
    }
tenth_found s at None n next value e = absurd (none-some (n, next) e)

tenths_found : (s : List ℕ) (at n next : ℕ) → read_tenths s at ≡ Some (n, next) → Tenths s at n next
unfolding read_tenths
tenths_found s at n next e = tenth_found s at (read_value s at) n next refl e

pub tenths_read : (s : List ℕ) (at n next : ℕ) → read_tenths s at ≡ Some (n, next) →
    PartRead (10 ^ 11) s at n (tenths_text n) next
unfolding tenths_text
tenths_read s at n next e =
    let t : Tenths s at n next = tenths_found s at n next e in
    let v : ValueRead s at (n / 10) t.place = value_read s at (n / 10) t.place t.value in
    let last : drop (t.place + 1) s ≡ (48 + n % 10) ∷ drop next s =
    byte_read s (t.place + 1) (48 + n % 10) t.digit ∙ ap (λ (k : ℕ). (48 + n % 10) ∷ drop k s) t.ends in
    part_then s at (n / 10) (decimal (n / 10)) t.place n (46 ∷ (48 + n % 10) ∷ []) next v (omega (arith, v.below))
    (byte_read s t.place 46 t.dot ∙ ap (λ (l : List ℕ). 46 ∷ l) last) (omega (arith, t.ends))
    (omega (arith, t.ends, byte_is_within s (t.place + 1) (48 + n % 10) t.digit))

-- It fits 64 bits with a sign.
pub tenths_fit : (s : List ℕ) (at n next : ℕ) → read_tenths s at ≡ Some (n, next) → n < 2 ^ 63
tenths_fit s at n next e = omega (arith, (tenths_read s at n next e).below)

-- ROUND TRIP of a number in tenths: the dot ends the digits before it, and one digit follows.
pub tenths_round : (n : ℕ) (s : List ℕ) (at : ℕ) (rest : List ℕ) → n < 10 ^ 11 → drop at s ≡ tenths_text n ++ rest →
    read_tenths s at ≡ Some (n, at + length (tenths_text n))
unfolding with_tenth read_tenths tenths_text
tenths_round n s at rest h e =
    let whole : List ℕ = decimal (n / 10) in
    let place : ℕ = at + length whole in
    let tail : List ℕ = (48 + n % 10) ∷ rest in
    let text : drop at s ≡ whole ++ (46 ∷ tail) = e ∙ append_assoc whole (46 ∷ (48 + n % 10) ∷ []) rest in
    let value : read_value s at ≡ Some (n / 10, place) =
    value_round (n / 10) s at (46 ∷ tail) (omega arith) text (digit_below 46 (omega arith)) in
    let dot : drop place s ≡ 46 ∷ tail = after s at whole (46 ∷ tail) text in
    let here : get_or s (place + 1) 0 ≡ 48 + n % 10 = byte_at s (place + 1) tail (after s place (46 ∷ []) tail dot) in
    let digit : is_digit (get_or s (place + 1) 0) ≡ true =
    ap is_digit here ∙ digit_true (record { low = omega arith; high = omega arith }) in
    rw (value, byte_round s place 46 tail dot, digit)
    (ap₂ (λ (m k : ℕ). Some (m, k)) (omega arith) (simp length-append (omega arith)))

-- The same with a minus before it.
pub signed_tenths_read : (s : List ℕ) (at : ℕ) (z : ℤ) (next : ℕ) → read_signed_tenths s at ≡ Some (z, next) →
    PartRead (10 ^ 11) s at (nat_abs z) (signed_tenths_text z) next
unfolding read_signed_tenths signed_tenths_text
signed_tenths_read s at z next e = sign_read read_tenths tenths_text s (tenths_read s) at z next e

pub signed_tenths_round : (z : ℤ) (s : List ℕ) (at : ℕ) (rest : List ℕ) → nat_abs z < 10 ^ 11 →
    drop at s ≡ signed_tenths_text z ++ rest → read_signed_tenths s at ≡ Some (z, at + length (signed_tenths_text z))
unfolding read_signed_tenths signed_tenths_text
signed_tenths_round z s at rest h e =
    sign_round read_tenths tenths_text z s at rest (λ n place below text. tenths_round n s place rest below text)
    (λ n next read. let t : Tenths s at n next = tenths_found s at n next read in no_minus s at (n / 10) t.place t.value)
    h e

-- The same after a semicolon.
pub next_read : (s : List ℕ) (at n next : ℕ) → next_tenths s at ≡ Some (n, next) →
    PartRead (10 ^ 11) s at n (59 ∷ tenths_text n) next
unfolding next_tenths
next_read s at n next e =
    let found : (byte_is s at 59 ≡ true) × (read_tenths s (at + 1) ≡ Some (n, next)) = tested _ e in
    byte_first s at n (tenths_text n) next 59 found.0 (tenths_read s (at + 1) n next found.1)

pub next_round : (n : ℕ) (s : List ℕ) (at : ℕ) (rest : List ℕ) → n < 10 ^ 11 → drop at s ≡ 59 ∷ (tenths_text n ++ rest) →
    next_tenths s at ≡ Some (n, at + length (59 ∷ tenths_text n))
unfolding next_tenths
next_round n s at rest h e =
    rw (byte_round s at 59 (tenths_text n ++ rest) e)
    (tenths_round n s (at + 1) rest h (after s at (59 ∷ []) (tenths_text n ++ rest) e)
    ∙ ap (λ (k : ℕ). Some (n, k)) (omega arith))

pub next_signed_read : (s : List ℕ) (at : ℕ) (z : ℤ) (next : ℕ) → next_signed s at ≡ Some (z, next) →
    PartRead (10 ^ 11) s at (nat_abs z) (59 ∷ signed_tenths_text z) next
unfolding next_signed
next_signed_read s at z next e =
    let found : (byte_is s at 59 ≡ true) × (read_signed_tenths s (at + 1) ≡ Some (z, next)) = tested _ e in
    byte_first s at (nat_abs z) (signed_tenths_text z) next 59 found.0 (signed_tenths_read s (at + 1) z next found.1)

pub next_signed_round : (z : ℤ) (s : List ℕ) (at : ℕ) (rest : List ℕ) → nat_abs z < 10 ^ 11 →
    drop at s ≡ 59 ∷ (signed_tenths_text z ++ rest) →
    next_signed s at ≡ Some (z, at + length (59 ∷ signed_tenths_text z))
unfolding next_signed
next_signed_round z s at rest h e =
    rw (byte_round s at 59 (signed_tenths_text z ++ rest) e)
    (signed_tenths_round z s (at + 1) rest h (after s at (59 ∷ []) (signed_tenths_text z ++ rest) e)
    ∙ ap (λ (k : ℕ). Some (z, k)) (omega arith))
