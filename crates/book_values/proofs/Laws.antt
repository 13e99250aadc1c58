-- The laws of the book's numbers, for the crates above: what is written is read back, and what is read stands in the
-- text as it would be written. Assumes nothing.
use Rattle.std.specs.Prelude.{Some}
use Rattle.std.proofs.lemmas.Option.{none-some, same_Some, some_pair_parts}
use mathlib.Core.Path.{◌≡◌, refl, sym, ◌∙◌, ap, ap₂}
use mathlib.Core.Bool.{true, false}
use mathlib.Core.Logic.{inl, inr}
use mathlib.Core.List.{List, [], ◌∷◌, ◌++◌}
use Prim.Native.Nat.{ℕ, zero, suc, ◌+◌, ◌-◌, ◌*◌, ◌^◌, ◌≤◌, ◌<◌}
use native.Mathlib.Nat.{add-zero, zero-add, pow-le-pow_right, mul-le-mul_left, mul-le-mul_right, lt_of_lt_of_le, le_trans}
use native.Mathlib.Numerals.{sub-one}
use native.Mathlib.Omega.{arith}
use native.Mathlib.Decide.{dec_lt}
use borrow.Author.Tests.{ne_eqb}
use lib.IntN.{ℤ, nat_abs}
use lib.ListN.{length, get_or, drop, length-drop, length-append}
use Rattle.book_digits.specs.Digits.{decimal, signed_decimal}
use Rattle.book_digits.proofs.Digits.{
  DigitByte,
  Digits,
  none,
  more,
  folded,
  Form,
  form,
  decimal_small,
  decimal_folded,
  below_power,
  decimal_some,
  decimal_ten,
}
use Rattle.book_values.specs.Values.{is_digit, byte_is, more_digits, read_value, read_signed}
use Rattle.book_values.proofs.Reading.{
  Took,
  either,
  digit_true,
  digit_byte,
  digit_within,
  more_stop,
  more_step,
  value_none,
  value_zero,
  value_digit,
  byte_is_read,
  took,
}
use Rattle.book_values.proofs.Texts.{byte_there, byte_at, after, PartRead}
use Rattle.book_values.proofs.Minus.{sign_round, sign_read}

-- Digits with no digit after them are read to their end.
more_round : (left value : ℕ) (s : List ℕ) (at : ℕ) {bytes : List ℕ} (rest : List ℕ) → Digits bytes →
    length bytes ≤ left → drop at s ≡ bytes ++ rest → is_digit (get_or rest 0 0) ≡ false →
    more_digits left value s at ≡ (folded value bytes, at + length bytes)
more_round left value s at rest none h e d =
    more_stop left value s at (ap is_digit (byte_at s at rest e) ∙ d) ∙ ap (λ (k : ℕ). (value, k)) (sym (add-zero at))
more_round zero value s at rest (more {byte} {bytes} b bs) h e d = absurd (omega arith)
more_round (suc left) value s at rest (more {byte} {bytes} b bs) h e d =
    let here : get_or s at 0 ≡ byte = byte_at s at (byte ∷ (bytes ++ rest)) e in
    let v : ℕ = 10 * value + (byte - 48) in
    let step : more_digits (suc left) value s at ≡ more_digits left v s (at + 1) =
    rw (sub-one, here) at (more_step (suc left) value s at (omega arith) (ap is_digit here ∙ digit_true b)) in
    step
    ∙ more_round left v s (at + 1) rest bs (omega arith) (after s at (byte ∷ []) (bytes ++ rest) e) d
    ∙ ap (λ (k : ℕ). (folded v bytes, k)) (omega arith)

-- ROUND TRIP. Where a text goes on with the decimal form of a number below 10^10, and after it with no digit, the
-- number is read there, and the place after it is the next.
pub value_round : (n : ℕ) (s : List ℕ) (at : ℕ) (rest : List ℕ) → n < 10 ^ 10 → drop at s ≡ decimal n ++ rest →
    is_digit (get_or rest 0 0) ≡ false → read_value s at ≡ Some (n, at + length (decimal n))
value_round zero s at rest h e d =
    let zero-form : decimal 0 ≡ 48 ∷ [] = decimal_small 0 (omega arith) in
    rw zero-form (value_zero s at (byte_at s at (48 ∷ rest) (e ∙ ap (λ (l : List ℕ). l ++ rest) zero-form)))
value_round (suc n) s at rest h e d =
    let f : Form (suc n) = form (suc n) (omega arith) in
    let text : drop at s ≡ (48 + f.first) ∷ (f.rest ++ rest) = e ∙ ap (λ (l : List ℕ). l ++ rest) f.is in
    let here : get_or s at 0 ≡ 48 + f.first = byte_at s at ((48 + f.first) ∷ (f.rest ++ rest)) text in
    let few : length f.rest ≤ 9 = omega (arith, decimal_ten (suc n) h, ap length f.is) in
    let first : get_or s at 0 - 48 ≡ f.first = omega arith in
    let ends : at + 1 + length f.rest ≡ at + length (decimal (suc n)) = omega (arith, ap length f.is) in
    value_digit s at (λ z. omega arith) (ap is_digit here ∙ digit_true (record { low = omega arith; high = omega arith }))
    ∙ ap Some (more_round 9 (get_or s at 0 - 48) s (at + 1) rest f.digits few
    (after s at ((48 + f.first) ∷ []) (f.rest ++ rest) text) d)
    ∙ ap₂ (λ (v k : ℕ). Some (v, k)) (ap (λ (v : ℕ). folded v f.rest) first ∙ f.says) ends

pub value_round_trip : (n : ℕ) (rest : List ℕ) → n < 10 ^ 10 → is_digit (get_or rest 0 0) ≡ false →
    read_value (decimal n ++ rest) 0 ≡ Some (n, length (decimal n))
value_round_trip n rest h d =
    value_round n (decimal n ++ rest) 0 rest h refl d ∙ ap (λ (k : ℕ). Some (n, k)) (zero-add (length (decimal n)))

-- A value that was read: it is below 10^10, and stands there in its decimal form.
abbrev pub ValueRead : List ℕ → ℕ → ℕ → ℕ → Type 0
ValueRead s at n next = PartRead (10 ^ 10) s at n (decimal n) next

value_read_of : (s : List ℕ) (at n next : ℕ) → n < 10 ^ 10 → drop at s ≡ decimal n ++ drop next s →
    next ≡ at + length (decimal n) → at < length s → ValueRead s at n next
value_read_of s at n next h e ends l =
    let lengths : length s - at ≡ length (decimal n) + (length s - next) =
    simp (length-append, length-drop) at (ap length e) in
    record { below = h; text = e; above = omega (arith, decimal_some n); within = omega arith }

zero_read : (s : List ℕ) (at n next : ℕ) → get_or s at 0 ≡ 48 → at < length s → 0 ≡ n → at + 1 ≡ next →
    ValueRead s at n next
zero_read s at n next z l zero_is ends =
    let is : decimal n ≡ 48 ∷ [] = ap decimal (sym zero_is) ∙ decimal_small 0 (omega arith) in
    value_read_of s at n next (omega arith)
    (byte_there s at l ∙ ap₂ (λ (b k : ℕ). b ∷ drop k s) z ends
    ∙ sym (ap (λ (l : List ℕ). l ++ drop next s) is))
    (omega (arith, ap length is)) l

digit_read : (s : List ℕ) (at n next : ℕ) → 48 < get_or s at 0 → get_or s at 0 ≤ 57 → at < length s →
    Took 9 (get_or s at 0 - 48) s (at + 1) n next → ValueRead s at n next
digit_read s at n next low high l t =
    let byte : ℕ = get_or s at 0 in
    let is : decimal n ≡ byte ∷ t.bytes =
    ap decimal (sym t.says) ∙ decimal_folded (byte - 48) (omega arith) t.digits
    ∙ ap (λ (l : List ℕ). l ++ t.bytes)
    (decimal_small (byte - 48) (omega arith) ∙ ap (λ (b : ℕ). b ∷ []) (omega arith)) in
    let power : 10 ^ length t.bytes ≤ 10 ^ 9 = pow-le-pow_right (omega arith) t.few in
    let ten : byte - 48 + 1 ≤ 10 = omega arith in
    let below : n < 10 ^ 10 =
    rw (← t.says) (lt_of_lt_of_le (below_power (byte - 48) t.digits)
    (le_trans (mul-le-mul_right (10 ^ length t.bytes) ten) (mul-le-mul_left 10 power))) in
    value_read_of s at n next below
    (byte_there s at l ∙ ap (λ (l : List ℕ). byte ∷ l) t.text
    ∙ sym (ap (λ (l : List ℕ). l ++ drop next s) is))
    (omega (arith, ap length is)) l

value_digit_first : (s : List ℕ) (at n next : ℕ) → read_value s at ≡ Some (n, next) → is_digit (get_or s at 0) ≡ true
value_digit_first s at n next e = elim (either (is_digit (get_or s at 0))) [
  | inl d ↦ d
  | inr d ↦ absurd (none-some (n, next) (sym (value_none s at d) ∙ e))
]

pub value_read : (s : List ℕ) (at n next : ℕ) → read_value s at ≡ Some (n, next) → ValueRead s at n next
value_read s at n next e =
    let d : is_digit (get_or s at 0) ≡ true = value_digit_first s at n next e in
    let b : DigitByte (get_or s at 0) = digit_byte (get_or s at 0) d in
    let l : at < length s = digit_within s at d in
    elim (dec_lt 48 (get_or s at 0)) [
      | yes low ↦
          let same : more_digits 9 (get_or s at 0 - 48) s (at + 1) ≡ (n, next) =
          same_Some _ _ (sym (value_digit s at (λ z. omega arith) d) ∙ e) in
          digit_read s at n next low b.high l (rw same at (took 9 (get_or s at 0 - 48) s (at + 1)))
      | no low ↦
          let z : get_or s at 0 ≡ 48 = omega arith in
          let same = some_pair_parts 0 n (at + 1) next (sym (value_zero s at z) ∙ e) in
          zero_read s at n next z l same.0 same.1
    ]

pub value_below : (s : List ℕ) (at n next : ℕ) → Some (n, next) ≡ read_value s at → n < 10 ^ 10
value_below s at n next e = (value_read s at n next (sym e)).below

-- It fits 64 bits with a sign.
pub value_fits : (s : List ℕ) (at n next : ℕ) → read_value s at ≡ Some (n, next) → n < 2 ^ 63
value_fits s at n next e = omega (arith, (value_read s at n next e).below)

-- A value doesn't begin with a minus.
pub no_minus : (s : List ℕ) (at n next : ℕ) → read_value s at ≡ Some (n, next) → byte_is s at 45 ≡ false
no_minus s at n next e =
    let b : DigitByte (get_or s at 0) = digit_byte (get_or s at 0) (value_digit_first s at n next e) in
    byte_is_read s at 45 (omega arith) ∙ ne_eqb (get_or s at 0) 45 (λ m. omega arith)

-- ROUND TRIP of a number with a sign.
pub signed_round : (z : ℤ) (s : List ℕ) (at : ℕ) (rest : List ℕ) → nat_abs z < 10 ^ 10 →
    drop at s ≡ signed_decimal z ++ rest → is_digit (get_or rest 0 0) ≡ false →
    read_signed s at ≡ Some (z, at + length (signed_decimal z))
unfolding signed_decimal read_signed
signed_round z s at rest h e d =
    sign_round read_value decimal z s at rest (λ n place below text. value_round n s place rest below text d)
    (no_minus s at) h e

pub signed_round_trip : (z : ℤ) (rest : List ℕ) → nat_abs z < 10 ^ 10 → is_digit (get_or rest 0 0) ≡ false →
    read_signed (signed_decimal z ++ rest) 0 ≡ Some (z, length (signed_decimal z))
signed_round_trip z rest h d =
    signed_round z (signed_decimal z ++ rest) 0 rest h refl d
    ∙ ap (λ (k : ℕ). Some (z, k)) (zero-add (length (signed_decimal z)))

-- A number with a sign that was read, in the same terms as a value.
abbrev pub SignedRead : List ℕ → ℕ → ℤ → ℕ → Type 0
SignedRead s at z next = PartRead (10 ^ 10) s at (nat_abs z) (signed_decimal z) next

pub signed_read : (s : List ℕ) (at : ℕ) (z : ℤ) (next : ℕ) → read_signed s at ≡ Some (z, next) →
    SignedRead s at z next
unfolding signed_decimal read_signed
signed_read s at z next e = sign_read read_value decimal s (value_read s) at z next e
