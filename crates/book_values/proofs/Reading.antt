-- How a value is read: by the byte at its place, then digit by digit, the number staying below 10^10; and what was read.
-- Assumes nothing.
use Rattle.std.specs.Prelude.{None, Some}
use Rattle.std.proofs.lemmas.Option.{none-some, same_Some}
use mathlib.Core.Path.{◌≡◌, refl, sym, ◌∙◌, ap}
use mathlib.Core.Bool.{Bool, true, false, true≢false}
use mathlib.Core.List.{List, [], ◌∷◌, ◌++◌}
use mathlib.Core.Logic.{◌⊎◌, inl, inr}
use Prim.Native.Nat.{ℕ, zero, suc, ◌+◌, ◌-◌, ◌*◌, ◌^◌, ◌≤◌, ◌<◌}
use native.Mathlib.Nat.{pow-suc, one-le-pow, mul-le-mul_left, le_trans}
use native.Mathlib.Numerals.{add-one, sub-one}
use native.Mathlib.Omega.{arith}
use native.Mathlib.Decide.{dec_lt}
use borrow.Author.Tests.{eq-eqb, ne_eqb, lt-ltb, le-ltb, le-leb, lt-leb}
use lib.Dec.{eqb}
use lib.ListN.{length, get_or, drop, get_or-eq_default}
use lib.Seq.{drop-cons}
use Rattle.book_digits.proofs.Digits.{DigitByte, Digits, none, more, folded, one-more-below}
use Rattle.book_values.specs.Values.{is_digit, digit_at, byte_is, more_digits, read_value}

-- A test is true or false, and not both.
pub either : (t : Bool) → (t ≡ true) ⊎ (t ≡ false)
either true = inl refl
either false = inr refl

pub contrary : {t : Bool} → t ≡ true → t ≡ false → ⊥
contrary p q = true≢false (sym p ∙ q)

-- A digit is one of the bytes 48 to 57, and no other byte is.
pub digit_true : {byte : ℕ} → DigitByte byte → is_digit byte ≡ true
unfolding is_digit
digit_true {byte} b = simp (le-leb 48 byte b.low, le-leb byte 57 b.high)

pub digit_below : (byte : ℕ) → byte < 48 → is_digit byte ≡ false
unfolding is_digit
digit_below byte h = simp (lt-leb 48 byte h)

pub digit_above : (byte : ℕ) → 57 < byte → is_digit byte ≡ false
unfolding is_digit
digit_above byte h = simp (le-leb 48 byte (omega arith), lt-leb byte 57 h)

pub digit_byte : (byte : ℕ) → is_digit byte ≡ true → DigitByte byte
digit_byte byte e = elim (dec_lt byte 48) [
  | yes h ↦ absurd (contrary e (digit_below byte h))
  | no l ↦ elim (dec_lt 57 byte) [
    | yes h ↦ absurd (contrary e (digit_above byte h))
    | no h ↦ record { low = omega arith; high = omega arith }
  ]
]

-- Past the end of a text there is no digit, so where there is one the text goes on.
pub no_digit_past : (s : List ℕ) (at : ℕ) → length s ≤ at → is_digit (get_or s at 0) ≡ false
no_digit_past s at h = rw (get_or-eq_default s 0 h) (digit_below 0 (omega arith))

pub digit_within : (s : List ℕ) (at : ℕ) → is_digit (get_or s at 0) ≡ true → at < length s
digit_within s at e = elim (dec_lt at (length s)) [
  | yes h ↦ h
  | no h ↦
      absurd (contrary e (no_digit_past s at (omega arith)))
]

-- Where no digit is left to read, or none stands there, the reading stops; else it goes on after the digit.
pub more-none : (left value : ℕ) (s : List ℕ) (at : ℕ) → left ≤ 0 → more_digits left value s at ≡ (value, at)
unfolding more_digits
more-none zero value s at h = refl
more-none (suc left) value s at h = absurd (omega arith)

pub more_stop : (left value : ℕ) (s : List ℕ) (at : ℕ) → is_digit (get_or s at 0) ≡ false →
    more_digits left value s at ≡ (value, at)
unfolding more_digits
more_stop zero value s at e = refl
more_stop (suc left) value s at e = rw e

pub more_step : (left value : ℕ) (s : List ℕ) (at : ℕ) → 0 < left → is_digit (get_or s at 0) ≡ true →
    more_digits left value s at ≡ more_digits (left - 1) (10 * value + (get_or s at 0 - 48)) s (at + 1)
unfolding more_digits
more_step zero value s at h e = absurd (omega arith)
more_step (suc left) value s at h e = rw (e, sub-one)

-- With `left` digits to come, the number is so small that they keep it below 10^10.
pub room_step : (value digit left : ℕ) → 0 < left → digit ≤ 9 → (value + 1) * 10 ^ left ≤ 10 ^ 10 →
    (10 * value + digit + 1) * 10 ^ (left - 1) ≤ 10 ^ 10
room_step value digit zero h d room = absurd (omega arith)
room_step value digit (suc left) h d room =
    rw sub-one (le_trans (one-more-below value digit (10 ^ left) d) (rw (← pow-suc 10 left) room))

pub room_below : (value left : ℕ) → (value + 1) * 10 ^ left ≤ 10 ^ 10 → value < 10 ^ 10
room_below value left room = omega (arith, mul-le-mul_left (value + 1) (one-le-pow left 10 (omega arith)))

-- The digit at a place, or none there.
pub digit_some : (s : List ℕ) (at : ℕ) → is_digit (get_or s at 0) ≡ true → digit_at s at ≡ Some (get_or s at 0 - 48)
unfolding digit_at
digit_some s at e = rw e

pub digit_none : (s : List ℕ) (at : ℕ) → is_digit (get_or s at 0) ≡ false → digit_at s at ≡ None
unfolding digit_at
digit_none s at e = rw e

-- A digit that was found there.
pub record DigitFound (s : List ℕ) (at digit : ℕ) : Type 0 where
  pub test : is_digit (get_or s at 0) ≡ true
  pub is : digit ≡ get_or s at 0 - 48
  pub byte : DigitByte (get_or s at 0)
  pub within : at < length s

pub digit_found : (s : List ℕ) (at digit : ℕ) → Some digit ≡ digit_at s at → DigitFound s at digit
digit_found s at digit e = elim (either (is_digit (get_or s at 0))) [
  | inl t ↦
      record {
        test = t;
        is = same_Some _ _ (e ∙ digit_some s at t);
        byte = digit_byte _ t;
        within = digit_within s at t;
      }
  | inr t ↦ absurd (none-some digit (sym (digit_none s at t) ∙ sym e))
]

pub digit_small : (s : List ℕ) (at digit : ℕ) → Some digit ≡ digit_at s at → digit < 10
digit_small s at digit e = let d : DigitFound s at digit = digit_found s at digit e in omega (arith, d.is, d.byte)

pub digit_place : (s : List ℕ) (at digit : ℕ) → Some digit ≡ digit_at s at → at < length s
digit_place s at digit e = (digit_found s at digit e).within

pub digit_missing : (s : List ℕ) (at : ℕ) → None ≡ digit_at s at → is_digit (get_or s at 0) ≡ false
digit_missing s at e = elim (either (is_digit (get_or s at 0))) [
  | inl t ↦ absurd (none-some _ (e ∙ digit_some s at t))
  | inr t ↦ t
]

-- A reading of more digits on the way, after so many of them: what is left to read is the whole, and there is room for the
-- digits to come.
pub record Reading (s : List ℕ) (at first turn value next : ℕ) : Type 0 where
  pub whole : more_digits (9 - turn) value s next ≡ more_digits 9 first s at
  pub room : (value + 1) * 10 ^ (9 - turn) ≤ 10 ^ 10
  pub within : next ≤ length s

pub begun : (s : List ℕ) (at first : ℕ) → at ≤ length s → first < 10 → Reading s at first 0 first at
begun s at first h d =
    record { whole = refl; room = omega arith; within = h }

module _ (s : List ℕ) (at first turn value next : ℕ) (r : Reading s at first turn value next) where
  pub value_below : value < 10 ^ 10
  value_below = room_below value (9 - turn) r.room

  pub taken : (digit : ℕ) → turn < 9 → Some digit ≡ digit_at s next →
      Reading s at first (turn + 1) (10 * value + digit) (next + 1)
  taken digit h e =
      let d : DigitFound s next digit = digit_found s next digit e in
      let left : 9 - (turn + 1) ≡ 9 - turn - 1 = omega arith in
      record {
        whole = rw (left, d.is) (sym (more_step (9 - turn) value s next (omega arith) d.test) ∙ r.whole);
        room = rw left (room_step value digit (9 - turn) (omega arith) (omega (arith, d.byte)) r.room);
        within = omega (arith, d.within);
      }

  pub stops : None ≡ digit_at s next → (value, next) ≡ more_digits 9 first s at
  stops e = sym (more_stop (9 - turn) value s next (digit_missing s next e)) ∙ r.whole

  pub ends : 9 ≤ turn → (value, next) ≡ more_digits 9 first s at
  ends h = sym (more-none (9 - turn) value s next (omega arith)) ∙ r.whole

-- What stands at a place decides how a value there is read: no digit, the digit 0, or another one.
pub value_none : (s : List ℕ) (at : ℕ) → is_digit (get_or s at 0) ≡ false → read_value s at ≡ None
unfolding read_value
value_none s at e = rw (ne_eqb (get_or s at 0) 48 (not_zero e), e)
  where
    not_zero : is_digit (get_or s at 0) ≡ false → get_or s at 0 ≡ 48 → ⊥
    not_zero e z =
        contrary (ap is_digit z ∙ digit_true (record { low = omega arith; high = omega arith })) e

pub value_zero : (s : List ℕ) (at : ℕ) → get_or s at 0 ≡ 48 → read_value s at ≡ Some (0, at + 1)
unfolding read_value
value_zero s at e = rw (eq-eqb (get_or s at 0) 48 e)

pub value_digit : (s : List ℕ) (at : ℕ) → (get_or s at 0 ≡ 48 → ⊥) → is_digit (get_or s at 0) ≡ true →
    read_value s at ≡ Some (more_digits 9 (get_or s at 0 - 48) s (at + 1))
unfolding read_value
value_digit s at z e = rw (ne_eqb (get_or s at 0) 48 z, e)

-- The same by the digit at the place.
pub value_none_at : (s : List ℕ) (at : ℕ) → None ≡ digit_at s at → None ≡ read_value s at
value_none_at s at e = sym (value_none s at (digit_missing s at e))

pub value_zero_at : (s : List ℕ) (at digit : ℕ) → Some digit ≡ digit_at s at → digit ≡ 0 → Some (0, at + 1) ≡ read_value s at
value_zero_at s at digit e z =
    let d : DigitFound s at digit = digit_found s at digit e in
    sym (value_zero s at (omega (arith, d.is, d.byte)))

pub value_digit_at : (s : List ℕ) (at digit : ℕ) → Some digit ≡ digit_at s at → (digit ≡ 0 → ⊥) →
    Some (more_digits 9 digit s (at + 1)) ≡ read_value s at
value_digit_at s at digit e z =
    let d : DigitFound s at digit = digit_found s at digit e in
    rw d.is (sym (value_digit s at (λ byte. z (omega arith)) d.test))

-- A byte that is not 0 stands at a place where it is read there.
pub byte_is_read : (s : List ℕ) (at byte : ℕ) → 0 < byte → byte_is s at byte ≡ eqb (get_or s at 0) byte
unfolding byte_is
byte_is_read s at byte h = elim (dec_lt at (length s)) [
  | yes l ↦ rw (lt-ltb at (length s) l)
  | no l ↦
      let past : length s ≤ at = omega arith in
      rw (le-ltb at (length s) past, get_or-eq_default s 0 past, ne_eqb 0 byte (λ z. omega arith))
]

pub byte_is_within : (s : List ℕ) (at byte : ℕ) → byte_is s at byte ≡ true → at < length s
unfolding byte_is
byte_is_within s at byte e = elim (dec_lt at (length s)) [
  | yes l ↦ l
  | no l ↦
      let past : length s ≤ at = omega arith in
      absurd (contrary (rw (le-ltb at (length s) past) at e) refl)
]

-- What was read by `more_digits`: these bytes, all digits.
pub record Took (left value : ℕ) (s : List ℕ) (at n next : ℕ) : Type 0 where
  pub bytes : List ℕ
  pub digits : Digits bytes
  pub few : length bytes ≤ left
  pub text : drop at s ≡ bytes ++ drop next s
  pub ends : next ≡ at + length bytes
  pub says : folded value bytes ≡ n

stopped : (left value : ℕ) (s : List ℕ) (at : ℕ) → Took left value s at value at
stopped left value s at =
    record { bytes = []; digits = none; few = omega arith; text = refl; ends = omega arith; says = refl }

took_one : (left value : ℕ) (s : List ℕ) (at n next : ℕ) → is_digit (get_or s at 0) ≡ true →
    Took left (10 * value + (get_or s at 0 - 48)) s (at + 1) n next → Took (suc left) value s at n next
took_one left value s at n next e r =
    record {
      bytes = get_or s at 0 ∷ r.bytes;
      digits = more (digit_byte (get_or s at 0) e) r.digits;
      few = omega arith;
      text =
          drop-cons s at 0 (digit_within s at e)
          ∙ ap (λ (l : List ℕ). get_or s at 0 ∷ l) (ap (λ (k : ℕ). drop k s) (sym (add-one at)) ∙ r.text);
      ends = omega arith;
      says = r.says;
    }

pub took : (left value : ℕ) (s : List ℕ) (at : ℕ) →
    Took left value s at (more_digits left value s at).0 (more_digits left value s at).1
unfolding more_digits
took zero value s at = stopped 0 value s at
took (suc left) value s at = elim (either (is_digit (get_or s at 0))) [
  | inl d ↦
      rw d (took_one left value s at _ _ d (took left (10 * value + (get_or s at 0 - 48)) s (at + 1)))
  | inr d ↦ rw d (stopped (suc left) value s at)
]
