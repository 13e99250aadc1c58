-- A list of digits and the number that it says, and the digits of a number: they say it, the first is not 0, and a
-- digit more goes to their end. Assumes nothing.
use mathlib.Core.Path.{◌≡◌, refl, sym, ◌∙◌, ap, ap₂}
use mathlib.Core.List.{List, [], ◌∷◌, ◌++◌, append-nil}
use Prim.Native.Nat.{ℕ, zero, suc, ◌+◌, ◌-◌, ◌*◌, ◌/◌, ◌%◌, ◌^◌, ◌≤◌, ◌<◌}
use native.Mathlib.Nat.{pow-zero, pow-suc, mul-le-mul_right, lt_of_lt_of_le}
use native.Mathlib.Omega.{arith}
use native.Mathlib.Decide.{dec_lt}
use borrow.Author.Tests.{lt-ltb, le-ltb}
use lib.ListN.{length, length-append}
use lib.Seq.{append_snoc}
use Rattle.std.specs.Fmt as fmt
use Rattle.std.proofs.lemmas.Fmt.{AppendsLastDigit, decimal_from_appends, length-decimal-le_succ}
use Rattle.book_digits.specs.Digits.{digits_of, decimal}

-- Enough room for the digits is enough.
enough : (f g n : ℕ) → n < f → n < g → digits_of f n ≡ digits_of g n
unfolding digits_of
enough zero g n hf hg = absurd (omega arith)
enough (suc f) zero n hf hg = absurd (omega arith)
enough (suc f) (suc g) n hf hg = elim (dec_lt n 10) [
  | yes h ↦ simp (lt-ltb n 10 h)
  | no h ↦
      let ten : 10 ≤ n = omega arith in
      rw (le-ltb n 10 ten, enough f g (n / 10) (omega arith) (omega arith))
]

-- The decimal form of a number below ten is its digit, ..
pub decimal_small : (n : ℕ) → n < 10 → decimal n ≡ (48 + n) ∷ []
unfolding decimal digits_of
decimal_small n h = simp (lt-ltb n 10 h)

-- .. and that of any other is the form of its tenth, with its last digit.
pub decimal_large : (n : ℕ) → 10 ≤ n → decimal n ≡ decimal (n / 10) ++ ((48 + n % 10) ∷ [])
unfolding decimal digits_of
decimal_large n h =
    simp (le-ltb n 10 h)
    (ap (λ (ds : List ℕ). ds ++ ((48 + n % 10) ∷ [])) (enough n (suc (n / 10)) (n / 10) (omega arith) (omega arith)))

-- The digits that the library writes of a number below 2^64 are its decimal form.
appends_last : AppendsLastDigit digits_of
unfolding digits_of
appends_last = record { one = λ k n h. simp (lt-ltb n 10 h); more = λ k n h. simp (le-ltb n 10 h) }

pub decimal_printed : (n : ℕ) → n < 2 ^ 64 → fmt.decimal n ≡ decimal n
unfolding decimal
decimal_printed n h = sym (decimal_from_appends digits_of appends_last (suc n) n h (omega (arith, length-decimal-le_succ n h)))

-- It is one digit long, or one digit longer than that of its tenth.
pub length_small : (n : ℕ) → n < 10 → length (decimal n) ≡ 1
length_small n h = ap length (decimal_small n h)

pub length_large : (n : ℕ) → 10 ≤ n → length (decimal n) ≡ length (decimal (n / 10)) + 1
length_large n h = ap length (decimal_large n h) ∙ length-append (decimal (n / 10)) ((48 + n % 10) ∷ [])

-- A byte is a digit, and every byte of a list is one.
pub record DigitByte (byte : ℕ) : Type 0 where
  pub low : 48 ≤ byte
  pub high : byte ≤ 57

pub data Digits : List ℕ → Type 0 where
  none : Digits []
  more : {byte : ℕ} {bytes : List ℕ} → DigitByte byte → Digits bytes → Digits (byte ∷ bytes)

pub digits_append : {xs ys : List ℕ} → Digits xs → Digits ys → Digits (xs ++ ys)
digits_append none ys = ys
digits_append (more h xs) ys = more h (digits_append xs ys)

-- The number that digits say after those that make `value`.
abbrev pub folded : ℕ → List ℕ → ℕ
folded value [] = value
folded value (byte ∷ bytes) = folded (10 * value + (byte - 48)) bytes

folded_append : (value : ℕ) (xs ys : List ℕ) → folded value (xs ++ ys) ≡ folded (folded value xs) ys
folded_append value [] ys = refl
folded_append value (byte ∷ xs) ys = folded_append (10 * value + (byte - 48)) xs ys

-- The decimal form of a number above 0: a digit 1 to 9 and more digits, which say the number.
pub record Form (n : ℕ) : Type 0 where
  pub first : ℕ
  pub rest : List ℕ
  pub is : decimal n ≡ (48 + first) ∷ rest
  pub low : 1 ≤ first
  pub high : first ≤ 9
  pub digits : Digits rest
  pub says : folded first rest ≡ n

one_more : (n : ℕ) → 10 ≤ n → Form (n / 10) → Form n
one_more n h form =
    record {
      first = form.first;
      rest = form.rest ++ ((48 + n % 10) ∷ []);
      is = decimal_large n h ∙ ap (λ (ds : List ℕ). ds ++ ((48 + n % 10) ∷ [])) form.is;
      low = form.low;
      high = form.high;
      digits = digits_append form.digits (more (record { low = omega arith; high = omega arith }) none);
      says = folded_append form.first form.rest ((48 + n % 10) ∷ []) ∙ omega (arith, form.says);
    }

form_within : (f n : ℕ) → n < f → 1 ≤ n → Form n
form_within zero n hf h = absurd (omega arith)
form_within (suc f) n hf h = elim (dec_lt n 10) [
  | yes small ↦
      record {
        first = n;
        rest = [];
        is = decimal_small n small;
        low = h;
        high = omega arith;
        digits = none;
        says = refl;
      }
  | no large ↦ one_more n (omega arith) (form_within f (n / 10) (omega arith) (omega arith))
]

pub form : (n : ℕ) → 1 ≤ n → Form n
form n h = form_within (suc n) n (omega arith) h

-- A decimal form says its number, ..
pub says_decimal : (n : ℕ) → folded 0 (decimal n) ≡ n
says_decimal zero = rw (decimal_small 0 (omega arith))
says_decimal (suc n) =
    let f : Form (suc n) = form (suc n) (omega arith) in
    rw f.is (ap (λ (v : ℕ). folded v f.rest) (omega arith) ∙ f.says)

-- .. and digits after a number above 0 stand after its decimal form.
pub decimal_folded : (value : ℕ) {bytes : List ℕ} → 1 ≤ value → Digits bytes →
    decimal (folded value bytes) ≡ decimal value ++ bytes
decimal_folded value h none = sym (append-nil (decimal value))
decimal_folded value h (more {byte} {bytes} d ds) =
    let v : ℕ = 10 * value + (byte - 48) in
    let tenth : v / 10 ≡ value = omega arith in
    let last : 48 + v % 10 ≡ byte = omega arith in
    decimal_folded v (omega arith) ds
    ∙ ap (λ (xs : List ℕ). xs ++ bytes)
    (decimal_large v (omega arith) ∙ ap₂ (λ (q d : ℕ). decimal q ++ (d ∷ [])) tenth last)
    ∙ append_snoc (decimal value) byte bytes

-- A number below a power of ten has at most as many digits as the power has zeros.
pub length-within : (k n : ℕ) → n < 10 ^ suc k → length (decimal n) ≤ suc k
length-within zero n h = omega (arith, length_small n (omega arith))
length-within (suc k) n h = elim (dec_lt n 10) [
  | yes small ↦ omega (arith, length_small n small)
  | no large ↦
      let tenth : n / 10 < 10 ^ suc k = omega (arith, pow-suc 10 (suc k)) in
      omega (arith, length_large n (omega arith), length-within k (n / 10) tenth)
]

-- A digit more: what is below a number's successor stays below it, ten times over.
pub one-more-below : (value digit power : ℕ) → digit ≤ 9 → (10 * value + digit + 1) * power ≤ (value + 1) * (power * 10)
one-more-below value digit power h =
    let up : (10 * value + digit + 1) * power ≤ (10 * value + 10) * power = mul-le-mul_right power (omega arith) in
    omega arith

-- The number that digits say after a value is below the value's successor with as many zeros.
pub below_power : (value : ℕ) {bytes : List ℕ} → Digits bytes → folded value bytes < (value + 1) * 10 ^ length bytes
below_power value none = rw (pow-zero 10) (omega arith)
below_power value (more {byte} {bytes} d ds) =
    rw (pow-suc 10 (length bytes))
    (lt_of_lt_of_le (below_power (10 * value + (byte - 48)) ds)
    (one-more-below value (byte - 48) (10 ^ length bytes) (omega arith)))

-- It has at least one digit, at most 10 below 10^10, and at most 20 in 64 bits.
pub decimal_some : (n : ℕ) → 1 ≤ length (decimal n)
decimal_some zero = rw (decimal_small 0 (omega arith)) (omega arith)
decimal_some (suc n) = rw (form (suc n) (omega arith)).is (omega arith)

pub decimal_ten : (n : ℕ) → n < 10 ^ 10 → length (decimal n) ≤ 10
decimal_ten n h = length-within 9 n h

pub decimal_twenty : (n : ℕ) → n < 2 ^ 64 → length (decimal n) ≤ 20
decimal_twenty n h = length-within 19 n (omega arith)
