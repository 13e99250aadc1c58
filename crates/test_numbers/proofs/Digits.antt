-- The digits that a text begins with, and their number.
use Rattle.std.proofs.Common.{◌≡◌, ◌∙◌, ap, subst, ℕ, ◌+◌, ◌-◌, ◌*◌, ◌<◌, ◌≤◌, ◌^◌, true}
use Rattle.std.proofs.Common.{List, length, get_or, take, drop, Option, Some, None, arith}
use Rattle.std.proofs.lemmas.Bool.Decides.{nat_tests}
use Rattle.std.specs.Char.{is_ascii_digit, digit_value}
use Rattle.std.specs.List.{All, prefix_len, take_while}
use Rattle.std.specs.Str.Parse.{digits_value}
use Rattle.std.proofs.lemmas.Int.Digits.{digits_value_more}
use Rattle.std.proofs.lemmas.List.{get_or-take, length-take-le}
use Rattle.std.proofs.lemmas.List.Sums.{prefix_len-le-length, prefix_len_passes}
use Rattle.std.proofs.lemmas.Str.Parse.{digits_value-take-le}
use Rattle.test_numbers.specs.Numbers.{bytes_read, number_of, digits_read}

-- Bytes that are digits.
abbrev pub AreDigits : List ℕ → Type 0
AreDigits bytes = All (λ byte. is_ascii_digit byte ≡ true) bytes

first_digits : (text : List ℕ) → AreDigits (take_while is_ascii_digit text)
first_digits text k d below =
    let many = length-take-le (prefix_len is_ascii_digit text) text (prefix_len-le-length is_ascii_digit text) in
    let early : k < prefix_len is_ascii_digit text = omega (arith, many) in
    rw (get_or-take (prefix_len is_ascii_digit text) text k d early)
    (prefix_len_passes is_ascii_digit text k d early)

-- ---- what `value` asks

-- One more digit.
pub one_more : (digits : List ℕ) (i n : ℕ) → AreDigits digits → i < length digits
    → n ≡ digits_value 10 (take i digits)
    → n * 10 + (get_or digits i 0 - 48) ≡ digits_value 10 (take (i + 1) digits)
one_more digits i n all below so_far =
    let digit : is_ascii_digit (get_or digits i 0) ≡ true = all i 0 below in
    let worth : digit_value (get_or digits i 0) ≡ get_or digits i 0 - 48 = grind (arith, nat_tests) in
    omega (arith, digits_value_more 10 digits i below)

-- Where the first digits are above 64 bits, all of them are.
pub above : (digits : List ℕ) (i : ℕ) → 2 ^ 64 ≤ digits_value 10 (take i digits) → None ≡ number_of digits
above digits i large =
    let most : 2 ^ 64 ≤ digits_value 10 digits = omega (arith, digits_value-take-le 10 digits i (omega arith)) in
    grind (arith, nat_tests)

-- ---- what `digits` asks

digits_there : (text : List ℕ) (n : ℕ) → n ≡ prefix_len is_ascii_digit text
    → bytes_read n text ≡ (Some (take_while is_ascii_digit text), drop (prefix_len is_ascii_digit text) text)
digits_there text n e = rw e (grind (arith, nat_tests, prefix_len-le-length))

-- There are as many bytes as were counted.
pub digits_come : (text left : List ℕ) (n : ℕ) → n ≡ prefix_len is_ascii_digit text
    → (None, left) ≡ bytes_read n text → ⊥
digits_come text left n e h = let k = ap (λ p. p.0) (h ∙ digits_there text n e) in absurd cc

-- They are digits.
pub bytes_are_digits : (text bytes left : List ℕ) (n : ℕ) → n ≡ prefix_len is_ascii_digit text
    → (Some bytes, left) ≡ bytes_read n text → AreDigits bytes
bytes_are_digits text bytes left n e there =
    let k = ap (λ p. p.0) (there ∙ digits_there text n e) in
    let same : take_while is_ascii_digit text ≡ bytes = cc in
    subst AreDigits same (first_digits text)

-- Their number is read, and what comes after them is left.
pub number_is_read : (text bytes left : List ℕ) (n : ℕ) (number : Option ℕ)
    → n ≡ prefix_len is_ascii_digit text → (Some bytes, left) ≡ bytes_read n text
    → number ≡ number_of bytes → (number, left) ≡ digits_read text
unfolding digits_read
number_is_read text bytes left n number e there value =
    let k = ap (λ p. p.0) (there ∙ digits_there text n e) in
    let same : bytes ≡ take_while is_ascii_digit text = cc in
    rw (value, same, ap (λ p. p.1) (there ∙ digits_there text n e))
