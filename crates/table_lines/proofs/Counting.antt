-- How many lines a text has: what each byte adds, on the way and at the end, and that a line's text adds one.
-- Assumes nothing.
use Rattle.std.specs.Prelude.{None, Some, slice_get}
use Rattle.std.proofs.lemmas.Option.{none-some, get_or_from_slice_get, slice_get-get_or}
use Rattle.std.proofs.lemmas.List.Sums.{sum_by-cons, sum_by-append, count_by-le-length, count_by_more_yes, count_by_more_no}
use mathlib.Core.Path.{◌≡◌, refl, sym, ◌∙◌, ap}
use mathlib.Core.Bool.{not, cond}
use mathlib.Core.List.{List, [], ◌∷◌, ◌++◌, append-nil}
use mathlib.Core.Logic.{◌⊎◌, inl, inr}
use Prim.Native.Nat.{ℕ, zero, suc, ◌+◌, ◌-◌, ◌/◌, ◌%◌, ◌≤◌, ◌<◌}
use native.Mathlib.Omega.{arith}
use borrow.Author.Tests.{eq-eqb, ne_eqb, eqb-true, eqb-false}
use lib.Dec.{eqb}
use lib.IntN.{ℤ, pos, negsuc}
use lib.ListN.{length, get_or, take, length-append}
use lib.Seq.{get_or-append-add, length-take-le, take_all}
use Rattle.book_digits.specs.Digits.{decimal, line_end}
use Rattle.book_digits.proofs.Digits.{Digits, none, more, Form, form, decimal_small}
use Rattle.book_values.proofs.Reading.{either}
use Rattle.table_lines.specs.Lines.{line_ends, bytes_after, line_count}
use Rattle.table_lines.specs.LineText.{tenths_text, signed_tenths_text}

-- ---- the bytes 10 of a text

-- A byte is byte 10 or another.
pub is_end : (byte : ℕ) → (byte ≡ 10) ⊎ (byte ≡ 10 → ⊥)
is_end byte = elim (either (eqb byte 10)) [
  | inl e ↦ inl (eqb-true byte 10 e)
  | inr e ↦ inr (eqb-false byte 10 e)
]

-- No bytes are none.
pub ends_empty : line_ends [] ≡ 0
unfolding line_ends
ends_empty = refl

-- A byte adds one where it is byte 10, and nothing where it is another.
pub end_adds : (byte : ℕ) (bytes : List ℕ) → byte ≡ 10 → line_ends (byte ∷ bytes) ≡ 1 + line_ends bytes
unfolding line_ends
end_adds byte bytes e =
    let one : cond (eqb byte 10) 1 0 ≡ 1 = rw (eq-eqb byte 10 e) in
    sum_by-cons (λ x. cond (eqb x 10) 1 0) byte bytes ∙ ap (λ (k : ℕ). k + line_ends bytes) one

pub other_adds : (byte : ℕ) (bytes : List ℕ) → (byte ≡ 10 → ⊥) → line_ends (byte ∷ bytes) ≡ line_ends bytes
unfolding line_ends
other_adds byte bytes e =
    let none : cond (eqb byte 10) 1 0 ≡ 0 = rw (ne_eqb byte 10 e) in
    sum_by-cons (λ x. cond (eqb x 10) 1 0) byte bytes ∙ ap (λ (k : ℕ). k + line_ends bytes) none ∙ omega arith

ends-append : (xs ys : List ℕ) → line_ends (xs ++ ys) ≡ line_ends xs + line_ends ys
unfolding line_ends
ends-append xs ys = sum_by-append (λ x. cond (eqb x 10) 1 0) xs ys

pub none_joined : (xs ys : List ℕ) → line_ends xs ≡ 0 → line_ends ys ≡ 0 → line_ends (xs ++ ys) ≡ 0
none_joined xs ys e f = omega (arith, ends-append xs ys)

-- There are at most as many as bytes; fewer where a byte is another; and some where one is there.
pub ends_most : (s : List ℕ) → line_ends s ≤ length s
unfolding line_ends
ends_most s = count_by-le-length (λ byte. eqb byte 10) s

pub ends-fewer : (s : List ℕ) (k : ℕ) → k < length s → (get_or s k 10 ≡ 10 → ⊥) → line_ends s < length s
ends-fewer [] k h e = absurd (omega arith)
ends-fewer (byte ∷ s) zero h e = omega (arith, other_adds byte s e, ends_most s)
ends-fewer (byte ∷ s) (suc k) h e = elim (is_end byte) [
  | inl b ↦ omega (arith, end_adds byte s b, ends-fewer s k (omega arith) e)
  | inr b ↦ omega (arith, other_adds byte s b, ends_most s)
]

-- Of the bytes before a place: there are at most as many, and the byte at the place adds one or none.
pub ends_front : (s : List ℕ) (i : ℕ) → i ≤ length s → line_ends (take i s) ≤ i
ends_front s i h = omega (arith, ends_most (take i s), length-take-le i s h)

pub ends_one_more : (s : List ℕ) (i : ℕ) → i < length s → get_or s i 0 ≡ 10 → line_ends (take (i + 1) s) ≡ line_ends (take i s) + 1
unfolding line_ends
ends_one_more s i h e = count_by_more_yes (λ byte. eqb byte 10) s i 0 h (eq-eqb (get_or s i 0) 10 e)

pub ends_no_more : (s : List ℕ) (i : ℕ) → i < length s → (get_or s i 0 ≡ 10 → ⊥) → line_ends (take (i + 1) s) ≡ line_ends (take i s)
unfolding line_ends
ends_no_more s i h e = count_by_more_no (λ byte. eqb byte 10) s i 0 h (ne_eqb (get_or s i 0) 10 e)

pub ends_whole : (s : List ℕ) (i : ℕ) → length s ≤ i → line_ends (take i s) ≡ line_ends s
ends_whole s i h = ap line_ends (take_all i s h)

pub ends_some : (s : List ℕ) (k : ℕ) → k < length s → get_or s k 10 ≡ 10 → 0 < line_ends s
ends_some [] k h e = absurd (omega arith)
ends_some (byte ∷ s) zero h e = omega (arith, end_adds byte s e)
ends_some (byte ∷ s) (suc k) h e = elim (is_end byte) [
  | inl b ↦ omega (arith, end_adds byte s b)
  | inr b ↦ omega (arith, other_adds byte s b, ends_some s k (omega arith) e)
]

-- ---- the bytes after the last byte 10

-- The last byte says whether there are any; a text without bytes has none.
pub count-ended : (s : List ℕ) → get_or s (length s - 1) 10 ≡ 10 → line_count s ≡ line_ends s
unfolding line_count bytes_after
count-ended s e = rw (eq-eqb (get_or s (length s - 1) 10) 10 e) (omega arith)

pub count_open : (s : List ℕ) → (get_or s (length s - 1) 10 ≡ 10 → ⊥) → line_count s ≡ line_ends s + 1
unfolding line_count bytes_after
count_open s e = rw (ne_eqb (get_or s (length s - 1) 10) 10 e)

-- The same by the last byte that was found.
module _ (s : List ℕ) (last : ℕ) (there : Some last ≡ slice_get s (length s - 1)) where
  found_is : get_or s (length s - 1) 10 ≡ last
  found_is = get_or_from_slice_get s (length s - 1) last 10 (sym there)

  pub last_ended : last ≡ 10 → line_ends s ≡ line_count s
  last_ended e = sym (count-ended s (found_is ∙ e))

  pub last_open : (last ≡ 10 → ⊥) → line_ends s + 1 ≡ line_count s
  last_open e = sym (count_open s (λ l. e (sym found_is ∙ l)))

pub no_last : (s : List ℕ) → None ≡ slice_get s (length s - 1) → line_ends s ≡ line_count s
no_last [] e = sym (count-ended [] refl)
no_last (byte ∷ s) e =
    let place : ℕ = length (byte ∷ s) - 1 in
    absurd (none-some _ (e ∙ slice_get-get_or (byte ∷ s) place 0 (omega arith)))

-- After a line's end the bytes are those of the rest.
last_append : (xs ys : List ℕ) → 0 < length ys →
    get_or (xs ++ ys) (length (xs ++ ys) - 1) 10 ≡ get_or ys (length ys - 1) 10
last_append xs ys h =
    let place : length (xs ++ ys) - 1 ≡ length xs + (length ys - 1) = simp length-append (omega arith) in
    ap (λ (k : ℕ). get_or (xs ++ ys) k 10) place ∙ get_or-append-add xs ys (length ys - 1) 10

after-end : (first rest : List ℕ) → bytes_after (first ++ line_end ++ rest) ≡ bytes_after rest
unfolding bytes_after
after-end first [] =
    ap bytes_after (append-nil (first ++ line_end))
    ∙ ap (λ (byte : ℕ). not (eqb byte 10)) (last_append first line_end (omega arith))
after-end first (byte ∷ rest) =
    ap (λ (byte : ℕ). not (eqb byte 10)) (last_append (first ++ line_end) (byte ∷ rest) (omega arith))

-- ---- a line's text

-- Digits are no bytes 10, ..
ends_digits : {bytes : List ℕ} → Digits bytes → line_ends bytes ≡ 0
ends_digits none = ends_empty
ends_digits (more {byte} {bytes} d ds) = other_adds byte bytes (λ e. omega arith) ∙ ends_digits ds

pub ends-decimal : (n : ℕ) → line_ends (decimal n) ≡ 0
ends-decimal zero =
    rw (decimal_small 0 (omega arith)) (other_adds 48 [] (λ e. omega arith) ∙ ends_empty)
ends-decimal (suc n) =
    let f : Form (suc n) = form (suc n) (omega arith) in
    ap line_ends f.is ∙ other_adds (48 + f.first) f.rest (λ e. omega arith) ∙ ends_digits f.digits

-- .. and neither are the other bytes of a number in tenths.
pub ends_tenths : (n : ℕ) → line_ends (tenths_text n) ≡ 0
unfolding tenths_text
ends_tenths n =
    none_joined (decimal (n / 10)) (46 ∷ (48 + n % 10) ∷ []) (ends-decimal (n / 10))
    (other_adds 46 ((48 + n % 10) ∷ []) (λ e. omega arith)
    ∙ other_adds (48 + n % 10) [] (λ e. omega arith) ∙ ends_empty)

pub ends_signed : (z : ℤ) → line_ends (signed_tenths_text z) ≡ 0
unfolding signed_tenths_text
ends_signed (pos n) = ends_tenths n
ends_signed (negsuc n) = other_adds 45 (tenths_text (suc n)) (λ e. omega arith) ∙ ends_tenths (suc n)

-- A text that has one byte 10, its last, is a line.
pub line_counted : (first rest : List ℕ) → line_ends first ≡ 0 → line_count (first ++ line_end ++ rest) ≡ suc (line_count rest)
unfolding line_count
line_counted first rest e =
    rw (after-end first rest)
    (omega (arith, ends-append (first ++ line_end) rest, ends-append first line_end, end_adds 10 [] refl, ends_empty))
