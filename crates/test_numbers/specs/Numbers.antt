-- What a reader of numbers gives of a text, and what of the text is left after it. A byte is a
-- number, a text a list of bytes. Each definition holds of every text: where a text departs from
-- the form the first of the pair is None, and what is left is said all the same.
use Rattle.std.specs.Prelude.{cond, ◌&&◌, List, [], ◌∷◌, ◌++◌, ℕ, zero, suc, ◌^◌, leb, ltb, eqb}
use Rattle.std.specs.Prelude.{Option, Some, None, length, take, drop, ℤ, pos, neg_ℤ}
use Rattle.std.specs.Str.Parse.{digits_value}
use Rattle.std.specs.List.{take_while, prefix_len}
use Rattle.std.specs.Char.{is_ascii_digit}

-- What is read, with the text that is left.
abbrev pub Read : Type 0 → Type 0
Read X = Option X × List ℕ

-- What is read next, after something that must come first.
abbrev pub then_read : {X Y : Type 0} → Read X → (X → List ℕ → Read Y) → Read Y
then_read (Some x, left) later = later x left
then_read (None, left) later = (None, left)

-- One thing that is read before another.
abbrev pub before : {X Y : Type 0} → (List ℕ → Read X) → (List ℕ → Read Y) → List ℕ → Read Y
before first later text = then_read (first text) (λ _ left. later left)

-- The next byte.
abbrev pub byte_read : List ℕ → Read ℕ
byte_read [] = (None, [])
byte_read (byte ∷ rest) = (Some byte, rest)

-- So many bytes, or none where there are fewer.
abbrev pub bytes_read : ℕ → List ℕ → Read (List ℕ)
bytes_read n text = cond (leb n (length text)) (Some (take n text), drop n text) (None, text)

-- A byte that must come next. Another one is left.
abbrev pub this_byte : ℕ → List ℕ → Read Unit
this_byte byte [] = (None, [])
this_byte byte (next ∷ rest) = cond (eqb next byte) (Some tt, rest) (None, next ∷ rest)

-- The number of some digits: at least one, and their value in 64 bits.
abbrev pub number_of : List ℕ → Option ℕ
number_of digits =
    cond (ltb 0 (length digits) && ltb (digits_value 10 digits) (2 ^ 64))
    (Some (digits_value 10 digits)) None

-- As many digits as come, and their number. Leading zeros are digits too.
unfoldable pub digits_read : List ℕ → Read ℕ
digits_read text =
    (number_of (take_while is_ascii_digit text), drop (prefix_len is_ascii_digit text) text)

-- The number as it stands, below 2^63 ..
abbrev pub without_minus : Option ℕ → Option ℤ
without_minus (Some n) = cond (ltb n (2 ^ 63)) (Some (pos n)) None
without_minus None = None

-- .. and after a minus: at most 2^63, and not 0.
abbrev pub after_minus : Option ℕ → Option ℤ
after_minus (Some n) = cond (ltb 0 n && leb n (2 ^ 63)) (Some (neg_ℤ (pos n))) None
after_minus None = None

-- A number of digits as one with a sign.
abbrev pub signed : (Option ℕ → Option ℤ) → Read ℕ → Read ℤ
signed as_signed (number, left) = (as_signed number, left)

-- What comes after a minus, or where none stands.
abbrev pub sign_then : Read Unit → Read ℤ
sign_then (Some _, left) = signed after_minus (digits_read left)
sign_then (None, left) = signed without_minus (digits_read left)

-- A number that may have a minus (byte 45).
unfoldable pub signed_read : List ℕ → Read ℤ
signed_read text = sign_then (this_byte 45 text)

-- A space (byte 32) and a number.
unfoldable pub number_read : {X : Type 0} → (List ℕ → Read X) → List ℕ → Read X
number_read number = before (this_byte 32) number

-- A number and those after it.
abbrev pub and_later : {X : Type 0} → Read X → (List ℕ → List X × List ℕ) → List X × List ℕ
and_later (Some x, left) later = (x ∷ (later left).0, (later left).1)
and_later (None, left) later = ([], left)

-- So many numbers, up to the first that departs from the form.
unfoldable pub numbers_read : {X : Type 0} → (List ℕ → Read X) → ℕ → List ℕ → List X × List ℕ
numbers_read number zero text = ([], text)
numbers_read number (suc n) text = and_later (number_read number text) (numbers_read number n)

-- All of so many numbers.
abbrev pub all_of : {X : Type 0} → ℕ → List X × List ℕ → Read (List X)
all_of n (numbers, left) = (cond (eqb (length numbers) n) (Some numbers) None, left)

-- So many numbers, all of them.
unfoldable pub array_read : {X : Type 0} → (List ℕ → Read X) → ℕ → List ℕ → Read (List X)
array_read number n text = all_of n (numbers_read number n text)

-- A count, and so many numbers if there is room for them.
unfoldable pub list_read : {X : Type 0} → (List ℕ → Read X) → ℕ → List ℕ → Read (List X)
list_read number room text =
    then_read (number_read digits_read text)
    (λ n left. cond (leb n room) (array_read number n left) (None, left))

-- That something is read, and not what.
abbrev pub is_read : {X : Type 0} → Read X → Read Unit
is_read (Some _, left) = (Some tt, left)
is_read (None, left) = (None, left)

-- A memory that begins with these numbers; everything after them stays. (book_rows has the same of
-- rows; this crate rests on no other.)
abbrev pub begun_with : {X : Type 0} → List X → List X → List X
begun_with memory front = front ++ drop (length front) memory
