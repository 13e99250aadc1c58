-- The numbers of document 01's book as they are written, and how bytes are put into a text. A byte
-- is a number, a text a list of bytes.
use Rattle.std.specs.Prelude.{cond, List, [], ◌∷◌, ◌++◌, ℕ, zero, suc, ◌+◌, ◌/◌, ◌%◌, ltb, ℤ, pos}
use Rattle.std.specs.Prelude.{negsuc}
use Rattle.std.proofs.lemmas.List.Edits.{sets}

-- The decimal digits of n, the highest first; of more than `most`, the last ones.
unfoldable pub digits_of : ℕ → ℕ → List ℕ
digits_of zero n = []
digits_of (suc most) n =
    cond (ltb n 10) ((48 + n) ∷ []) (digits_of most (n / 10) ++ ((48 + n % 10) ∷ []))

-- The form in which the program writes a number, which is that of a value: its decimal digits, and
-- no 0 before them. No number n has more than n + 1 digits.
unfoldable pub decimal : ℕ → List ℕ
decimal n = digits_of (suc n) n

-- A number with a sign, by the form of numbers without one: a minus (byte 45) before one below 0.
abbrev pub signed_text : (ℕ → List ℕ) → ℤ → List ℕ
signed_text text (pos n) = text n
signed_text text (negsuc n) = 45 ∷ text (suc n)

-- The decimal form of a number with a sign.
unfoldable pub signed_decimal : ℤ → List ℕ
signed_decimal z = signed_text decimal z

-- "One space between values": a space (byte 32) and a number after it.
abbrev pub spaced : ℕ → List ℕ
spaced n = 32 ∷ decimal n

-- "every line ended by byte 10".
abbrev pub line_end : List ℕ
line_end = 10 ∷ []

-- The list with these values put from the place `at` on, one after another, and everything else as
-- it was.
unfoldable pub overwritten : {A : Type 0} → List A → ℕ → List A → List A
overwritten list at values = sets list at values
