-- The series e^(-r) = 1 - r + r²/2 - r³/6 + .. for an r below 1/32: its terms in parts of 2^37, as
-- r is, and how many of them are summed.
use Rattle.std.specs.Prelude.{cond, List, [], ◌∷◌, ℕ, zero, suc, ◌-◌, ◌*◌, ◌/◌, ◌^◌, eqb, length}

-- Term k, r^k / k!: each comes from the one before it, rounded down (change 2026-03).
unfoldable pub term : ℕ → ℕ → ℕ
term r zero = 2 ^ 37
term r (suc k) = term r k * r / (2 ^ 37 * suc k)

-- Terms 1 to 5.
abbrev pub later_terms : ℕ → List ℕ
later_terms r = term r 1 ∷ term r 2 ∷ term r 3 ∷ term r 4 ∷ term r 5 ∷ []

-- The terms from term k on that stand before the first 0, and at most so many.
unfoldable pub terms_from : ℕ → ℕ → ℕ → List ℕ
terms_from zero r k = []
terms_from (suc most) r k = cond (eqb (term r k) 0) [] (term r k ∷ terms_from most r (suc k))

-- The terms that are summed: at most 40 (change 2026-03).
unfoldable pub summed_terms : ℕ → List ℕ
summed_terms r = terms_from 40 r 0

-- Each term less all that follows it: plus and minus in turn.
unfoldable pub alternating : List ℕ → ℕ
alternating [] = 0
alternating (t ∷ rest) = t - alternating rest

-- e^(-r) in parts of 2^37.
unfoldable pub series : ℕ → ℕ
series r = alternating (summed_terms r)

-- How many terms that took.
unfoldable pub term_count : ℕ → ℕ
term_count r = length (summed_terms r)
