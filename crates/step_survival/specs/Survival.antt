-- Step 4 of document 01: the rate number N, and how the program finds the survival number of
-- w = a × k / b.
use Rattle.std.specs.Prelude.{Bool, true, false, ◌≡◌, ℕ, ◌+◌, ◌*◌, ◌/◌, ◌%◌, ◌^◌, ◌≤◌}
use Rattle.number_exact.specs.Exponential.{AtMostFrom}
use Rattle.step_powers.specs.Powers.{power_at}
use Rattle.step_survival.specs.Series.{series, term_count}

-- 6 under a crop, 10 on bare soil.
abbrev pub cover_factor : Bool → ℕ
cover_factor true = 6
cover_factor false = 10

-- N = A × B × (6 under a crop, 10 bare).
unfoldable pub rate_number : Bool → ℕ → ℕ → ℕ
rate_number crop a b = a * b * cover_factor crop

-- a / b in parts of 2^44, rounded down: one division, whatever the rate k.
unfoldable pub ratio : ℕ → ℕ → ℕ
ratio a b = a * 2 ^ 44 / b

-- w = a × k / b in parts of 2^37, rounded down.
unfoldable pub parts : ℕ → ℕ → ℕ → ℕ
parts a b k = ratio a b * k / 2 ^ 7

-- The survival number of w in parts of 2^37: w is i / 32 + r with r below 1/32, and this is
-- e^(-i/32) × e^(-r) in billionths, rounded to the nearest, halves up. `power_at` has e^(-i/32) in
-- quarters of a billionth.
unfoldable pub survival_at : ℕ → ℕ
survival_at p = (power_at (p / 2 ^ 32) * series (p % 2 ^ 32) + 2 ^ 38) / 2 ^ 39

-- How many terms are summed for it.
unfoldable pub terms_at : ℕ → ℕ
terms_at p = term_count (p % 2 ^ 32)

-- The same of w = a × k / b.
unfoldable pub survival_of : ℕ → ℕ → ℕ → ℕ
survival_of a b k = survival_at (parts a b k)

unfoldable pub terms_of : ℕ → ℕ → ℕ → ℕ
terms_of a b k = terms_at (parts a b k)

-- S for the rate number N and a rate K in hundredths a year: w = N × K / 1,200,000,000,000.
unfoldable pub survival_number : ℕ → ℕ → ℕ
survival_number n k = survival_of n 1200000000000 k

-- How many terms are summed for S.
unfoldable pub survival_terms : ℕ → ℕ → ℕ
survival_terms n k = terms_of n 1200000000000 k

-- What document 01 asks of S: at most 3 from 1,000,000,000 × e^(-w), 0 to 1,000,000,000, and
-- exactly that when w is 0.
pub record IsSurvival (n k s : ℕ) : Type 0 where
  pub close : AtMostFrom 3 s 1000000000 (n * k) 1200000000000
  pub in_range : s ≤ 1000000000
  pub at_zero : n * k ≡ 0 → s ≡ 1000000000
