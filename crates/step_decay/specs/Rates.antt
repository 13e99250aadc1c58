-- Step 4 of document 01 for the four pools: their rates, and at a rate number their survival
-- numbers and how many terms are summed for each.
use Rattle.std.specs.Prelude.{List, [], ◌∷◌, ℕ}
use Rattle.step_survival.specs.Survival.{survival_number, survival_terms}

-- A number of each rate K, in hundredths a year: 1000, 30, 66 and 2 (DPM, RPM, BIO, HUM).
abbrev pub at_rates : (ℕ → ℕ) → List ℕ
at_rates f = f 1000 ∷ f 30 ∷ f 66 ∷ f 2 ∷ []

-- S of the four pools at the rate number n.
unfoldable pub survivals : ℕ → List ℕ
survivals n = at_rates (survival_number n)

-- How many terms are summed for each of the four (change 2026-03).
unfoldable pub term_counts : ℕ → List ℕ
term_counts n = at_rates (survival_terms n)
