-- The survival numbers of ages, change 2026-04 of document 02: a year is 1/8035 of w, which gives
-- the house's half-life of 8035 × ln 2, some 5,569 years.
use Rattle.std.specs.Prelude.{◌≡◌, ℕ, ◌≤◌}
use Rattle.number_exact.specs.Exponential.{AtMostFrom}
use Rattle.step_survival.specs.Survival.{survival_of}

-- "Whole age y, up to 60,000."
abbrev pub age_limit : ℕ
age_limit = 60000

-- The "survival number for w = y/8035".
unfoldable pub age_survival : ℕ → ℕ
age_survival y = survival_of y 8035 1

-- What the ages' survival numbers are: step 4's, at most 1 from 1,000,000,000 × e^(-w), at most
-- 1,000,000,000, and exactly that at age 0; and they never rise with the age.
pub record Ages : Type 0 where
  pub close : (y : ℕ) → y ≤ age_limit → AtMostFrom 1 (age_survival y) 1000000000 y 8035
  pub in_range : (y : ℕ) → y ≤ age_limit → age_survival y ≤ 1000000000
  pub at_zero : age_survival 0 ≡ 1000000000
  pub never_rises : (y z : ℕ) → y ≤ z → z ≤ age_limit → age_survival z ≤ age_survival y
