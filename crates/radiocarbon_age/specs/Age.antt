-- The age that a report gives, change 2026-04 of document 02: "the smallest whole age y, up to
-- 60,000, whose survival number for w = y/8035 is at most 1,000,000,000 × modern / carbon, else
-- 'older'; where modern exceeds carbon it says 'newer'".
use Rattle.std.specs.Prelude.{◌≡◌, Bool, cond, ℕ, zero, suc, ◌+◌, ◌*◌, ◌≤◌, ◌<◌, leb, ltb}
use Rattle.step_survival.specs.Ages.{age_limit, age_survival}
use Rattle.radiocarbon_age.specs.declared.Age.{Age}
use Rattle.radiocarbon_age.specs.declared.Age.TheVariants.{Years, Older, Newer}

-- The survival number of y years is at most 1,000,000,000 × modern / carbon, compared as fractions:
-- by cross products.
abbrev pub reaches : ℕ → ℕ → ℕ → Bool
reaches modern carbon y = leb (age_survival y * carbon) (1000000000 * modern)

-- The first of so many ages, from y on, that reaches it. (`cond` gives the first where the test is
-- true.)
unfoldable pub first_age : ℕ → ℕ → ℕ → ℕ → Age
first_age zero modern carbon y = Older
first_age (suc left) modern carbon y =
    cond (reaches modern carbon y) (Years y) (first_age left modern carbon (suc y))

-- The age of so many modern grams in so much carbon: of 0 to 60,000 the first that reaches it.
unfoldable pub age_of : ℕ → ℕ → Age
age_of modern carbon = cond (ltb carbon modern) Newer (first_age (age_limit + 1) modern carbon 0)

-- ---- what an answer says

-- y reaches it, and no smaller one does.
pub record Smallest (modern carbon y : ℕ) : Type 0 where
  pub not_newer : modern ≤ carbon
  pub within : y ≤ age_limit
  pub reaches_it : age_survival y * carbon ≤ 1000000000 * modern
  pub no_smaller : (z : ℕ) → z < y → 1000000000 * modern < age_survival z * carbon

-- No age reaches it.
pub record NoneDoes (modern carbon : ℕ) : Type 0 where
  pub not_newer : modern ≤ carbon
  pub none : (z : ℕ) → z ≤ age_limit → 1000000000 * modern < age_survival z * carbon

-- What each answer says of the modern grams and the carbon.
pub record Means (modern carbon : ℕ) (age : Age) : Type 0 where
  pub years : (y : ℕ) → age ≡ Years y → Smallest modern carbon y
  pub older : age ≡ Older → NoneDoes modern carbon
  pub newer : age ≡ Newer → carbon < modern
