-- What rothc_survival and rothc_survival_terms return and leave in lent memory.
use Rattle.std.specs.Prelude.{Bool, cond, ◌&&◌, ℕ, leb, get_or}
use Rattle.step_decay.specs.Rates.{survivals, term_counts}

-- There is a survival number for the pools 0 DPM, 1 RPM, 2 BIO and 3 HUM and for every rate number
-- of a month, which is at most 8,363,900,000.
abbrev pub has_survival : ℕ → ℕ → Bool
has_survival n pool = leb pool 3 && leb n 8363900000

-- Returned where there is none.
abbrev pub no_survival : ℕ
no_survival = 18446744073709551615

-- Step 4's S of a pool at the rate number n.
unfoldable pub rothc_survival : ℕ → ℕ → ℕ
rothc_survival n pool = cond (has_survival n pool) (get_or (survivals n) pool 0) no_survival

-- What rothc_survival_terms returns, and the lent number after it.
pub record TermsLeft : Type 0 where
  pub survival : ℕ
  pub terms : ℕ

-- The same S, and how many terms were summed for it. Where there is no S, the lent number stays.
unfoldable pub rothc_survival_terms : ℕ → ℕ → ℕ → TermsLeft
rothc_survival_terms n pool terms =
    record {
      survival = rothc_survival n pool;
      terms = cond (has_survival n pool) (get_or (term_counts n) pool 0) terms;
    }
