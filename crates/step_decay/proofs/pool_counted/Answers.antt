-- `step_decay::pool_counted` meets its contract: the rate at a pool's index is the one that its survival number and its count
-- are of. Assumes nothing.
use mathlib.Core.Path.{◌≡◌, refl, ◌∙◌}
use Prim.Native.Nat.{ℕ, zero, suc, ◌<◌}
use native.Mathlib.Omega.{arith}
use lib.ListN.{get_or}
use Rattle.step_survival.specs.Survival.{survival_number, survival_terms}
use Rattle.step_decay.specs.Rates.{at_rates, survivals, term_counts}
use Rattle.step_decay.proofs.pool_counted.Goals as goal

-- what holds of the four pools holds of each
by_pool : (P : ℕ → Type 0) → P 0 → P 1 → P 2 → P 3 → (pool : ℕ) → pool < 4 → P pool
by_pool P dpm rpm bio hum zero h = dpm
by_pool P dpm rpm bio hum (suc zero) h = rpm
by_pool P dpm rpm bio hum (suc (suc zero)) h = bio
by_pool P dpm rpm bio hum (suc (suc (suc zero))) h = hum
by_pool P dpm rpm bio hum (suc (suc (suc (suc pool)))) h = absurd (omega (arith, h))

abbrev rate : ℕ → ℕ
rate pool = get_or (at_rates (λ k. k)) pool 0

-- a number of each rate, at the pool's index
at_pool : (f : ℕ → ℕ) (pool : ℕ) → pool < 4 → f (rate pool) ≡ get_or (at_rates f) pool 0
at_pool f = by_pool (λ pool. f (rate pool) ≡ get_or (at_rates f) pool 0) refl refl refl refl

pub returns : goal.returns
unfolding survivals term_counts
returns c =
    let s = c.before in
    let is = c.survival_counted.ensures in record {
      survival = is.survival.0 ∙ at_pool (survival_number s.args.n) s.args.pool s.requires.1;
      terms = (is.terms.0 ∙ at_pool (survival_terms s.args.n) s.args.pool s.requires.1, is.terms.1);
    }
