-- Laws of steps 5 and 6 together: the balance to the gram, and what follows of it; and how many modern grams a month leaves at most.
-- Assumes nothing.
use mathlib.Core.Path.{◌≡◌}
use mathlib.Core.List.{List}
use Prim.Native.Nat.{ℕ, ◌+◌, ◌*◌, ◌≤◌}
use native.Mathlib.Omega.{arith}
use lib.ListN.{length}
use Rattle.number_units.specs.declared.Grams.{Grams}
use Rattle.step_pools.specs.Pools.{total}
use Rattle.step_decay.specs.Decay.{Survivals, decayed}
use Rattle.step_decay.proofs.Laws.{decay_balance}
use Rattle.step_additions.proofs.Laws.{added-balance, added-length}
use Rattle.step_modern.specs.Modern.{modern_grams, aged}
use Rattle.step_modern.proofs.Laws.{modern-most, aged-most}
use Rattle.step_turnover.specs.Turnover.{turned_over, released, modern_turned}

module _ (pools : List Grams) (survival : List ℕ) (r kind plant manure : ℕ) where
  -- There are four again.
  pub turned_length : length (turned_over pools survival r kind plant manure) ≡ 4
  unfolding turned_over
  turned_length = added-length (decayed pools survival r) kind plant manure

  module _ (s : Survivals survival) (h : r ≤ 1000000) where
    -- The pools after it and the CO2 are the pools before it and what is added.
    pub turned_balance :
        total (turned_over pools survival r kind plant manure) + released pools survival r
        ≡ total pools + plant + manure
    unfolding turned_over released
    turned_balance =
        omega (arith, decay_balance pools survival r s h, added-balance (decayed pools survival r) kind plant manure)

    pub turned_most : total (turned_over pools survival r kind plant manure) ≤ total pools + plant + manure
    turned_most = omega (arith, turned_balance)

module _ (modern : List Grams) (survival : List ℕ) (r kind plant manure activity : ℕ) where
  pub modern_turned_length : length (modern_turned modern survival r kind plant manure activity) ≡ 4
  unfolding modern_turned
  modern_turned_length = turned_length _ _ _ _ _ _

  -- Additions bring at most twice their carbon.
  pub modern_turned_most :
      Survivals survival → r ≤ 1000000 → activity ≤ 2000
      → total (modern_turned modern survival r kind plant manure activity) ≤ total modern + 2 * plant + 2 * manure
  unfolding modern_turned
  modern_turned_most s h a =
      omega (
        arith,
        turned_most (aged modern) survival r kind (modern_grams plant activity) (modern_grams manure activity) s h,
        aged-most modern,
        modern-most plant a,
        modern-most manure a,
      )
