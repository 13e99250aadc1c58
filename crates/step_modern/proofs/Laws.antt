-- Laws of modern grams: how many there are at most, and that a month's loss adds none.
-- Assumes nothing.
use mathlib.Core.Path.{◌≡◌, refl}
use mathlib.Core.List.{List}
use Prim.Native.Nat.{ℕ, ◌*◌, ◌≤◌}
use native.Mathlib.Nat.{div-le_of_le-mul, mul-le-mul_left}
use native.Mathlib.Omega.{arith}
use lib.Dec.{lit≤, lit<}
use lib.ListN.{length}
use Rattle.number_units.specs.declared.Grams.{Grams}
use Rattle.step_pools.specs.Pools.{share, grams_at, total}
use Rattle.step_pools.proofs.Laws.{share-le, share-whole}
use Rattle.step_modern.specs.Modern.{modern_grams, aged}

-- Carbon of activity 1000 has as many modern grams as grams, ..
pub modern_fresh : (carbon : ℕ) → modern_grams carbon 1000 ≡ carbon
unfolding modern_grams
modern_fresh carbon = share-whole carbon (lit< tt)

-- .. and that of activity 2,000 at most twice as many.
pub modern-most : (carbon : ℕ) {activity : ℕ} → activity ≤ 2000 → modern_grams carbon activity ≤ 2 * carbon
unfolding modern_grams share
modern-most carbon {activity} h = div-le_of_le-mul 1000 (omega (arith, mul-le-mul_left carbon h))

module _ (modern : List Grams) where
  pub aged-length : length (aged modern) ≡ 4
  unfolding aged
  aged-length = refl

  pub aged-most : total (aged modern) ≤ total modern
  unfolding total aged
  aged-most =
      omega (
        arith,
        share-le (grams_at modern 0) {part = 999989629} {whole = 1000000000} (lit≤ tt),
        share-le (grams_at modern 1) {part = 999989629} {whole = 1000000000} (lit≤ tt),
        share-le (grams_at modern 2) {part = 999989629} {whole = 1000000000} (lit≤ tt),
        share-le (grams_at modern 3) {part = 999989629} {whole = 1000000000} (lit≤ tt),
      )
