-- No modern grams and no activity stay none: nothing decays, is formed or comes in.
-- Assumes nothing.
use mathlib.Core.Path.{◌≡◌, refl}
use mathlib.Core.List.{List}
use Prim.Native.Nat.{ℕ}
use native.Mathlib.Nat.{zero-mul, mul-zero, zero-div}
use native.Mathlib.Omega.{arith}
use lib.ListN.{get_or}
use Rattle.step_pools.specs.Pools.{share, total}
use Rattle.step_pools.proofs.Laws.{four_grams}
use Rattle.step_decay.specs.Decay.{losses, formed, decayed}
use Rattle.step_additions.specs.Additions.{added}
use Rattle.step_additions.proofs.Laws.{plant-le}
use Rattle.step_turnover.specs.Turnover.{turned_over, modern_turned}
use Rattle.step_modern.specs.Modern.{modern_grams, aged}
use Rattle.radiocarbon_laws.specs.Without.{no_grams}

share-none : (part whole : ℕ) → share 0 part whole ≡ 0
unfolding share
share-none part whole = rw (zero-mul part, zero-div whole)

-- Carbon of activity 0 has none.
none_brought : (carbon : ℕ) → modern_grams carbon 0 ≡ 0
unfolding modern_grams share
none_brought carbon = rw (mul-zero carbon)

none-aged : aged no_grams ≡ no_grams
unfolding aged
none-aged = four_grams (share-none _ _) (share-none _ _) (share-none _ _) (share-none _ _)

module _ (survival : List ℕ) (r kind : ℕ) where
  no_losses : total (losses no_grams survival) ≡ 0
  unfolding total losses
  no_losses = omega arith

  none-formed : formed (total (losses no_grams survival)) r ≡ 0
  none-formed = rw no_losses (share-none r 1000000)

  none-decayed : decayed no_grams survival r ≡ no_grams
  unfolding decayed
  none-decayed =
      rw none-formed
      (four_grams (share-none _ _) (share-none _ _)
      (omega (arith, share-none (get_or survival 2 0) 1000000000, share-none 46 100))
      (omega (arith, share-none (get_or survival 3 0) 1000000000, share-none 46 100)))

  none_turned : turned_over no_grams survival r kind 0 0 ≡ no_grams
  unfolding turned_over added
  none_turned =
      rw none-decayed
      (four_grams (omega (arith, plant-le kind 0, share-none 49 100)) (omega (arith, plant-le kind 0, share-none 49 100, share-none 2 100))
      refl (omega (arith, share-none 2 100)))

  -- A month leaves none.
  pub none-after-month : (plant manure : ℕ) → modern_turned no_grams survival r kind plant manure 0 ≡ no_grams
  unfolding modern_turned
  none-after-month plant manure = rw (none_brought plant, none_brought manure, none-aged) none_turned
