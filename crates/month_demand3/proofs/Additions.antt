-- Step 6's parts beside the recurrence's: each rounding is at most a gram from the exact part. Over 50,935 = 61 × 167 × 5
-- for the plant carbon of any kind, over 100 for the manure. Assumes nothing.
use mathlib.Core.Bool.{Bool, true, false, cond}
use Prim.Native.Nat.{ℕ, ◌+◌, ◌*◌, ◌<◌}
use lib.Dec.{lit<, eqb}
use lib.IntN.{nat_abs}
use Rattle.number_exact.specs.Fraction.{ratio, whole, ◌⊟◌, ◌⊠◌}
use Rattle.number_exact.proofs.Close.{Close, close-whole, close_times, close_difference, close-share}
use Rattle.step_pools.specs.Pools.{share}
use Rattle.step_additions.specs.Additions.{plant_to_dpm, plant_to_rpm, manure_to_dpm, manure_to_hum, manure_to_rpm}
use Rattle.month_state.specs.declared.Soil.{Soil}
use Rattle.month_state.specs.declared.Land.{Land}
use Rattle.month_demand3.specs.Recurrence.{plant_part, manure_part}
use Rattle.month_demand3.proofs.Part.{share-near}

-- A share of n whole grams.
close_part : (n c w : ℕ) (pos : 0 < w) → Close (1 * w) (share n c w) (whole n ⊠ ratio c w pos) (0 * c + 1 * w)
close_part n c w pos = close-share (share n c w) c w pos (close-whole 1 n) (share-near n c w pos)

close_kinds :
    (n : ℕ) (one two : Bool)
    → Close 50935 (cond one (share n 36 61) (cond two (share n 67 167) (share n 1 5)))
    (whole n ⊠ cond one (ratio 36 61 (lit< tt)) (cond two (ratio 67 167 (lit< tt)) (ratio 1 5 (lit< tt)))) 50935
close_kinds n true two = close_times 835 (close_part n 36 61 (lit< tt))
close_kinds n false true = close_times 305 (close_part n 67 167 (lit< tt))
close_kinds n false false = close_times 10187 (close_part n 1 5 (lit< tt))

module _ (s : Soil) (l : Land) where
  pub close-plant : Close 50935 (plant_to_dpm s.kind (nat_abs l.plant)) (plant_part s l) 50935
  unfolding plant_to_dpm
  close-plant = close_kinds (nat_abs l.plant) (eqb s.kind 1) (eqb s.kind 2)

  pub close-plant-rest :
      Close 50935 (plant_to_rpm s.kind (nat_abs l.plant)) (whole (nat_abs l.plant) ⊟ plant_part s l) 50935
  close-plant-rest = close_difference (close-whole 50935 (nat_abs l.plant)) close-plant

module _ (l : Land) where
  pub close-manure-dpm : Close 100 (manure_to_dpm (nat_abs l.manure)) (manure_part l 49) 100
  close-manure-dpm = close_part (nat_abs l.manure) 49 100 (lit< tt)

  pub close-manure-hum : Close 100 (manure_to_hum (nat_abs l.manure)) (manure_part l 2) 100
  close-manure-hum = close_part (nat_abs l.manure) 2 100 (lit< tt)

  pub close-manure-rest :
      Close 100 (manure_to_rpm (nat_abs l.manure)) (whole (nat_abs l.manure) ⊟ manure_part l 49 ⊟ manure_part l 2) 200
  close-manure-rest =
      close_difference (close_difference (close-whole 100 (nat_abs l.manure)) close-manure-dpm) close-manure-hum
