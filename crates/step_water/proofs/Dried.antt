-- The new deficit as the code finds it, whose signed numbers are read from their bits: the sum of the deficit and the drying
-- fits 64 bits with its sign, and so does the cap; and clamping the sum gives the definition's number.
-- Assumes nothing.
use mathlib.Core.Path.{◌≡◌, refl, ap, ◌∙◌}
use mathlib.Core.Bool.{Bool, true, false}
use Prim.Native.Nat.{ℕ, ◌<◌, ◌≤◌, ◌^◌}
use native.Mathlib.Omega.{arith}
use lib.IntN.{ℤ, pos, negsuc, nat_abs, ◌+ℤ◌}
use lib.Signed.{◌≤ℤ◌}
use mir.Syntax.{w64}
use mir.Val.{SFits, to_z, of_z}
use mir.Facts.{to_z_pos, to_z-of_z}
use Rattle.std.specs.Int.{int_max, int_min}
use Rattle.std.proofs.lemmas.Int.{ints, clamps}
use Rattle.step_water.specs.Water.{drying, deficit_cap, bare_limit, clamped, new_deficit}
use Rattle.step_water.proofs.Signed.{read_sum}
use Rattle.step_water.proofs.Laws.{drying_fits, dried_fits}

pos_fits : (n : ℕ) → n < 2 ^ 63 → SFits w64 (pos n)
pos_fits n h = record { sfits = h }

cap-most : (crop : Bool) (m d : ℕ) → m ≤ 560250000 → d ≤ 560250000 → deficit_cap crop m d ≤ 560250000
unfolding deficit_cap bare_limit
cap-most true m d hm hd = hm
cap-most false m d hm hd = omega arith

pub cap_fits : {cap : ℕ} (crop : Bool) {m d : ℕ} → cap ≡ deficit_cap crop m d → m ≤ 560250000 → d ≤ 560250000 → SFits w64 (pos cap)
cap_fits {cap} crop {m} {d} is hm hd = pos_fits cap (omega (arith, is, cap-most crop m d hm hd))

pub cap_from : {cap : ℕ} → SFits w64 (pos cap) → pos 0 ≤ℤ to_z w64 cap
cap_from {cap} fits = let small : cap < 2 ^ 63 = fits.sfits in omega (arith, ints)

-- the sum of the deficit and the drying, which is read from its bits
read :
    {dry : ℤ} (potential : Bool) {evaporation rain : ℕ} (d : ℕ) → dry ≡ drying potential evaporation rain → d ≤ 560250000
    → evaporation ≤ 20000 → rain ≤ 20000 → to_z w64 d +ℤ to_z w64 (of_z w64 dry) ≡ pos d +ℤ dry
read {dry} potential {evaporation} {rain} d is hd he hr =
    let dry_fits : SFits w64 dry = rw is (drying_fits potential evaporation rain he hr) in
    read_sum (pos_fits d (omega arith)) dry_fits

pub sum_fits :
    {dry : ℤ} (potential : Bool) {evaporation rain : ℕ} (d : ℕ) → dry ≡ drying potential evaporation rain → d ≤ 560250000
    → evaporation ≤ 20000 → rain ≤ 20000 → SFits w64 (to_z w64 d +ℤ to_z w64 (of_z w64 dry))
sum_fits {dry} potential {evaporation} {rain} d is hd he hr =
    rw (read potential d is hd he hr, is) (dried_fits d potential evaporation rain hd he hr)

clamped_is : (most : ℕ) (z : ℤ) → nat_abs (int_max (pos 0) (int_min z (pos most))) ≡ clamped most z
unfolding clamped
clamped_is most (negsuc n) = refl
clamped_is most (pos n) = omega (arith, ints, clamps)

-- the number read back from the clamped sum
pub deficit_read :
    {cap : ℕ} {dry r : ℤ} (crop : Bool) {m : ℕ} (potential : Bool) {evaporation rain : ℕ} (d : ℕ)
    → cap ≡ deficit_cap crop m d → dry ≡ drying potential evaporation rain → SFits w64 r
    → r ≡ int_max (pos 0) (int_min (to_z w64 (of_z w64 (to_z w64 d +ℤ to_z w64 (of_z w64 dry)))) (to_z w64 cap))
    → m ≤ 560250000 → d ≤ 560250000 → evaporation ≤ 20000 → rain ≤ 20000
    → nat_abs (to_z w64 (of_z w64 r)) ≡ new_deficit crop m d potential evaporation rain
unfolding new_deficit
deficit_read {cap} {dry} {r} crop {m} potential {evaporation} {rain} d is_cap is_dry fits is hm hd he hr =
    let sum : to_z w64 (of_z w64 (to_z w64 d +ℤ to_z w64 (of_z w64 dry))) ≡ pos d +ℤ drying potential evaporation rain =
    to_z-of_z (sum_fits potential d is_dry hd he hr) ∙ read potential d is_dry hd he hr ∙ ap (λ (z : ℤ). pos d +ℤ z) is_dry in
    let most : to_z w64 cap ≡ pos cap = to_z_pos w64 (cap_fits crop is_cap hm hd).sfits in
    let found : r ≡ int_max (pos 0) (int_min (pos d +ℤ drying potential evaporation rain) (pos cap)) = rw (← sum, ← most) is in
    ap nat_abs (to_z-of_z fits ∙ found) ∙ clamped_is cap (pos d +ℤ drying potential evaporation rain)
    ∙ ap (λ (k : ℕ). clamped k (pos d +ℤ drying potential evaporation rain)) is_cap
