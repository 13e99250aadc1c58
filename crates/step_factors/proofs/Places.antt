-- The place of a temperature in the table: t + 50, below 551 where t is -50 to 500, and no place where t is below -50.
-- Assumes nothing.
use mathlib.Core.Path.{◌≡◌, refl}
use mathlib.Core.Bool.{true, false}
use Prim.Native.Nat.{ℕ, suc, ◌+◌, ◌-◌, ◌<◌, ◌≤◌}
use native.Mathlib.Omega.{arith}
use borrow.Author.Tests.{le-ltb, lt-ltb, ltb-true, ltb-false}
use lib.Dec.{leb→le, lit≤}
use lib.IntN.{ℤ, pos, negsuc, nat_abs, ◌+ℤ◌}
use lib.Signed.{lt_z, ◌≤ℤ◌}
use mir.Syntax.{w64}
use mir.Val.{SFits, to_z, of_z}
use mir.Facts.{to_z-of_z}
use Rattle.step_factors.specs.declared.temperature_table.TheConstants.{TEMPERATURE_FACTORS}
use Rattle.step_factors.specs.Factors.{temperature_factor, factor_at, IsTemperatureFactor, IsFactorAt}
use Rattle.step_factors.specs.TemperatureTable.{temperature_table}
use Rattle.step_factors.proofs.Laws.{temperature_nearest, temperature_most, temperature_read}
use lib.ListN.{get_or}

pub place : (t : ℤ) → lt_z t (negsuc 49) ≡ false → t ≤ℤ pos 500 → (i : ℕ) × (i < 551) × (t +ℤ pos 50 ≡ pos i)
place (pos n) low high = (n + 50, omega (arith, leb→le n 500 high.le), refl)
place (negsuc n) low high =
    let le : n ≤ 49 = ltb-false 49 n low in
    (50 - suc n, omega arith, rw (le-ltb 50 (suc n) (omega arith)))

no_place : (t : ℤ) → lt_z t (negsuc 49) ≡ true → (j : ℕ) × (t +ℤ pos 50 ≡ negsuc j)
no_place (pos n) low = absurd (let z : ◌≡◌ {A = ℕ} 0 1 = cc in omega arith)
no_place (negsuc n) low =
    let lt : 49 < n = ltb-true 49 n low in
    (suc n - 51, rw (lt-ltb 50 (suc n) (omega arith)))

-- a temperature below -50
pub below_table : (t : ℤ) → lt_z t (negsuc 49) ≡ true → (0 ≡ temperature_factor t) × IsTemperatureFactor t 0
unfolding temperature_factor factor_at IsTemperatureFactor IsFactorAt
below_table t low = let p = no_place t low in (rw p.1, rw p.1)

-- a temperature of the table, at its place
pub in_table :
    (t : ℤ) (i : ℕ) → i < 551 → t +ℤ pos 50 ≡ pos i
    → (get_or temperature_table i 0 ≡ temperature_factor t) × IsTemperatureFactor t (get_or temperature_table i 0)
    × (get_or temperature_table i 0 ≤ 83639)
unfolding temperature_factor factor_at IsTemperatureFactor IsFactorAt
in_table t i h e = (rw e, rw e (temperature_nearest i h), temperature_most i h)

-- ---- what the code computes, whose signed numbers are read from their bits

-- a temperature that the test finds below -50
pub below_read :
    (t : ℤ) → SFits w64 t → lt_z (to_z w64 (of_z w64 t)) (negsuc 49) ≡ true
    → (0 ≡ temperature_factor t) × IsTemperatureFactor t 0 × (0 ≤ 83639)
below_read t fits low = let p = below_table t (rw (to_z-of_z fits) at low) in (p.0, p.1, lit≤ tt)

-- the number at the sum's place in the code's table
pub table_read :
    {a : ℕ} (t : ℤ) → SFits w64 t → lt_z (to_z w64 (of_z w64 t)) (negsuc 49) ≡ false → t ≤ℤ pos 500
    → a ≡ get_or TEMPERATURE_FACTORS (nat_abs (to_z w64 (of_z w64 (to_z w64 (of_z w64 t) +ℤ pos 50)))) 0
    → (a ≡ temperature_factor t) × IsTemperatureFactor t a × (a ≤ 83639)
table_read t fits low high is =
    let p = place t (rw (to_z-of_z fits) at low) high in
    let sum : to_z w64 (of_z w64 t) +ℤ pos 50 ≡ pos p.0 = rw (to_z-of_z fits) p.2 in
    let back : to_z w64 (of_z w64 (to_z w64 (of_z w64 t) +ℤ pos 50)) ≡ pos p.0 = rw sum (to_z-of_z (place_fits p.0 p.1)) in
    rw (temperature_read p.0 (rw back at is)) (in_table t p.0 p.1 p.2)
  where
    place_fits : (i : ℕ) → i < 551 → SFits w64 (pos i)
    place_fits i h = record { sfits = omega arith }
