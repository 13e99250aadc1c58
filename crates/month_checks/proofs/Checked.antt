-- What is known of entries and of a state that pass their checks. An entry goes to `natural` as bits, and is read back as the same number.
-- Assumes nothing.
use mathlib.Core.Path.{◌≡◌, ◌∙◌, ap}
use Prim.Native.Nat.{ℕ, ◌≤◌, ◌<◌, ◌^◌}
use native.Mathlib.Omega.{arith}
use lib.Dec.{leb→le}
use lib.IntN.{ℤ, pos, negsuc, nat_abs}
use lib.Signed.{◌≤ℤ◌}
use mir.Syntax.{w64}
use mir.Val.{to_z, of_z}
use Rattle.month_state.proofs.Signed.{read}
use Rattle.std.specs.Prelude.{Ok}
use Rattle.step_pools.specs.Pools.{total}
use Rattle.month_state.specs.State.{carbon_ceiling, month_limit}
use Rattle.month_state.specs.declared.State.{State}
use Rattle.month_state.specs.declared.Weather.{Weather}
use Rattle.month_state.specs.declared.Land.{Land}
use Rattle.month_refusals.specs.Refusals.{weather_check, land_check, state_check}
use Rattle.month_refusals.proofs.Accepted.{Between, natural_most, sound-state, weather_ready, land_ready}

-- A number from 0 to k is read back from its bits, ..
read_back : (k : ℕ) (z : ℤ) → k < 2 ^ 63 → Between (pos 0) (pos k) z → to_z w64 (of_z w64 z) ≡ z
read_back k (pos n) small h = let m = leb→le n k h.to.le in read (pos n) (omega (arith, m, small))
read_back k (negsuc n) small h = absurd h.from.le

-- .. so that it is not below 0 there, as `natural` asks, ..
pub natural_asked : {k : ℕ} {z : ℤ} → k < 2 ^ 63 → Between (pos 0) (pos k) z → pos 0 ≤ℤ to_z w64 (of_z w64 z)
natural_asked {k} {z} small h = rw (read_back k z small h) h.from

-- .. and what `natural` gives is the number, which is at most k.
pub natural_in_range :
    {k n : ℕ} {z : ℤ} → k < 2 ^ 63 → n ≡ nat_abs (to_z w64 (of_z w64 z)) → Between (pos 0) (pos k) z
    → (n ≡ nat_abs z) × (n ≤ k)
natural_in_range {k} {n} {z} small gives h =
    let is : n ≡ nat_abs z = gives ∙ ap nat_abs (read_back k z small h) in
    (is, omega (arith, is, natural_most k z h))

-- ---- the entries of a land and of a weather that pass

module _ (l : Land) (passes : land_check l ≡ Ok tt) where
  pub cover_asked : pos 0 ≤ℤ to_z w64 (of_z w64 l.cover)
  cover_asked = natural_asked (omega arith) (land_ready l passes).cover

  pub plant_asked : pos 0 ≤ℤ to_z w64 (of_z w64 l.plant)
  plant_asked = natural_asked (omega arith) (land_ready l passes).plant

  pub plant_given : {n : ℕ} → n ≡ nat_abs (to_z w64 (of_z w64 l.plant)) → (n ≡ nat_abs l.plant) × (n ≤ 100000000)
  plant_given gives = natural_in_range (omega arith) gives (land_ready l passes).plant

  pub manure_asked : pos 0 ≤ℤ to_z w64 (of_z w64 l.manure)
  manure_asked = natural_asked (omega arith) (land_ready l passes).manure

  pub manure_given : {n : ℕ} → n ≡ nat_abs (to_z w64 (of_z w64 l.manure)) → (n ≡ nat_abs l.manure) × (n ≤ 100000000)
  manure_given gives = natural_in_range (omega arith) gives (land_ready l passes).manure

pub ruleset additions_given = (plant_asked, plant_given, manure_asked, manure_given)

module _ (w : Weather) (passes : weather_check w ≡ Ok tt) where
  pub source_asked : pos 0 ≤ℤ to_z w64 (of_z w64 w.source)
  source_asked = natural_asked (omega arith) (weather_ready w passes).source

  pub source_given : {n : ℕ} → n ≡ nat_abs (to_z w64 (of_z w64 w.source)) → (n ≡ nat_abs w.source) × (n ≤ 1)
  source_given gives = natural_in_range (omega arith) gives (weather_ready w passes).source

  pub evaporation_asked : pos 0 ≤ℤ to_z w64 (of_z w64 w.evaporation)
  evaporation_asked = natural_asked (omega arith) (weather_ready w passes).evaporation

  pub evaporation_given :
      {n : ℕ} → n ≡ nat_abs (to_z w64 (of_z w64 w.evaporation)) → (n ≡ nat_abs w.evaporation) × (n ≤ 20000)
  evaporation_given gives = natural_in_range (omega arith) gives (weather_ready w passes).evaporation

pub ruleset evaporation_read = (source_asked, source_given, evaporation_asked, evaporation_given)

-- ---- a checked state

module _ (s : State) (passes : state_check s ≡ Ok tt) where
  pub pools_checked : total s.soil.pools ≤ carbon_ceiling
  pools_checked = (sound-state s passes).soil.pools

  pub months_checked : s.months ≤ month_limit
  months_checked = (sound-state s passes).months
