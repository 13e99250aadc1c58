-- Laws of step 6: document 01's known figures, the balance to the gram, and what stands at each index.
-- Assumes nothing.
use Prim.Native.Nat.{ℕ, ◌+◌, ◌≤◌}
use mathlib.Core.Path.{◌≡◌, refl}
use mathlib.Core.List.{List}
use mathlib.Core.Bool.{Bool, true, false, cond}
use native.Mathlib.Omega.{arith}
use lib.Dec.{eqb}
use lib.ListN.{length}
use Rattle.number_units.specs.declared.Grams.{Grams}
use Rattle.step_pools.specs.Pools.{share, grams_at, total}
use Rattle.std.proofs.Common.{Result, Ok, Err, IsOk, subst}
use Rattle.step_additions.specs.declared.Kind.{Kind}
use Rattle.step_additions.specs.declared.NoKind.{NoKind}
use Rattle.step_additions.specs.Kinds.{kind_number, HasNumber}
use Rattle.step_additions.specs.Additions.{plant_to_dpm, plant_to_rpm, manure_to_dpm, manure_to_hum, manure_to_rpm, added}

-- Document 01's known figures of step 6: 61 g of plant carbon of kind 1 are 36 and 25; 99 g of manure are DPM 48,
-- RPM 50 and HUM 1.
pub known_additions :
    (plant_to_dpm 1 61 ≡ 36) × (plant_to_rpm 1 61 ≡ 25)
    × (manure_to_dpm 99 ≡ 48) × (manure_to_rpm 99 ≡ 50) × (manure_to_hum 99 ≡ 1)
unfolding plant_to_dpm share
known_additions = (refl, refl, refl, refl, refl)

-- A number from 1 to 3 has a kind, ..
pub number-has_kind : {number : ℕ} (read : Result Kind NoKind) → HasNumber number read → 1 ≤ number → number ≤ 3 → IsOk read
number-has_kind (Ok kind) is first last = refl
number-has_kind (Err none) is first last = absurd (omega (arith, is))

-- .. which has that number.
pub number-of_kind :
    {number : ℕ} {read : Result Kind NoKind} {kind : Kind} → HasNumber number read → read ≡ Ok kind
    → kind_number kind ≡ number
number-of_kind {number} is same = subst (HasNumber number) same is

cond_le : (t : Bool) {a b x : ℕ} → a ≤ x → b ≤ x → cond t a b ≤ x
cond_le true ha hb = ha
cond_le false ha hb = hb

-- DPM gets at most the plant carbon, whatever the kind.
pub plant-le : (kind plant : ℕ) → plant_to_dpm kind plant ≤ plant
unfolding plant_to_dpm share
plant-le kind plant = cond_le (eqb kind 1) (omega arith) (cond_le (eqb kind 2) (omega arith) (omega arith))

-- DPM and RPM together get the plant carbon.
pub plant-parts : (kind plant : ℕ) → plant_to_dpm kind plant + plant_to_rpm kind plant ≡ plant
plant-parts kind plant = omega (arith, plant-le kind plant)

-- DPM, RPM and HUM together get the manure.
pub manure-parts : (manure : ℕ) → manure_to_dpm manure + manure_to_rpm manure + manure_to_hum manure ≡ manure
unfolding share
manure-parts manure = omega arith

-- The balance of step 6, to the gram: the pools after it are the pools before it and what is added.
pub added-balance :
    (pools : List Grams) (kind plant manure : ℕ) → total (added pools kind plant manure) ≡ total pools + plant + manure
unfolding total added
added-balance pools kind plant manure = omega (arith, plant-parts kind plant, manure-parts manure)

-- What stands at each index after step 6, and that there are four.
module _ (pools : List Grams) (kind plant manure : ℕ) where
  pub added-length : length (added pools kind plant manure) ≡ 4
  unfolding added
  added-length = refl

  pub added-dpm :
      grams_at (added pools kind plant manure) 0 ≡ grams_at pools 0 + plant_to_dpm kind plant + manure_to_dpm manure
  unfolding added
  added-dpm = refl

  pub added-rpm :
      grams_at (added pools kind plant manure) 1 ≡ grams_at pools 1 + plant_to_rpm kind plant + manure_to_rpm manure
  unfolding added
  added-rpm = refl

  pub added-bio : grams_at (added pools kind plant manure) 2 ≡ grams_at pools 2
  unfolding added
  added-bio = refl

  pub added-hum : grams_at (added pools kind plant manure) 3 ≡ grams_at pools 3 + manure_to_hum manure
  unfolding added
  added-hum = refl
