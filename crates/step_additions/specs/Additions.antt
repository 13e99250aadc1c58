-- Step 6 of document 01: the additions.
use Rattle.std.specs.Prelude.{ℕ, ◌+◌, ◌-◌, List, [], ◌∷◌, cond, eqb}
use Rattle.number_units.specs.declared.Grams.{Grams}
use Rattle.step_pools.specs.Pools.{share, grams, grams_at}

-- Step 6: of plant carbon DPM gets 36/61 (kind 1), 67/167 (kind 2) or 1/5 (kind 3), rounded down.
-- (`cond` gives the first where the test is true.)
unfoldable pub plant_to_dpm : ℕ → ℕ → ℕ
plant_to_dpm kind plant =
    cond (eqb kind 1) (share plant 36 61)
    (cond (eqb kind 2) (share plant 67 167) (share plant 1 5))

-- Step 6: RPM gets the rest of the plant carbon.
abbrev pub plant_to_rpm : ℕ → ℕ → ℕ
plant_to_rpm kind plant = plant - plant_to_dpm kind plant

-- Step 6: of manure DPM gets 49 hundredths, rounded down, ..
abbrev pub manure_to_dpm : ℕ → ℕ
manure_to_dpm manure = share manure 49 100

-- .. HUM 2 hundredths, rounded down, ..
abbrev pub manure_to_hum : ℕ → ℕ
manure_to_hum manure = share manure 2 100

-- .. and RPM the rest.
abbrev pub manure_to_rpm : ℕ → ℕ
manure_to_rpm manure = manure - manure_to_dpm manure - manure_to_hum manure

-- Step 6, whole: the four pools with plant carbon of a kind and manure. BIO gets nothing.
unfoldable pub added : List Grams → ℕ → ℕ → ℕ → List Grams
added pools kind plant manure =
    grams (grams_at pools 0 + plant_to_dpm kind plant + manure_to_dpm manure)
    ∷ grams (grams_at pools 1 + plant_to_rpm kind plant + manure_to_rpm manure)
    ∷ grams (grams_at pools 2)
    ∷ grams (grams_at pools 3 + manure_to_hum manure)
    ∷ []
