-- Water, step 3 of document 01: a month's soil moisture deficit, and the rate factor B that follows
-- from it. Clay is in tenths of a percent, depth in cm, rain and evaporation in tenths of a
-- millimetre, a deficit in parts.
use Rattle.std.specs.Prelude.{ℕ, ◌+◌, ◌-◌, ◌*◌, ◌/◌, min, max, Bool, true, false, cond, ℤ, pos}
use Rattle.std.specs.Prelude.{negsuc, ◌+ℤ◌, ◌-ℤ◌, ltb}
use Rattle.step_water.specs.declared.Evaporation.{Evaporation}
use Rattle.step_water.specs.declared.Evaporation.TheVariants.{OpenPan, Potential}

-- M, the largest deficit that the soil can have: 9 × depth × (200,000 + 1,300 × clay - clay²).
unfoldable pub max_deficit : ℕ → ℕ → ℕ
max_deficit clay depth = 9 * depth * (200000 + 1300 * clay - clay * clay)

-- The bare limit is 5/9 of M. M is a multiple of nine, so nothing is lost in the division.
unfoldable pub bare_limit : ℕ → ℕ
bare_limit m = 5 * m / 9

-- An evaporation is from open pan, or potential (change 2026-01), and so many tenths.
abbrev pub is_potential : Evaporation → Bool
is_potential (OpenPan n) = false
is_potential (Potential n) = true

abbrev pub tenths : Evaporation → ℕ
tenths (OpenPan n) = n
tenths (Potential n) = n

-- What a tenth of a millimetre of evaporation dries, in parts, by its source. A tenth of rain is
-- 207,000 parts. Of open-pan evaporation (false) 0.75 of that counts, 155,250; of potential
-- evapotranspiration (true) all of it, "without the 0.75" (change 2026-01).
abbrev pub tenth_dries : Bool → ℕ
tenth_dries false = 155250
tenth_dries true = 207000

-- The month's drying is a signed number: 155,250 × evaporation - 207,000 × rain, or with the other
-- source's parts in the place of 155,250.
unfoldable pub drying : Bool → ℕ → ℕ → ℤ
drying potential evaporation rain = pos (tenth_dries potential * evaporation) -ℤ pos (207000 * rain)

-- The cap: M under a crop (true); on bare soil (false) the larger of the deficit d before the month
-- and the bare limit.
unfoldable pub deficit_cap : Bool → ℕ → ℕ → ℕ
deficit_cap true m d = m
deficit_cap false m d = max d (bare_limit m)

-- A signed number raised to 0 or lowered to the cap.
unfoldable pub clamped : ℕ → ℤ → ℕ
clamped cap (pos n) = min n cap
clamped cap (negsuc n) = 0

-- The new deficit: the deficit d before the month plus the drying, raised to 0 or lowered to the
-- cap.
unfoldable pub new_deficit : Bool → ℕ → ℕ → Bool → ℕ → ℕ → ℕ
new_deficit crop m d potential evaporation rain =
    clamped (deficit_cap crop m d) (pos d +ℤ drying potential evaporation rain)

-- n / d rounded to the nearest whole number, halves up.
unfoldable pub halves_up : ℕ → ℕ → ℕ
halves_up n d = (2 * n + d) / (2 * d)

-- B, in ten-thousandths, for the new deficit d: 10,000 if 1000 × d < 444 × M, else 2,000 +
-- 8,000,000 × (M - d) / (556 × M) rounded, halves up. (`cond` gives the first if the test is true.)
unfoldable pub moisture_factor : ℕ → ℕ → ℕ
moisture_factor m d =
    cond (ltb (1000 * d) (444 * m)) 10000 (2000 + halves_up (8000000 * (m - d)) (556 * m))
