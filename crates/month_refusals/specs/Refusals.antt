-- The refusals of a soil, a state and a month, in the papers' words and order. Each call takes its
-- part of the list.
use Rattle.std.specs.Prelude.{Bool, not, ◌||◌, List, [], ◌∷◌, ◌++◌, ℕ, ◌+◌, ◌*◌, leb, ltb, eqb, ℤ}
use Rattle.std.specs.Prelude.{pos, negsuc, nat_abs}
use Rattle.std.specs.Int.Signed.{lt_z}
use Rattle.step_water.specs.Water.{max_deficit}
use Rattle.step_pools.specs.Pools.{total}
use Rattle.month_state.specs.declared.Soil.{Soil}
use Rattle.month_state.specs.declared.State.{State}
use Rattle.month_state.specs.declared.Weather.{Weather}
use Rattle.month_state.specs.declared.Land.{Land}
use Rattle.month_state.specs.declared.Entries.{Entries}
use Rattle.month_state.specs.State.{carbon_ceiling, month_limit, kept_limit}
use Rattle.month_refusals.specs.Asked.{Check, Asked, ◌if◌, first_of}
use Rattle.month_refusals.specs.declared.Refusal.TheVariants.{Clay, Depth, Kind, Carbon, Bounds}
use Rattle.month_refusals.specs.declared.Refusal.TheVariants.{Turn, MonthLimit, Temperature, Water}
use Rattle.month_refusals.specs.declared.Refusal.TheVariants.{Source, Cover, Additions, Activity}
use Rattle.month_refusals.specs.declared.Refusal.TheVariants.{Ceiling}

-- ---- the conditions

-- 4: clay is outside 0 to 1000.
unfoldable pub clay_outside : Soil → Bool
clay_outside s = ltb 1000 s.clay

-- 5: depth is outside 1 to 100.
unfoldable pub depth_outside : Soil → Bool
depth_outside s = ltb s.depth 1 || ltb 100 s.depth

-- 6: kind is not 1, 2 or 3.
unfoldable pub kind_other : Soil → Bool
kind_other s = not (eqb s.kind 1 || (eqb s.kind 2 || eqb s.kind 3))

-- 7: the active pools together, or IOM, exceed 1,000,000,000.
unfoldable pub carbon_above : Soil → Bool
carbon_above s = ltb carbon_ceiling (total s.pools) || ltb carbon_ceiling s.iom.0

-- 10, but for modern grams: a state has D outside 0 to M, more than 120,000 months, "a kept count
-- above 24" (change 2026-02), or CO2 and active pools together above 1,000,000,000 + 200,000,000 ×
-- months.
unfoldable pub carbon_bounds_passed : State → Bool
carbon_bounds_passed s =
    ltb (max_deficit s.soil.clay s.soil.depth) s.deficit.0
    || (ltb month_limit s.months
    || (ltb kept_limit s.kept
    || ltb (1000000000 + 200000000 * s.months) (s.co2.0 + total s.soil.pools)))

-- The modern grams that active pools together may have after so many months.
abbrev pub modern_bound : ℕ → ℕ
modern_bound months = 1000000000 + 400000000 * months

-- "10 also takes active modern grams together above" it (change 2026-04).
unfoldable pub modern_above : State → Bool
modern_above s = ltb (modern_bound s.months) (total s.modern)

-- 10, whole.
unfoldable pub bounds_passed : State → Bool
bounds_passed s = carbon_bounds_passed s || modern_above s

-- 11: the month's number isn't months done plus 1.
unfoldable pub out_of_turn : State → ℕ → Bool
out_of_turn s number = not (eqb number (s.months + 1))

-- 12: 120,000 months are done.
unfoldable pub limit_reached : State → Bool
limit_reached s = leb month_limit s.months

-- Below the first or above the last of a range.
abbrev pub outside : ℤ → ℤ → ℤ → Bool
outside first last z = lt_z z first || lt_z last z

-- 13: temperature is outside -400 to 500. (`negsuc n` is -(n + 1).)
unfoldable pub temperature_outside : Weather → Bool
temperature_outside w = outside (negsuc 399) (pos 500) w.temperature

-- 14: rain or evaporation is outside 0 to 20,000.
unfoldable pub water_outside : Weather → Bool
water_outside w =
    outside (pos 0) (pos 20000) w.rain || outside (pos 0) (pos 20000) w.evaporation

-- 19: the evaporation's source is a "fourth number other than 0 or 1".
unfoldable pub source_outside : Weather → Bool
source_outside w = outside (pos 0) (pos 1) w.source

-- 15: cover is neither 0 nor 1.
unfoldable pub cover_outside : Land → Bool
cover_outside l = outside (pos 0) (pos 1) l.cover

-- 16: plant or manure is outside 0 to 100,000,000.
unfoldable pub additions_outside : Land → Bool
additions_outside l =
    outside (pos 0) (pos 100000000) l.plant || outside (pos 0) (pos 100000000) l.manure

-- 21: "an activity outside 0 to 2,000".
unfoldable pub activity_outside : Land → Bool
activity_outside l = outside (pos 0) (pos 2000) l.activity

-- 17: active pools before the month, plus plant and manure, exceed 1,000,000,000.
unfoldable pub ceiling_passed : State → Land → Bool
ceiling_passed s l =
    ltb carbon_ceiling (total s.soil.pools + nat_abs l.plant + nat_abs l.manure)

-- ---- what is asked, in checking order

-- 4 to 7: a soil.
unfoldable pub soil_asked : Soil → List Asked
soil_asked s =
    (Clay if clay_outside s)
    ∷ (Depth if depth_outside s)
    ∷ (Kind if kind_other s)
    ∷ (Carbon if carbon_above s)
    ∷ []

-- 10: the bounds of a state.
unfoldable pub bounds_asked : State → List Asked
bounds_asked s = (Bounds if bounds_passed s) ∷ []

-- 4 to 7 and 10: a state that is lent.
unfoldable pub state_asked : State → List Asked
state_asked s = soil_asked s.soil ++ bounds_asked s

-- 11: the turn of a single month call.
unfoldable pub turn_asked : State → ℕ → List Asked
turn_asked s number = (Turn if out_of_turn s number) ∷ []

-- 13, 14 and 19: a month's weather, or a line of weather.
unfoldable pub weather_asked : Weather → List Asked
weather_asked w =
    (Temperature if temperature_outside w) ∷ (Water if water_outside w) ∷ (Source if source_outside w)
    ∷ []

-- 15, 16 and 21: what the land is given.
unfoldable pub land_asked : Land → List Asked
land_asked l =
    (Cover if cover_outside l) ∷ (Additions if additions_outside l) ∷ (Activity if activity_outside l)
    ∷ []

-- 15, 16, 21 and 17: what the land is given, and the carbon that it makes up with the pools.
unfoldable pub carbon_asked : State → Land → List Asked
carbon_asked s l = land_asked l ++ ((Ceiling if ceiling_passed s l) ∷ [])

-- 12 to 17, with 19 after 14 and 21 after 16: a month's entries, in a single month call and in a
-- list.
unfoldable pub entries_asked : State → Entries → List Asked
entries_asked s e =
    (MonthLimit if limit_reached s) ∷ (weather_asked e.weather ++ carbon_asked s e.land)

-- 4 to 7, 10, 11, and 12 to 17 with 19 after 14 and 21 after 16: a single month call.
unfoldable pub month_asked : State → ℕ → Entries → List Asked
month_asked s number e = state_asked s ++ (turn_asked s number ++ entries_asked s e)

-- ---- what each check finds

abbrev pub soil_check : Soil → Check
soil_check s = first_of (soil_asked s)

abbrev pub state_check : State → Check
state_check s = first_of (state_asked s)

abbrev pub weather_check : Weather → Check
weather_check w = first_of (weather_asked w)

abbrev pub land_check : Land → Check
land_check l = first_of (land_asked l)

abbrev pub entries_check : State → Entries → Check
entries_check s e = first_of (entries_asked s e)

abbrev pub month_check : State → ℕ → Entries → Check
month_check s number e = first_of (month_asked s number e)
