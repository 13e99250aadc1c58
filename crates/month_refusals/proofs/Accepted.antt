-- What acceptance means in plain numbers: a soil, a state and a month's entries of which no refusal applies. Each is the same as its
-- check finding nothing.
-- Assumes nothing.
use Rattle.std.specs.Prelude.{Ok, Err}
use mathlib.Core.Path.{◌≡◌, refl, ◌∙◌}
use mathlib.Core.Logic.{⊎_elim}
use mathlib.Core.Bool.{Bool, true, false, not, ◌||◌}
use Prim.Native.Nat.{ℕ, ◌+◌, ◌*◌, ◌≤◌, ◌<◌}
use native.Mathlib.Omega.{arith}
use native.Mathlib.Decide.{dec_le}
use borrow.Author.Tests.{ltb-false, leb-false, eqb-true, not-false, le-ltb, lt-leb, eq-eqb, ne_eqb}
use lib.Dec.{T, eqb, leb→le}
use lib.IntN.{ℤ, pos, negsuc, nat_abs}
use lib.Signed.{lt_z, ◌≤ℤ◌, lt_z_no, lt_z_yes, clash_ℤ}
use Rattle.step_water.specs.Water.{max_deficit}
use Rattle.step_pools.specs.Pools.{total}
use Rattle.month_state.specs.declared.Soil.{Soil}
use Rattle.month_state.specs.declared.State.{State}
use Rattle.month_state.specs.declared.Weather.{Weather}
use Rattle.month_state.specs.declared.Land.{Land}
use Rattle.month_state.specs.declared.Entries.{Entries}
use Rattle.month_state.specs.State.{carbon_ceiling, month_limit, kept_limit, new_state}
use Rattle.std.proofs.lemmas.Bool.{or_cases, or_parts, or_from}
use Rattle.month_refusals.specs.declared.Refusal.TheVariants.{Turn}
use Rattle.month_refusals.specs.Refusals.{clay_outside, depth_outside, kind_other, carbon_above, carbon_bounds_passed, modern_bound, modern_above}
use Rattle.month_refusals.specs.Refusals.{bounds_passed, out_of_turn, limit_reached, activity_outside, outside, temperature_outside, water_outside}
use Rattle.month_refusals.specs.Refusals.{source_outside, cover_outside, additions_outside, ceiling_passed, soil_asked, bounds_asked, state_asked}
use Rattle.month_refusals.specs.Refusals.{turn_asked, weather_asked, land_asked, carbon_asked, entries_asked, month_asked, soil_check, state_check}
use Rattle.month_refusals.specs.Refusals.{weather_check, land_check, entries_check, month_check}
use Rattle.month_refusals.specs.Asked.{first_of}
use Rattle.month_refusals.proofs.First.{passes-one, one_passes, passes-parts, parts_pass, first-append}

-- None of 4 to 7 applies.
pub record SoundSoil (s : Soil) : Type 0 where
  pub clay : s.clay ≤ 1000
  pub shallowest : 1 ≤ s.depth
  pub deepest : s.depth ≤ 100
  pub first_kind : 1 ≤ s.kind
  pub last_kind : s.kind ≤ 3
  pub pools : total s.pools ≤ carbon_ceiling
  pub iom : s.iom.0 ≤ carbon_ceiling

-- None of 4 to 7 and 10 applies.
pub record Sound (s : State) : Type 0 where
  pub soil : SoundSoil s.soil
  pub deficit : s.deficit.0 ≤ max_deficit s.soil.clay s.soil.depth
  pub months : s.months ≤ month_limit
  pub kept : s.kept ≤ kept_limit
  pub carbon : s.co2.0 + total s.soil.pools ≤ 1000000000 + 200000000 * s.months
  pub modern : total s.modern ≤ modern_bound s.months

-- A signed number is in a range.
pub record Between (first last z : ℤ) : Type 0 where
  pub from : first ≤ℤ z
  pub to : z ≤ℤ last

-- None of 13, 14 and 19 applies.
pub record WeatherReady (w : Weather) : Type 0 where
  pub temperature : Between (negsuc 399) (pos 500) w.temperature
  pub rain : Between (pos 0) (pos 20000) w.rain
  pub evaporation : Between (pos 0) (pos 20000) w.evaporation
  pub source : Between (pos 0) (pos 1) w.source

-- None of 15, 16 and 21 applies.
pub record LandReady (l : Land) : Type 0 where
  pub cover : Between (pos 0) (pos 1) l.cover
  pub plant : Between (pos 0) (pos 100000000) l.plant
  pub manure : Between (pos 0) (pos 100000000) l.manure
  pub activity : Between (pos 0) (pos 2000) l.activity

-- None of 12 to 17, 19 and 21 applies.
pub record Ready (s : State) (e : Entries) : Type 0 where
  pub months : s.months < month_limit
  pub weather : WeatherReady e.weather
  pub land : LandReady e.land
  pub carbon : total s.soil.pools + nat_abs e.land.plant + nat_abs e.land.manure ≤ carbon_ceiling

-- ---- 4 to 7

one_of_three : (k : ℕ) → not (eqb k 1 || (eqb k 2 || eqb k 3)) ≡ false → (1 ≤ k) × (k ≤ 3)
one_of_three k h =
    ⊎_elim (λ a. let is : k ≡ 1 = eqb-true k 1 a in (omega arith, omega arith))
    (λ b. ⊎_elim (λ a. let is : k ≡ 2 = eqb-true k 2 a in (omega arith, omega arith))
    (λ a. let is : k ≡ 3 = eqb-true k 3 a in (omega arith, omega arith)) (or_cases (eqb k 2) (eqb k 3) b))
    (or_cases (eqb k 1) (eqb k 2 || eqb k 3) (not-false _ h))

pub three_kinds : (k : ℕ) → 1 ≤ k → k ≤ 3 → not (eqb k 1 || (eqb k 2 || eqb k 3)) ≡ false
three_kinds k low high = elim (dec_le k 1) [
  | yes a ↦ let is : k ≡ 1 = omega arith in rw is
  | no a ↦ elim (dec_le k 2) [
    | yes b ↦ let is : k ≡ 2 = omega arith in rw is
    | no b ↦ let is : k ≡ 3 = omega arith in rw is
  ]
]

-- An accepted soil is sound, ..
pub sound-soil : (s : Soil) → soil_check s ≡ Ok tt → SoundSoil s
unfolding soil_asked clay_outside depth_outside kind_other carbon_above
sound-soil s h =
    let clay = passes-one _ _ h in
    let depth = passes-one _ _ clay.1 in
    let kind = passes-one _ _ depth.1 in
    let carbon = passes-one _ _ kind.1 in
    let depths = or_parts _ _ depth.0 in
    let grams = or_parts _ _ carbon.0 in
    let kinds = one_of_three s.kind kind.0 in
    record {
      clay = ltb-false _ _ clay.0;
      shallowest = ltb-false _ _ depths.0;
      deepest = ltb-false _ _ depths.1;
      first_kind = kinds.0;
      last_kind = kinds.1;
      pools = ltb-false _ _ grams.0;
      iom = ltb-false _ _ grams.1;
    }

-- .. and a sound one is accepted.
pub soil-passes : (s : Soil) → SoundSoil s → soil_check s ≡ Ok tt
unfolding first_of soil_asked clay_outside depth_outside kind_other carbon_above
soil-passes s h =
    one_passes _ (le-ltb _ _ h.clay)
    (one_passes _ (or_from _ _ (le-ltb _ _ h.shallowest) (le-ltb _ _ h.deepest))
    (one_passes _ (three_kinds s.kind h.first_kind h.last_kind)
    (one_passes _ (or_from _ _ (le-ltb _ _ h.pools) (le-ltb _ _ h.iom)) refl)))

-- ---- 4 to 7 and 10

-- A state passes where its soil and its bounds do.
pub state-parts : (s : State) → state_check s ≡ Ok tt → (soil_check s.soil ≡ Ok tt) × (first_of (bounds_asked s) ≡ Ok tt)
unfolding state_asked
state-parts s h = passes-parts (soil_asked s.soil) (bounds_asked s) h

pub parts-state : (s : State) → soil_check s.soil ≡ Ok tt → first_of (bounds_asked s) ≡ Ok tt → state_check s ≡ Ok tt
unfolding state_asked
parts-state s soil bounds = parts_pass (soil_asked s.soil) (bounds_asked s) soil bounds

pub sound-state : (s : State) → state_check s ≡ Ok tt → Sound s
unfolding bounds_asked bounds_passed carbon_bounds_passed modern_above
sound-state s h =
    let parts = state-parts s h in
    let bounds = passes-one _ _ parts.1 in
    let both = or_parts (carbon_bounds_passed s) _ bounds.0 in
    let first = or_parts _ _ both.0 in
    let second = or_parts _ _ first.1 in
    let third = or_parts _ _ second.1 in
    record {
      soil = sound-soil s.soil parts.0;
      deficit = ltb-false _ _ first.0;
      months = ltb-false _ _ second.0;
      kept = ltb-false _ _ third.0;
      carbon = ltb-false _ _ third.1;
      modern = ltb-false _ _ both.1;
    }

-- 10 alone, of a sound state.
in_bounds : (s : State) → Sound s → bounds_passed s ≡ false
unfolding bounds_passed carbon_bounds_passed modern_above
in_bounds s h =
    or_from _ _
    (or_from _ _ (le-ltb _ _ h.deficit)
    (or_from _ _ (le-ltb _ _ h.months) (or_from _ _ (le-ltb _ _ h.kept) (le-ltb _ _ h.carbon))))
    (le-ltb _ _ h.modern)

pub state-passes : (s : State) → Sound s → state_check s ≡ Ok tt
unfolding first_of bounds_asked
state-passes s h =
    parts-state s (soil-passes s.soil h.soil)
    (one_passes _ (in_bounds s h) refl)

-- The new state of an accepted soil passes 4 to 7 and 10: D, the CO2 to date and the kept ones are 0, and there are as many modern
-- grams as grams.
pub new_passes : (s : Soil) → soil_check s ≡ Ok tt → state_check (new_state s) ≡ Ok tt
unfolding new_state
new_passes s h =
    let soil = sound-soil s h in
    state-passes (new_state s)
    (record {
      soil = soil;
      deficit = omega arith;
      months = omega arith;
      kept = omega arith;
      carbon = omega (arith, soil.pools);
      modern = omega (arith, soil.pools);
    })

-- ---- signed numbers

false_not : {b : Bool} → b ≡ false → T (not b)
false_not e = rw e tt

never_true : (b : Bool) → (T b → ⊥) → b ≡ false
never_true true f = absurd (f tt)
never_true false f = refl

-- A number is in a range exactly where the test of the range is false.
pub inside : (first last z : ℤ) → outside first last z ≡ false → Between first last z
inside first last z h =
    let parts = or_parts (lt_z z first) (lt_z last z) h in
    record { from = lt_z_no (false_not parts.0); to = lt_z_no (false_not parts.1) }

pub not_outside : (first last z : ℤ) → Between first last z → outside first last z ≡ false
not_outside first last z h =
    or_from _ _ (never_true (lt_z z first) (λ t. clash_ℤ (lt_z_yes t) h.from)) (never_true (lt_z last z) (λ t. clash_ℤ (lt_z_yes t) h.to))

-- A number from 0 to k is a natural number of at most k.
pub natural_most : (k : ℕ) (z : ℤ) → Between (pos 0) (pos k) z → nat_abs z ≤ k
natural_most k (pos n) h = leb→le n k h.to.le
natural_most k (negsuc n) h = absurd h.from.le

-- ---- 12 to 17, 19 and 21

pub weather_ready : (w : Weather) → weather_check w ≡ Ok tt → WeatherReady w
unfolding weather_asked temperature_outside water_outside source_outside
weather_ready w h =
    let temperature = passes-one _ _ h in
    let water = passes-one _ _ temperature.1 in
    let source = passes-one _ _ water.1 in
    let waters = or_parts (outside (pos 0) (pos 20000) w.rain) _ water.0 in
    record {
      temperature = inside _ _ _ temperature.0;
      rain = inside _ _ _ waters.0;
      evaporation = inside _ _ _ waters.1;
      source = inside _ _ _ source.0;
    }

pub weather-passes : (w : Weather) → WeatherReady w → weather_check w ≡ Ok tt
unfolding first_of weather_asked temperature_outside water_outside source_outside
weather-passes w h =
    one_passes _ (not_outside _ _ _ h.temperature)
    (one_passes _ (or_from _ _ (not_outside _ _ _ h.rain) (not_outside _ _ _ h.evaporation))
    (one_passes _ (not_outside _ _ _ h.source) refl))

pub land_ready : (l : Land) → land_check l ≡ Ok tt → LandReady l
unfolding land_asked cover_outside additions_outside activity_outside
land_ready l h =
    let cover = passes-one _ _ h in
    let additions = passes-one _ _ cover.1 in
    let activity = passes-one _ _ additions.1 in
    let grams = or_parts (outside (pos 0) (pos 100000000) l.plant) _ additions.0 in
    record {
      cover = inside _ _ _ cover.0;
      plant = inside _ _ _ grams.0;
      manure = inside _ _ _ grams.1;
      activity = inside _ _ _ activity.0;
    }

pub land-passes : (l : Land) → LandReady l → land_check l ≡ Ok tt
unfolding first_of land_asked cover_outside additions_outside activity_outside
land-passes l h =
    one_passes _ (not_outside _ _ _ h.cover)
    (one_passes _ (or_from _ _ (not_outside _ _ _ h.plant) (not_outside _ _ _ h.manure))
    (one_passes _ (not_outside _ _ _ h.activity) refl))

-- The parts of a month's entries that pass.
pub record EntriesPass (s : State) (e : Entries) : Type 0 where
  pub limit : limit_reached s ≡ false
  pub weather : weather_check e.weather ≡ Ok tt
  pub land : land_check e.land ≡ Ok tt
  pub ceiling : ceiling_passed s e.land ≡ false

pub entries-parts : (s : State) (e : Entries) → entries_check s e ≡ Ok tt → EntriesPass s e
unfolding entries_asked carbon_asked
entries-parts s e h =
    let limit = passes-one _ _ h in
    let weather = passes-parts (weather_asked e.weather) _ limit.1 in
    let land = passes-parts (land_asked e.land) _ weather.1 in
    let ceiling = passes-one _ _ land.1 in
    record { limit = limit.0; weather = weather.0; land = land.0; ceiling = ceiling.0 }

pub ready : (s : State) (e : Entries) → entries_check s e ≡ Ok tt → Ready s e
unfolding limit_reached ceiling_passed
ready s e h =
    let parts = entries-parts s e h in
    record {
      months = leb-false _ _ parts.limit;
      weather = weather_ready e.weather parts.weather;
      land = land_ready e.land parts.land;
      carbon = ltb-false _ _ parts.ceiling;
    }

pub entries_pass : (s : State) (e : Entries) → Ready s e → entries_check s e ≡ Ok tt
unfolding first_of entries_asked carbon_asked limit_reached ceiling_passed
entries_pass s e h =
    one_passes _ (lt-leb _ _ h.months)
    (parts_pass (weather_asked e.weather) _ (weather-passes e.weather h.weather)
    (parts_pass (land_asked e.land) _ (land-passes e.land h.land) (one_passes _ (le-ltb _ _ h.carbon) refl)))

-- ---- a single month call

pub month-parts :
    (s : State) (number : ℕ) (e : Entries) → month_check s number e ≡ Ok tt
    → (state_check s ≡ Ok tt) × (number ≡ s.months + 1) × (entries_check s e ≡ Ok tt)
unfolding month_asked turn_asked out_of_turn
month-parts s number e h =
    let parts = passes-parts (state_asked s) _ h in
    let later = passes-parts (turn_asked s number) _ parts.1 in
    let turn = passes-one _ _ later.0 in
    (parts.0, eqb-true _ _ (not-false _ turn.0), later.1)

in_turn : (s : State) (number : ℕ) → number ≡ s.months + 1 → first_of (turn_asked s number) ≡ Ok tt
unfolding first_of turn_asked out_of_turn
in_turn s number n = rw (eq-eqb number (s.months + 1) n)

pub month-passes :
    (s : State) (number : ℕ) (e : Entries) → state_check s ≡ Ok tt → number ≡ s.months + 1 → entries_check s e ≡ Ok tt
    → month_check s number e ≡ Ok tt
unfolding month_asked
month-passes s number e h n r = parts_pass (state_asked s) _ h (parts_pass (turn_asked s number) _ (in_turn s number n) r)

-- With the number of the next month, what is left of a call's checks on a state that passes is what its entries find.
pub month_is_entries : (s : State) (e : Entries) → state_check s ≡ Ok tt → month_check s (s.months + 1) e ≡ entries_check s e
unfolding month_asked
month_is_entries s e h =
    first-append (state_asked s) _ ∙ rw h (first-append (turn_asked s (s.months + 1)) _ ∙ rw (in_turn s (s.months + 1) refl))

not_in_turn : (s : State) (number : ℕ) → (number ≡ s.months + 1 → ⊥) → first_of (turn_asked s number) ≡ Err Turn
unfolding first_of turn_asked out_of_turn
not_in_turn s number other = rw (ne_eqb number (s.months + 1) other)

-- A month out of its turn is never accepted, whatever the state and the entries, ..
pub out_of_turn_lem : (s : State) (number : ℕ) (e : Entries) → (number ≡ s.months + 1 → ⊥) → month_check s number e ≡ Ok tt → ⊥
out_of_turn_lem s number e other h = other (month-parts s number e h).1

-- .. and of a state that passes 4 to 7 and 10 it is refused by 11, whatever the entries.
pub refused_turn :
    (s : State) (number : ℕ) (e : Entries) → state_check s ≡ Ok tt → (number ≡ s.months + 1 → ⊥)
    → month_check s number e ≡ Err Turn
unfolding month_asked
refused_turn s number e sound other =
    first-append (state_asked s) _ ∙ rw sound (first-append (turn_asked s number) _ ∙ rw (not_in_turn s number other))
