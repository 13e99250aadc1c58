-- The rules of steps 1 and 2 over the whole tables: each test is computed once over all entries and carried to each place.
-- Assumes nothing.
use mathlib.Core.Path.{◌≡◌, refl, ◌∙◌, ap}
use mathlib.Core.Bool.{Bool}
use mathlib.Core.List.{List}
use Prim.Native.Nat.{ℕ, ◌≤◌, ◌<◌}
use native.Mathlib.Omega.{arith}
use lib.Dec.{T, lit<}
use lib.ListN.{length, get_or}
use Rattle.number_exact.specs.Exponential.{agreeing, opposing, denominator, Nearest}
use Rattle.number_exact.proofs.Tests.{all_pass, entry, at_most, entry_most}
use Rattle.number_exact.proofs.Nearest.{nearest_test, half_test, minus_sum, plus_sum, nearest_by_test}
use Rattle.step_factors.specs.declared.temperature_table.TheConstants.{TEMPERATURE_FACTORS}
use Rattle.step_factors.specs.declared.clay_table.TheConstants.{CLAY_NUMBERS}
use Rattle.step_factors.specs.TemperatureTable.{temperature_table}
use Rattle.step_factors.specs.ClayTable.{clay_table}
use Rattle.step_factors.specs.Factors.{
  temperature_num,
  temperature_den,
  temperature_exponent_num,
  temperature_exponent_den,
  clay_num,
  clay_den,
  clay_exponent_num,
  clay_exponent_den,
  clay_number,
  IsClayNumber,
}

-- sums of 34 and 35 terms
temperature_test : ℕ → ℕ → Bool
temperature_test i a = nearest_test a temperature_num temperature_den temperature_exponent_num (temperature_exponent_den i) 33 34

temperature_tested : T (all_pass temperature_test 0 temperature_table)
unfolding temperature_test temperature_exponent_num temperature_exponent_den temperature_table nearest_test half_test minus_sum plus_sum temperature_num temperature_den agreeing opposing denominator
temperature_tested = tt

clay_test : ℕ → ℕ → Bool
clay_test c r = nearest_test r clay_num clay_den (clay_exponent_num c) clay_exponent_den 33 34

clay_tested : T (all_pass clay_test 0 clay_table)
unfolding clay_test clay_exponent_num clay_exponent_den clay_table nearest_test half_test minus_sum plus_sum clay_num clay_den agreeing opposing denominator
clay_tested = tt

temperature_length : length temperature_table ≡ 551
unfolding temperature_table
temperature_length = refl

clay-length : length clay_table ≡ 1001
unfolding clay_table
clay-length = refl

-- place i of the table of step 1 has the nearest number
pub temperature_nearest : (i : ℕ) → i < 551 → Nearest (get_or temperature_table i 0) temperature_num temperature_den temperature_exponent_num (temperature_exponent_den i)
unfolding temperature_test temperature_exponent_den
temperature_nearest i h =
    nearest_by_test (get_or temperature_table i 0) temperature_num temperature_den temperature_exponent_num (temperature_exponent_den i) 33 34 (omega arith) refl refl
    (entry temperature_test temperature_table temperature_tested i (omega (arith, temperature_length)))

-- place c of the table of step 2 has the nearest number
pub clay_nearest : (c : ℕ) → c ≤ 1000 → Nearest (get_or clay_table c 0) clay_num clay_den (clay_exponent_num c) clay_exponent_den
unfolding clay_test clay_exponent_den
clay_nearest c h =
    nearest_by_test (get_or clay_table c 0) clay_num clay_den (clay_exponent_num c) clay_exponent_den 33 34 (lit< tt) refl refl
    (entry clay_test clay_table clay_tested c (omega (arith, clay-length)))

-- the largest entries
temperature_all_most : T (all_pass (at_most 83639) 0 temperature_table)
unfolding temperature_table
temperature_all_most = tt

clay_all_most : T (all_pass (at_most 244467) 0 clay_table)
unfolding clay_table
clay_all_most = tt

pub temperature_most : (i : ℕ) → i < 551 → get_or temperature_table i 0 ≤ 83639
temperature_most i h = entry_most 83639 temperature_table temperature_all_most i (omega (arith, temperature_length))

pub clay-most : (c : ℕ) → c ≤ 1000 → get_or clay_table c 0 ≤ 244467
clay-most c h = entry_most 244467 clay_table clay_all_most c (omega (arith, clay-length))

-- ---- the code's tables are the definition's, ..

temperature_same : TEMPERATURE_FACTORS ≡ temperature_table
unfolding temperature_table
temperature_same = refl

clay-same : CLAY_NUMBERS ≡ clay_table
unfolding clay_table
clay-same = refl

-- .. and so a number read from them is that of the definition
pub temperature_read : {a : ℕ} (i : ℕ) → a ≡ get_or TEMPERATURE_FACTORS i 0 → a ≡ get_or temperature_table i 0
temperature_read i is = is ∙ ap (λ (t : List ℕ). get_or t i 0) temperature_same

pub clay_read : {r : ℕ} (c : ℕ) → c ≤ 1000 → r ≡ get_or CLAY_NUMBERS c 0 → (r ≡ clay_number c) × IsClayNumber c r × (r ≤ 244467)
unfolding clay_number IsClayNumber
clay_read c h is =
    let e = is ∙ ap (λ (t : List ℕ). get_or t c 0) clay-same in (e, rw e (clay_nearest c h), rw e (clay-most c h))
