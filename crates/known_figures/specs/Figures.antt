-- The known figures that document 01 marks (P), as one statement about the definitions.
use Rattle.std.specs.Prelude.{◌≡◌, pos, negsuc}
use Rattle.step_factors.specs.Factors.{temperature_factor, clay_number}
use Rattle.step_water.specs.Water.{max_deficit, moisture_factor}
use Rattle.step_additions.specs.Additions.{plant_to_dpm, plant_to_rpm, manure_to_dpm, manure_to_rpm}
use Rattle.step_additions.specs.Additions.{manure_to_hum}

-- `negsuc n` is -(n + 1). A deficit of 27.50 mm is 56,925,000 parts.
pub record KnownFigures : Type 0 where
  pub coldest : temperature_factor (negsuc 50) ≡ 0
  pub lowest : temperature_factor (negsuc 49) ≡ 162
  pub january : temperature_factor (pos 34) ≡ 3561
  pub mean : temperature_factor (pos 93) ≡ 10013
  pub hottest : temperature_factor (pos 500) ≡ 83639
  pub no_clay : clay_number 0 ≡ 147896
  pub rothamsted : clay_number 234 ≡ 221524
  pub all_clay : clay_number 1000 ≡ 244467
  pub drying : moisture_factor (max_deficit 234 23) 56925000 ≡ 7585
  pub driest : moisture_factor (max_deficit 234 23) (max_deficit 234 23) ≡ 2000
  pub plant_dpm : plant_to_dpm 1 61 ≡ 36
  pub plant_rpm : plant_to_rpm 1 61 ≡ 25
  pub manure_dpm : manure_to_dpm 99 ≡ 48
  pub manure_rpm : manure_to_rpm 99 ≡ 50
  pub manure_hum : manure_to_hum 99 ≡ 1
