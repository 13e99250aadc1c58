-- Document 01's known figures marked (P) hold of the definitions: each is computed. Assumes nothing.
use mathlib.Core.Path.{refl}
use Rattle.step_factors.specs.TemperatureTable.{temperature_table}
use Rattle.step_factors.specs.ClayTable.{clay_table}
use Rattle.step_factors.specs.Factors.{temperature_factor, factor_at, clay_number}
use Rattle.step_water.specs.Water.{max_deficit, moisture_factor, halves_up}
use Rattle.step_pools.specs.Pools.{share}
use Rattle.step_additions.specs.Additions.{plant_to_dpm}
use Rattle.known_figures.specs.Figures.{KnownFigures}

pub known_figures : KnownFigures
unfolding temperature_factor factor_at temperature_table clay_number clay_table max_deficit moisture_factor halves_up share plant_to_dpm
known_figures =
    record {
      coldest = refl;
      lowest = refl;
      january = refl;
      mean = refl;
      hottest = refl;
      no_clay = refl;
      rothamsted = refl;
      all_clay = refl;
      drying = refl;
      driest = refl;
      plant_dpm = refl;
      plant_rpm = refl;
      manure_dpm = refl;
      manure_rpm = refl;
      manure_hum = refl;
    }
