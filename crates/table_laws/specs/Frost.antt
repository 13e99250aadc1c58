-- A table of one month of frost: `1;-0.5;12.3;0.0`.
use Rattle.std.specs.Prelude.{List, [], ◌∷◌, ℕ, pos, negsuc}
use Rattle.month_state.specs.declared.Weather.{Weather}

-- Half a degree below 0, 12.3 mm of rain, and no evapotranspiration. (`negsuc 4` is -5.)
unfoldable pub frost : List Weather
frost =
    record { temperature = negsuc 4; rain = pos 123; evaporation = pos 0; source = pos 1 } ∷ []

-- `1;-0.5;`, `12.3;`, `0.0` and the line's end.
unfoldable pub frost_text : List ℕ
frost_text =
    49 ∷ 59 ∷ 45 ∷ 48 ∷ 46 ∷ 53 ∷ 59
    ∷ 49 ∷ 50 ∷ 46 ∷ 51 ∷ 59
    ∷ 48 ∷ 46 ∷ 48 ∷ 10 ∷ []
