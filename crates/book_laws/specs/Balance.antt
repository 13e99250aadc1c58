-- The carbon of a book that finishes: demand 3 of its months, and the balance that can be added up
-- from the book and its answer.
use Rattle.std.specs.Prelude.{◌≡◌, List, [], ◌∷◌, ℕ, ◌+◌, nat_abs, length}
use Rattle.number_units.specs.declared.Grams.{Grams}
use Rattle.step_pools.specs.Pools.{grams}
use Rattle.month_state.specs.declared.State.{State}
use Rattle.month_state.specs.declared.Land.{Land}
use Rattle.month_state.specs.State.{five_pools}
use Rattle.list_run.specs.ListCalls.{ListDemand3}
use Rattle.book_lines.specs.declared.SoilNumbers.{SoilNumbers}
use Rattle.book_run.specs.Book.{soil_of}
use Rattle.book_laws.specs.BookText.{BookNumbers, weather_list, land_list, months_of}

-- The five pools on the soil's line.
abbrev pub soil_carbon : SoilNumbers → ℕ
soil_carbon x = x.dpm + x.rpm + x.bio + x.hum + x.iom

-- All plant and manure on the land's lines.
unfoldable pub land_carbon : List Land → ℕ
land_carbon [] = 0
land_carbon (l ∷ later) = nat_abs l.plant + nat_abs l.manure + land_carbon later

-- To the gram, the five pools and the CO2 to date of the answer (the two numbers of `TOTAL t g`)
-- are the five pools on the soil's line and all plant and manure on the land's lines.
pub record BookBalance (b : BookNumbers) (pools co2 : Grams) : Type 0 where
  pub balance : pools.0 + co2.0 ≡ soil_carbon b.soil + land_carbon b.land

-- The state that the months of a book's numbers end with.
abbrev pub end_of : BookNumbers → List ℕ → State
end_of b rows = (months_of b rows).outcome.state

-- A book that finishes with so many months: the answer is that of its end state, demand 3 holds of
-- all its months, and the carbon balances.
pub record BookDemand3
    (b : BookNumbers)
    (rows : List ℕ)
    (months : ℕ)
    (pools co2 : Grams)
    : Type 0 where
  pub count : length b.land ≡ months
  pub pools_are : grams (five_pools (end_of b rows)) ≡ pools
  pub co2_is : (end_of b rows).co2 ≡ co2
  pub demand3 :
      ListDemand3 (soil_of b.soil) (weather_list b) (land_list b) months (end_of b rows)
  pub carbon : BookBalance b pools co2
