-- Two years that show what settles one: each part of `settles` is a condition of its own. In the
-- second, Warren Close's third, residue falls while humus rises, as document 02's change 2026-05
-- tells of two light fields.
use Rattle.std.specs.Prelude.{Ok, ◌≡◌, List, [], ◌∷◌, ◌++◌, ℕ, zero, suc, ℤ, pos, negsuc}
use Rattle.step_pools.specs.Pools.{grams}
use Rattle.month_state.specs.declared.State.{State}
use Rattle.month_state.specs.State.{new_state}
use Rattle.spin_up.specs.declared.Years.TheVariants.{Unsettled}
use Rattle.spin_up.specs.SpinUp.{spin_up}
use Rattle.spin_up.specs.Reached.{after_years}
use Rattle.spin_up.specs.Settled.{SettledByTotal, TotalCounts, PoolsCount}

-- ---- fields and rows

-- A new field of 23 cm under crops: its clay, its active pools and IOM.
abbrev pub field : ℕ → ℕ → ℕ → ℕ → ℕ → ℕ → State
field clay dpm rpm bio hum iom =
    new_state
    (record {
      clay = clay;
      depth = 23;
      kind = 1;
      pools = grams dpm ∷ grams rpm ∷ grams bio ∷ grams hum ∷ [];
      iom = grams iom;
    })

-- A month's weather, from an open pan, and its land with fresh plant carbon and no manure.
abbrev pub weather : ℕ → ℕ → ℕ → List ℤ
weather temperature rain evaporation =
    pos temperature ∷ pos rain ∷ pos evaporation ∷ pos 0 ∷ []

abbrev pub land : ℕ → ℕ → List ℤ
land cover plant = pos cover ∷ pos plant ∷ pos 0 ∷ pos 1000 ∷ []

-- So many months alike.
abbrev pub months_of : ℕ → List ℤ → List ℤ
months_of zero row = []
months_of (suc left) row = row ++ months_of left row

-- ---- a year of frost

-- -6.0 °C in every month, at which nothing decays; `negsuc n` is -(n + 1).
abbrev pub frost : List ℤ
frost = months_of 12 (negsuc 59 ∷ pos 0 ∷ pos 0 ∷ pos 0 ∷ [])

-- 1,500 g of plant carbon in January.
abbrev pub january_alone : List ℤ
january_alone = land 0 1500 ++ months_of 11 (land 0 0)

-- Without carbon.
abbrev pub empty : State
empty = field 0 0 0 0 0 0

-- ---- Warren Close: the field, the weather and the cropping of examples/light/warren-close.book

abbrev pub warren_close : State
warren_close = field 40 200000 7500000 400000 8000000 1500000

abbrev pub rothamsted : List ℤ
rothamsted =
    weather 34 740 80
    ++ weather 36 590 100
    ++ weather 51 620 270
    ++ weather 73 510 490
    ++ weather 110 520 830
    ++ weather 139 570 990
    ++ weather 160 340 1030
    ++ weather 160 550 910
    ++ weather 135 580 690
    ++ weather 102 560 340
    ++ weather 61 750 160
    ++ weather 46 710 80

-- A crop from January to July and in December.
abbrev pub cropping : List ℤ
cropping = months_of 7 (land 1 260000) ++ months_of 4 (land 0 0) ++ land 1 260000

-- ---- what they show

pub record SettledYears : Type 0 where
  -- The total is a condition of its own: 885 g of DPM and 615 g of RPM more.
  pub total_counts : TotalCounts frost january_alone empty
  -- So are the pools: Warren Close's third year.
  pub pools_count : PoolsCount rothamsted cropping (after_years 2 rothamsted cropping warren_close)
  -- By the total alone it settled in that year, ..
  pub by_total : SettledByTotal rothamsted cropping 10000 warren_close 3
  -- .. and now it does not.
  pub not_now : (spin_up warren_close rothamsted cropping 3).answer ≡ Ok (Unsettled 3)
