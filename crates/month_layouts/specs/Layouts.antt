-- How soils and states lie in lent memory: lists of numbers in document 01's order. Only the
-- definitions of this file know how many numbers they have and where each of them lies.
use Rattle.std.specs.Prelude.{List, [], ◌∷◌, ◌++◌, ℕ, ◌+◌, ◌*◌, get_or, drop}
use Rattle.number_units.specs.declared.Grams.{Grams}
use Rattle.step_pools.specs.Pools.{grams, grams_at}
use Rattle.month_state.specs.declared.Soil.{Soil}
use Rattle.month_state.specs.declared.State.{State}
use Rattle.month_state.specs.State.{kept_limit}

-- How many numbers each has.
abbrev pub soil_width : ℕ
soil_width = 8

abbrev pub kept_width : ℕ
kept_width = 15

abbrev pub state_width : ℕ
state_width = kept_width + 1

-- The number at a place.
abbrev pub number_at : List ℕ → ℕ → ℕ
number_at numbers place = get_or numbers place 0

-- Four pools from a place on: DPM, RPM, BIO, HUM.
unfoldable pub pools_from : List ℕ → ℕ → List Grams
pools_from numbers place =
    grams (number_at numbers place)
    ∷ grams (number_at numbers (place + 1))
    ∷ grams (number_at numbers (place + 2))
    ∷ grams (number_at numbers (place + 3))
    ∷ []

-- A soil from a place on: clay, depth, kind, DPM, RPM, BIO, HUM, IOM.
unfoldable pub soil_from : List ℕ → ℕ → Soil
soil_from numbers place =
    record {
      clay = number_at numbers place;
      depth = number_at numbers (place + 1);
      kind = number_at numbers (place + 2);
      pools = pools_from numbers (place + 3);
      iom = grams (number_at numbers (place + 7));
    }

abbrev pub soil_of : List ℕ → Soil
soil_of numbers = soil_from numbers 0

-- A state as it is kept, from a place on: the soil's numbers, the deficit D, months done, CO2 to
-- date, and the modern grams of DPM, RPM, BIO, HUM. How many earlier ones are kept beside it is not
-- among them.
unfoldable pub state_from : List ℕ → ℕ → ℕ → State
state_from numbers place kept =
    record {
      soil = soil_from numbers place;
      deficit = record { 0 = number_at numbers (place + 8) };
      months = number_at numbers (place + 9);
      co2 = grams (number_at numbers (place + 10));
      modern = pools_from numbers (place + 11);
      kept = kept;
    }

-- The current state: these numbers, then how many are kept.
unfoldable pub state_of : List ℕ → State
state_of numbers = state_from numbers 0 (number_at numbers kept_width)

-- The numbers of both, as they are read.
unfoldable pub kept_numbers : State → List ℕ
kept_numbers s =
    s.soil.clay
    ∷ s.soil.depth
    ∷ s.soil.kind
    ∷ grams_at s.soil.pools 0
    ∷ grams_at s.soil.pools 1
    ∷ grams_at s.soil.pools 2
    ∷ grams_at s.soil.pools 3
    ∷ s.soil.iom.0
    ∷ s.deficit.0
    ∷ s.months
    ∷ s.co2.0
    ∷ grams_at s.modern 0
    ∷ grams_at s.modern 1
    ∷ grams_at s.modern 2
    ∷ grams_at s.modern 3
    ∷ []

unfoldable pub state_numbers : State → List ℕ
state_numbers s = kept_numbers s ++ (s.kept ∷ [])

-- ---- a field: its current state, and after it the memory of the kept ones, 24 places

abbrev pub memory_width : ℕ
memory_width = kept_width * kept_limit

abbrev pub field_width : ℕ
field_width = state_width + memory_width

abbrev pub memory_of : List ℕ → List ℕ
memory_of field = drop state_width field

abbrev pub field_numbers : State → List ℕ → List ℕ
field_numbers s memory = state_numbers s ++ memory
