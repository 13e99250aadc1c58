-- States of document 01: their limits, a new one, and the total of a state's five pools; how many
-- earlier states are kept beside one, change 2026-02 of document 02; and their modern grams, change
-- 2026-04.
use Rattle.std.specs.Prelude.{cond, ℕ, ◌+◌, ltb}
use Rattle.step_pools.specs.Pools.{total}
use Rattle.month_state.specs.declared.Soil.{Soil}
use Rattle.month_state.specs.declared.State.{State}

-- The carbon that the active pools together, or IOM, may have, and the months that a state may have
-- done.
abbrev pub carbon_ceiling : ℕ
carbon_ceiling = 1000000000

abbrev pub month_limit : ℕ
month_limit = 120000

-- "The state before each of the last 24 months" is kept beside the current one.
abbrev pub kept_limit : ℕ
kept_limit = 24

-- A new state has the soil, and 0 for the deficit, the months done, the CO2 to date and the kept.
-- "Starting pools have 1000": as many modern grams as grams.
unfoldable pub new_state : Soil → State
new_state s =
    record {
      soil = s;
      deficit = record { 0 = 0 };
      months = 0;
      co2 = record { 0 = 0 };
      modern = s.pools;
      kept = 0;
    }

-- The same state with so many kept, and "kept months aside": with none.
abbrev pub with_kept : ℕ → State → State
with_kept kept s =
    record {
      soil = s.soil;
      deficit = s.deficit;
      months = s.months;
      co2 = s.co2;
      modern = s.modern;
      kept = kept;
    }

abbrev pub kept_aside : State → State
kept_aside s = with_kept 0 s

-- How many are kept after one month more: past 24 the oldest goes.
abbrev pub one_more_kept : ℕ → ℕ
one_more_kept kept = cond (ltb kept kept_limit) (kept + 1) kept_limit

-- The five pools together: the active ones and IOM.
abbrev pub five_pools : State → ℕ
five_pools s = total s.soil.pools + s.soil.iom.0
