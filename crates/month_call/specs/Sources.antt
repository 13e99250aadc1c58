-- The two sources of evaporation, change 2026-01 of document 02: open pan (0) and potential
-- evapotranspiration (1), which dries "without the 0.75".
use Rattle.std.specs.Prelude.{◌≡◌, ℕ, ◌*◌, ◌≤◌, pos}
use Rattle.month_state.specs.declared.State.{State}
use Rattle.month_state.specs.declared.Entries.{Entries}
use Rattle.month_call.specs.Month.{month_call, list_month}

-- The same entries with other evaporation: so many tenths, from a source.
abbrev pub with_evaporation : Entries → ℕ → ℕ → Entries
with_evaporation e tenths source =
    record {
      weather =
          record {
            temperature = e.weather.temperature;
            rain = e.weather.rain;
            evaporation = pos tenths;
            source = pos source;
          };
      land = e.land;
    }

-- 4 tenths of open pan are 3 tenths of potential evapotranspiration, k times over: a month with the
-- one is the month with the other, row, state or refusal, on every state and with every other
-- entry, in a single month call and in a list. (More than 20,000 tenths of open pan are refused by
-- 14, where their three quarters may still pass.)
pub record FourForThree : Type 0 where
  pub same_month : (s : State) (number : ℕ) (e : Entries) (k : ℕ) → 4 * k ≤ 20000
      → month_call s number (with_evaporation e (4 * k) 0)
      ≡ month_call s number (with_evaporation e (3 * k) 1)
  pub same_list_month : (s : State) (e : Entries) (k : ℕ) → 4 * k ≤ 20000
      → list_month s (with_evaporation e (4 * k) 0) ≡ list_month s (with_evaporation e (3 * k) 1)
