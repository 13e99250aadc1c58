-- Calls and lists "without activities" (change 2026-04 of document 02): no modern grams in the
-- state, and 0 for the activity of every row. What is left is carbon alone.
use Rattle.month_call.specs.Month.{Answer}
use Rattle.std.specs.Prelude.{List, [], ◌∷◌, ℕ, zero, suc, ℤ, pos}
use Rattle.number_units.specs.declared.Grams.{Grams}
use Rattle.step_pools.specs.Pools.{grams}
use Rattle.month_state.specs.declared.State.{State}
use Rattle.month_state.specs.declared.Land.{Land}
use Rattle.month_state.specs.declared.Entries.{Entries}
use Rattle.month_state.specs.declared.Outcome.{Outcome}
use Rattle.month_demand3.specs.Calls.{Call}
use Rattle.list_run.specs.Run.{Left}

-- No grams in any of four pools.
abbrev pub no_grams : List Grams
no_grams = grams 0 ∷ grams 0 ∷ grams 0 ∷ grams 0 ∷ []

-- A state without its modern grams. Everything else stays.
abbrev pub state_without : State → State
state_without s =
    record {
      soil = s.soil;
      deficit = s.deficit;
      months = s.months;
      co2 = s.co2;
      modern = no_grams;
      kept = s.kept;
    }

-- A month's entries without their activity.
abbrev pub land_without : Land → Land
land_without l =
    record { cover = l.cover; plant = l.plant; manure = l.manure; activity = pos 0 }

abbrev pub entries_without : Entries → Entries
entries_without e = record { weather = e.weather; land = land_without e.land }

-- The same of single month calls, ..
abbrev pub call_without : Call → Call
call_without c = record { number = c.number; entries = entries_without c.entries }

unfoldable pub calls_without : List Call → List Call
calls_without [] = []
calls_without (c ∷ calls) = call_without c ∷ calls_without calls

-- .. and of land rows that are lent as numbers, four a row: so many numbers of a row stay, cover,
-- plant and manure, and the one after them is its activity.
unfoldable pub after_staying : ℕ → List ℤ → List ℤ
after_staying stay [] = []
after_staying zero (activity ∷ rows) = pos 0 ∷ after_staying 3 rows
after_staying (suc stay) (number ∷ rows) = number ∷ after_staying stay rows

abbrev pub rows_without : List ℤ → List ℤ
rows_without land = after_staying 3 land

-- What a call and a list leave, without modern grams.
abbrev pub outcome_without : Outcome Answer State → Outcome Answer State
outcome_without o = record { answer = o.answer; state = state_without o.state }

abbrev pub left_without : Left → Left
left_without left =
    record {
      outcome =
          record { answer = left.outcome.answer; state = state_without left.outcome.state };
      output = left.output;
    }
