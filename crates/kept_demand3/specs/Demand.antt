-- Demand 3 with months taken back: one claim about every list of single month calls and
-- takings-back from the new state of every soil that 4 to 7 accept, with none kept.
use Rattle.std.specs.Prelude.{Ok, ◌≡◌, List, ℕ, ◌+◌, ◌*◌, length}
use Rattle.number_exact.specs.Fraction.{◌≼◌, whole}
use Rattle.step_pools.specs.Pools.{total}
use Rattle.month_state.specs.declared.Soil.{Soil}
use Rattle.month_state.specs.declared.State.{State}
use Rattle.month_state.specs.State.{new_state, kept_aside}
use Rattle.month_layouts.specs.Layouts.{memory_width}
use Rattle.month_refusals.specs.Refusals.{soil_check}
use Rattle.month_demand3.specs.Calls.{Call, run_calls, accepted_calls, added_carbon}
use Rattle.month_demand3.specs.Recurrence.{Exact, Leads, exact_start, feed}
use Rattle.month_demand3.specs.Demand.{total_distance, Demand3For}
use Rattle.kept_demand3.specs.Acts.{Act, Field, new_field, run_acts, remaining, calls}

-- A field as a call is lent it: four pools and their modern grams, and memory of 24 places.
pub record Lent (f : Field) : Type 0 where
  pub pools : length f.state.soil.pools ≡ 4
  pub modern : length f.state.modern ≡ 4
  pub memory : length f.memory ≡ memory_width

-- The list "ends in the same state, kept months aside, as its accepted months that remain, run
-- alone", of which every one is accepted then too.
pub record EndsAsRemaining (f : Field) (acts : List Act) : Type 0 where
  pub same :
      kept_aside (run_acts f acts).state ≡ kept_aside (run_calls f.state (remaining f acts))
  pub accepted : accepted_calls f.state (remaining f acts) ≡ length (remaining f acts)

-- The state that the list ends in, and its accepted months that remain.
abbrev pub end_of : Soil → List ℕ → List Act → State
end_of s memory acts = (run_acts (new_field s memory) acts).state

abbrev pub months_of : Soil → List ℕ → List Act → List Call
months_of s memory acts = remaining (new_field s memory) acts

-- From a new state: it ends so, "so with these it balances" to the gram, "and stays as near the
-- exact recurrence": at most 20 grams times these months, whatever allowed survival fractions it
-- uses.
pub record FieldDemand3For (s : Soil) (memory : List ℕ) (acts : List Act) : Type 0 where
  pub ends : EndsAsRemaining (new_field s memory) acts
  pub balance :
      total (end_of s memory acts).soil.pools + (end_of s memory acts).co2.0
      ≡ total s.pools + added_carbon (new_state s) (months_of s memory acts)
  pub distances :
      (x : Exact) → Leads s (feed (new_state s) (months_of s memory acts)) (exact_start s) x
      → total_distance (end_of s memory acts) x ≼ whole (20 * length (months_of s memory acts))

-- A list without takings-back: it ends in the state of its calls, its months that remain are as
-- many as the accepted calls and bring the same carbon, and so it says of them what demand 3 said
-- before.
pub record CallsAlone (s : Soil) (memory : List ℕ) (month_calls : List Call) : Type 0 where
  pub end : end_of s memory (calls month_calls) ≡ run_calls (new_state s) month_calls
  pub months :
      length (months_of s memory (calls month_calls)) ≡ accepted_calls (new_state s) month_calls
  pub carbon :
      added_carbon (new_state s) (months_of s memory (calls month_calls))
      ≡ added_carbon (new_state s) month_calls
  pub before : FieldDemand3For s memory (calls month_calls) → Demand3For s month_calls

-- A soil has four pools, by its type in the code, and the memory has its 24 places. What it holds
-- at first is no matter.
pub record FieldDemand3 : Type 0 where
  pub holds :
      (s : Soil) → length s.pools ≡ 4 → soil_check s ≡ Ok tt → (memory : List ℕ)
      → length memory ≡ memory_width → (acts : List Act) → FieldDemand3For s memory acts
  -- The end is such from any field with none kept, as after a spin-up.
  pub begun_with_none :
      (f : Field) → Lent f → f.state.kept ≡ 0 → (acts : List Act) → EndsAsRemaining f acts
  pub without_backs :
      (s : Soil) (memory : List ℕ) (month_calls : List Call) → CallsAlone s memory month_calls
