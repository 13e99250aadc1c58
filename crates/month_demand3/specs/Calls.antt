-- Demand 3's list: any list of single month calls, each given the state that the one before it
-- returned, after a refusal too.
use Rattle.std.specs.Prelude.{Bool, true, false, cond, List, [], ◌∷◌, Ok, Err, ℕ, ◌+◌, nat_abs}
use Rattle.month_state.specs.declared.State.{State}
use Rattle.month_state.specs.declared.Entries.{Entries}
use Rattle.month_call.specs.Month.{Answer, month_call}

-- A call: its month number and its entries, whatever they are.
pub record Call : Type 0 where
  pub number : ℕ
  pub entries : Entries

-- The state that a call returns.
abbrev pub state_after : State → Call → State
state_after s c = (month_call s c.number c.entries).state

-- Whether an answer is an accepted month's.
abbrev pub is_done : Answer → Bool
is_done (Ok row) = true
is_done (Err refusal) = false

-- Whether a call is accepted.
abbrev pub accepts : State → Call → Bool
accepts s c = is_done (month_call s c.number c.entries).answer

-- The state after a list of calls.
unfoldable pub run_calls : State → List Call → State
run_calls s [] = s
run_calls s (c ∷ calls) = run_calls (state_after s c) calls

-- How many of the calls are accepted. (`cond` gives the first where the test is true.)
unfoldable pub accepted_calls : State → List Call → ℕ
accepted_calls s [] = 0
accepted_calls s (c ∷ calls) = cond (accepts s c) 1 0 + accepted_calls (state_after s c) calls

-- All plant and manure carbon of the accepted calls, of which no entry is below 0 (16).
unfoldable pub added_carbon : State → List Call → ℕ
added_carbon s [] = 0
added_carbon s (c ∷ calls) =
    cond (accepts s c) (nat_abs c.entries.land.plant + nat_abs c.entries.land.manure) 0
    + added_carbon (state_after s c) calls
