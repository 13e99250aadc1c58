-- What taking back comes to on any field, whatever is kept beside it: "restores that earlier state,
-- for booking afresh".
use Rattle.std.specs.Prelude.{◌≡◌, List, [], ◌∷◌, ◌++◌, ◌≤◌, length}
use Rattle.month_state.specs.State.{kept_limit, kept_aside}
use Rattle.month_call.specs.Month.{month_call}
use Rattle.month_demand3.specs.Calls.{Call, accepted_calls}
use Rattle.kept_demand3.specs.Demand.{Lent}
use Rattle.kept_demand3.specs.Acts.{call, back, Field, run_acts, backs, calls}

-- The field after a call that is taken back.
abbrev pub back_from : Field → Call → Field
back_from f c = run_acts f (call c ∷ back ∷ [])

pub record TakingBack : Type 0 where
  -- After at most 24 accepted months, each taken back, the state is the one before them, number for
  -- number.
  pub restored :
      (f : Field) → Lent f → (months : List Call) → accepted_calls f.state months ≡ length months
      → length months ≤ kept_limit
      → kept_aside (run_acts f (calls months ++ backs (length months))).state ≡ kept_aside f.state
  -- After an accepted month c that is taken back, any call d gives the answer, row and all, and the
  -- state that it gives without c: booked afresh, with the same entries or with others.
  pub afresh :
      (f : Field) → Lent f → (c d : Call) → accepted_calls f.state (c ∷ []) ≡ 1
      → (month_call (back_from f c).state d.number d.entries).answer
      ≡ (month_call f.state d.number d.entries).answer
  pub afresh_state :
      (f : Field) → Lent f → (c d : Call) → accepted_calls f.state (c ∷ []) ≡ 1
      → kept_aside (run_acts f (call c ∷ back ∷ call d ∷ [])).state
      ≡ kept_aside (run_acts f (call d ∷ [])).state
