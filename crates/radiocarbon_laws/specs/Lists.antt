-- The same of lists of months (step 7 of document 01).
use Rattle.month_refusals.specs.Asked.{◌on◌}
use Rattle.std.specs.Prelude.{Ok, Err, ◌≡◌, Bool, false, List, ℕ, suc, ℤ}
use Rattle.month_state.specs.declared.State.{State}
use Rattle.month_refusals.specs.declared.Refusal.{Refusal}
use Rattle.list_run.specs.Run.{ListAnswer, months, run}
use Rattle.radiocarbon_laws.specs.Without.{state_without, rows_without, left_without}
use Rattle.radiocarbon_laws.specs.Calls.{by_modern}

abbrev pub list_by_modern : State → ListAnswer → Bool
list_by_modern s (Ok _) = false
list_by_modern s (Err e) = by_modern s e.refusal

pub record CarbonOfList (s : State) (weather land : List ℤ) (out : List ℕ) : Type 0 where
  -- A list that is not refused so answers, writes and leaves what the list without activities does.
  pub whole :
      list_by_modern s (run s weather land out).outcome.answer ≡ false
      → run (state_without s) weather (rows_without land) out
      ≡ left_without (run s weather land out)
  -- One that is refused at a month, by 21 or another number, has written the rows and left the
  -- state of the months before it without activities.
  pub stopped : (refusal : Refusal) (before : ℕ)
      → (run s weather land out).outcome.answer ≡ Err (refusal on (suc before))
      → months before weather (rows_without land) 0 (state_without s) out
      ≡ record {
        outcome =
            record {
              answer = Ok tt;
              state = state_without (run s weather land out).outcome.state;
            };
        output = (run s weather land out).output;
      }
