-- The same of "demand 3's list, begun with none kept and with months taken back in it" (change
-- 2026-02 of document 02), and of any field, whatever is kept there: single month calls and
-- takings-back.
use Rattle.std.specs.Prelude.{◌≡◌, Bool, false, List, [], ◌∷◌, ℕ, zero, suc, ◌*◌}
use Rattle.std.proofs.lemmas.List.Edits.{sets}
use Rattle.month_state.specs.State.{kept_limit}
use Rattle.month_layouts.specs.Layouts.{kept_width, state_from, kept_numbers}
use Rattle.month_call.specs.Month.{Answer}
use Rattle.kept_months.specs.Kept.{TakeAnswer, take_back}
use Rattle.kept_demand3.specs.Acts.{Act, call, back, Field, after_act, run_acts, remaining}
use Rattle.radiocarbon_laws.specs.Along.{answers_along, up_to, none_stops, Begins}
use Rattle.radiocarbon_laws.specs.Without.{state_without, call_without, calls_without}
use Rattle.radiocarbon_laws.specs.Calls.{answer_of, call_by_modern}

-- ---- without activities

-- A memory whose kept states, so many from the first place on, are without their modern grams.
unfoldable pub places_without : ℕ → List ℕ → List ℕ
places_without zero memory = memory
places_without (suc place) memory =
    sets (places_without place memory) (kept_width * place)
    (kept_numbers (state_without (state_from memory (kept_width * place) 0)))

-- A field without modern grams, in its state and in those that are kept.
abbrev pub field_without : Field → Field
field_without f =
    record { state = state_without f.state; memory = places_without kept_limit f.memory }

abbrev pub act_without : Act → Act
act_without (call c) = call (call_without c)
act_without back = back

unfoldable pub acts_without : List Act → List Act
acts_without [] = []
acts_without (act ∷ acts) = act_without act ∷ acts_without acts

-- ---- up to the first refusal by 21, or by 10 for modern grams

-- What is answered to a call, or to a taking-back.
pub data ActAnswer : Type 0 where
  to_call : Answer → ActAnswer
  to_back : TakeAnswer → ActAnswer

abbrev pub act_answer : Field → Act → ActAnswer
act_answer f (call c) = to_call (answer_of f.state c)
act_answer f back = to_back (take_back f.state f.memory).answer

-- Only a call is refused so.
abbrev pub act_by_modern : Field → Act → Bool
act_by_modern f (call c) = call_by_modern f.state c
act_by_modern f back = false

abbrev pub acts_up_to : Field → List Act → List Act
acts_up_to f acts = up_to after_act act_by_modern f acts

abbrev pub no_act_by_modern : Field → List Act → Bool
no_act_by_modern f acts = none_stops after_act act_by_modern f acts

-- The rows and refusals, the state but for its modern grams, and the months that remain, of which
-- the balance is made, are those of the list without activities.
pub record SameField (f : Field) (acts : List Act) : Type 0 where
  pub answers :
      answers_along after_act act_answer (field_without f) (acts_without acts)
      ≡ answers_along after_act act_answer f acts
  pub state :
      (run_acts (field_without f) (acts_without acts)).state ≡ state_without (run_acts f acts).state
  pub months : remaining (field_without f) (acts_without acts) ≡ calls_without (remaining f acts)

pub record CarbonOfField (f : Field) (acts : List Act) : Type 0 where
  pub begins : Begins after_act act_by_modern f acts
  pub same : SameField f (acts_up_to f acts)
