-- Taking a month back, change 2026-02 of document 02: "Single month calls and lists keep the state
-- before each of the last 24 months beside the current one", in lent memory of 24 places.
use Rattle.std.specs.Prelude.{Result, Ok, Err, List, [], ◌∷◌, ℕ, ◌+◌, ◌-◌, ◌*◌, ◌%◌, ltb, eqb}
use Rattle.std.proofs.lemmas.List.Edits.{sets}
use Rattle.month_state.specs.declared.State.{State}
use Rattle.month_state.specs.declared.Outcome.{Outcome}
use Rattle.month_state.specs.State.{kept_limit}
use Rattle.month_layouts.specs.Layouts.{kept_width, state_from, kept_numbers}
use Rattle.month_refusals.specs.declared.Refusal.{Refusal}
use Rattle.month_refusals.specs.declared.Refusal.TheVariants.{NoneKept, Bounds}
use Rattle.month_refusals.specs.Asked.{Check, Asked, ◌if◌, first_of}
use Rattle.month_call.specs.Month.{Answer}

-- What taking back answers: the latest month is taken back, or why it is refused.
abbrev pub TakeAnswer : Type 0
TakeAnswer = Result Unit Refusal

-- ---- keeping

-- The state with so many months done stands at this place of the memory, counted from 0. Nothing is
-- moved, and the oldest goes where the 25th comes.
abbrev pub place_of : ℕ → ℕ
place_of months = months % kept_limit

-- The memory with a state kept in it.
unfoldable pub keep : State → List ℕ → List ℕ
keep s memory = sets memory (kept_width * place_of s.months) (kept_numbers s)

-- What a month keeps of the state before it: that state where it is accepted, and nothing where it
-- is refused.
abbrev pub keep_if : Answer → State → List ℕ → List ℕ
keep_if (Ok row) s memory = keep s memory
keep_if (Err refusal) s memory = memory

-- ---- taking back

-- The state before the latest month: the place before that of the months done, going round (all
-- places but one further), with one kept less. Its numbers are not checked.
unfoldable pub latest : State → List ℕ → State
latest s memory =
    state_from memory (kept_width * place_of (s.months + (kept_limit - 1))) (s.kept - 1)

-- 20 "when no kept month is left, before any other check", then 10 for "a kept count above 24".
-- "Taking back checks nothing else."
unfoldable pub take_asked : State → List Asked
take_asked s = (NoneKept if eqb s.kept 0) ∷ (Bounds if ltb kept_limit s.kept) ∷ []

-- Taken back to the state before the latest month, or refused with the state that was given.
abbrev pub take_checked : Check → State → List ℕ → Outcome TakeAnswer State
take_checked (Ok _) s memory = record { answer = Ok tt; state = latest s memory }
take_checked (Err refusal) s memory = record { answer = Err refusal; state = s }

unfoldable pub take_back : State → List ℕ → Outcome TakeAnswer State
take_back s memory = take_checked (first_of (take_asked s)) s memory
