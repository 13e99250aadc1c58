-- "Demand 3's list, begun with none kept and with months taken back in it" (change 2026-02 of
-- document 02): single month calls and takings-back in any order, each given the field that the one
-- before it left, after a refusal too.
use Rattle.std.specs.Prelude.{Ok, Err, Bool, true, false, cond, List, [], ◌∷◌, reverse, ℕ, zero}
use Rattle.std.specs.Prelude.{suc, drop}
use Rattle.month_state.specs.declared.Soil.{Soil}
use Rattle.month_state.specs.declared.State.{State}
use Rattle.month_state.specs.State.{new_state}
use Rattle.month_call.specs.Month.{month_call}
use Rattle.month_demand3.specs.Calls.{Call, state_after, accepts}
use Rattle.kept_months.specs.Kept.{TakeAnswer, keep_if, take_back}

-- A single month call, or the latest month taken back.
pub data Act : Type 0 where
  call : Call → Act
  back : Act

-- A field: its state, and the lent memory of the kept ones.
pub record Field : Type 0 where
  pub state : State
  pub memory : List ℕ

-- A new one has none kept, whatever the memory holds.
abbrev pub new_field : Soil → List ℕ → Field
new_field s memory = record { state = new_state s; memory = memory }

-- ---- what each leaves

abbrev pub after_call : Field → Call → Field
after_call f c =
    record {
      state = state_after f.state c;
      memory =
          keep_if (month_call f.state c.number c.entries).answer f.state f.memory;
    }

abbrev pub after_back : Field → Field
after_back f = record { state = (take_back f.state f.memory).state; memory = f.memory }

abbrev pub after_act : Field → Act → Field
after_act f (call c) = after_call f c
after_act f back = after_back f

-- The field after a list of them.
unfoldable pub run_acts : Field → List Act → Field
run_acts f [] = f
run_acts f (act ∷ acts) = run_acts (after_act f act) acts

-- ---- the months that remain

-- Whether the latest month is taken back.
abbrev pub is_taken : TakeAnswer → Bool
is_taken (Ok _) = true
is_taken (Err refusal) = false

abbrev pub takes : Field → Bool
takes f = is_taken (take_back f.state f.memory).answer

-- An accepted call is one more, the latest first; a month taken back is one less. What is refused
-- counts for nothing. (`cond` gives the first where the test is true.)
abbrev pub remain_after : Field → Act → List Call → List Call
remain_after f (call c) earlier = cond (accepts f.state c) (c ∷ earlier) earlier
remain_after f back earlier = cond (takes f) (drop 1 earlier) earlier

unfoldable pub remain : Field → List Act → List Call → List Call
remain f [] earlier = earlier
remain f (act ∷ acts) earlier = remain (after_act f act) acts (remain_after f act earlier)

-- "Its accepted months that remain", in their order.
abbrev pub remaining : Field → List Act → List Call
remaining f acts = reverse (remain f acts [])

-- ---- lists of one kind

-- So many takings-back, and calls alone.
unfoldable pub backs : ℕ → List Act
backs zero = []
backs (suc n) = back ∷ backs n

unfoldable pub calls : List Call → List Act
calls [] = []
calls (c ∷ later) = call c ∷ calls later
