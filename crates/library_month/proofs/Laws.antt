-- Laws of the library's month calls that their functions rest on: of a field, which is the current state's numbers and after them the
-- memory; and that memory has a length.
-- Assumes nothing.
use Rattle.std.specs.Prelude.{Err}
use mathlib.Core.Path.{◌≡◌, refl, sym, ◌∙◌, ap, ap₂}
use mathlib.Core.Bool.{true}
use mathlib.Core.List.{List, [], ◌++◌}
use Prim.Native.Nat.{ℕ}
use native.Mathlib.Omega.{arith}
use borrow.Author.Tests.{eq-eqb}
use lib.ListN.{length, take, drop, take-append-drop}
use lib.Seq.{sets}
use Rattle.month_state.specs.declared.State.{State}
use Rattle.month_layouts.specs.Layouts.{state_width, field_width, pools_from, soil_from, state_from, state_of, kept_numbers, state_numbers}
use Rattle.month_layouts.proofs.Layouts.{state_of_length, stored, field-state, field-same}
use Rattle.month_refusals.specs.declared.Refusal.{Refusal}
use Rattle.month_call.specs.Month.{Answer}
use Rattle.kept_months.specs.Kept.{keep_if}
use Rattle.library_month.specs.Calls.{has}

-- A list has so many numbers.
pub right : {A : Type 0} (numbers : List A) (n : ℕ) → length numbers ≡ n → has numbers n ≡ true
right numbers n h = eq-eqb (length numbers) n h

-- A field's first numbers are its state's, ..
first_is : (field : List ℕ) → length field ≡ field_width → take state_width field ≡ state_numbers (state_of field)
unfolding state_numbers kept_numbers
first_is field all = sym (ap (take state_width) (field-same field all))

-- .. and are read as that state.
pub first_read : (field : List ℕ) → length field ≡ field_width → state_of (take state_width field) ≡ state_of field
unfolding state_numbers kept_numbers state_of state_from soil_from pools_from
first_read field all =
    ap state_of (first_is field all) ∙ field-state (state_of field) [] (record { pools = refl; modern = refl })

-- A state that is put in as many numbers is all of them.
pub first_put : (numbers : List ℕ) (s : State) → length numbers ≡ state_width → sets numbers 0 (state_numbers s) ≡ state_numbers s
first_put numbers s h = stored numbers (state_numbers s) (omega (arith, state_of_length s))

-- Its parts left as they are, it is as it was, ..
pub field_joined :
    (field : List ℕ) {first rest : List ℕ} → first ≡ take state_width field → rest ≡ drop state_width field → first ++ rest ≡ field
field_joined field first_is rest_is = ap₂ ◌++◌ first_is rest_is ∙ take-append-drop state_width field

-- .. and a refused month leaves its memory so.
pub refused_same :
    (field : List ℕ) {first rest kept : List ℕ} {answer : Answer} {refusal : Refusal} (s : State) → first ≡ take state_width field
    → rest ≡ drop state_width field → kept ≡ keep_if answer s rest → answer ≡ Err refusal → first ++ kept ≡ field
refused_same field {rest = rest} s first_is rest_is keeps refused =
    field_joined field first_is (keeps ∙ ap (λ (a : Answer). keep_if a s rest) refused ∙ rest_is)
