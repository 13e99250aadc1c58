-- A list finds what its list of questions finds: what is asked before its months, then month by month. So each of its refusals is
-- given exactly where it is the first that applies, with its place.
-- Assumes nothing.
use Rattle.std.specs.Prelude.{Ok, Err}
use mathlib.Core.Path.{◌≡◌, refl, sym, ◌∙◌, ap}
use mathlib.Core.Bool.{true}
use mathlib.Core.List.{List}
use Prim.Native.Nat.{ℕ, zero, suc, ◌+◌}
use lib.IntN.{ℤ}
use lib.ListN.{length}
use Rattle.month_state.specs.declared.State.{State}
use Rattle.month_state.specs.declared.Entries.{Entries}
use Rattle.month_refusals.specs.Asked.{Check, first_of, checking_order, part_of, Found, found, told, number_and_place, Exactly, placed_found}
use Rattle.month_refusals.specs.Asked.{placed_told}
use Rattle.month_refusals.specs.Refusals.{soil_asked, bounds_asked, weather_asked, land_asked, carbon_asked, entries_asked, entries_check}
use Rattle.month_refusals.proofs.First.{or_else, found_at, found_then, exactly}
use Rattle.month_call.specs.Month.{outcome_of, list_month}
use Rattle.list_rows.specs.Rows.{land_rows, entries_at}
use Rattle.list_run.specs.Run.{Left, onward, months, months_asked, rows_asked, room_asked, before_months, list_asked, list_checked, run}

-- What a list's answer finds.
abbrev finding : Left → Found
finding left = placed_found left.outcome.answer

-- A month, and those after it.
month-found :
    (check : Check) (s : State) (e : Entries) (j : ℕ) (out : List ℕ) (later : State → List ℕ → Left) (rest : Found)
    → ((out' : List ℕ) → finding (later (outcome_of check s e).state out') ≡ rest)
    → finding (onward (outcome_of check s e).answer (outcome_of check s e).state j out later) ≡ or_else (found_at (j + 1) check) rest
unfolding outcome_of
month-found (Ok _) s e j out later rest same = same _
month-found (Err refusal) s e j out later rest same = refl

pub months-found :
    (left : ℕ) (weather land : List ℤ) (j : ℕ) (s : State) (out : List ℕ)
    → finding (months left weather land j s out) ≡ found (months_asked left weather land j s)
unfolding months months_asked list_month found
months-found zero weather land j s out = refl
months-found (suc left) weather land j s out =
    month-found (entries_check s (entries_at weather land j)) s (entries_at weather land j) j out _ _
    (λ out'. months-found left weather land (suc j) _ out')
    ∙ sym (found_then (j + 1) (entries_asked s (entries_at weather land j)) _)

-- A whole list.
checked_found :
    (check : Check) (s : State) (out : List ℕ) (later : Left) → finding (list_checked check s out later) ≡ or_else (found_at 0 check) (finding later)
checked_found (Ok _) s out later = refl
checked_found (Err refusal) s out later = refl

module _ (s : State) (weather land : List ℤ) (out : List ℕ) where
  pub list_found_lem : finding (run s weather land out) ≡ found (list_asked s weather land (length out))
  unfolding run list_asked
  list_found_lem =
      checked_found (first_of (before_months s weather land (length out))) s out _
      ∙ ap (or_else (found_at 0 (first_of (before_months s weather land (length out)))))
      (months-found (land_rows land) weather land 0 s out)
      ∙ sym (found_then 0 (before_months s weather land (length out)) _)

  -- Its number and place are those of the first that applies, ..
  pub list_told_lem : placed_told (run s weather land out).outcome.answer ≡ told (list_asked s weather land (length out))
  list_told_lem = ap number_and_place list_found_lem

  -- .. and each refusal is given exactly there.
  pub list_exactly : Exactly (list_asked s weather land (length out)) (finding (run s weather land out))
  list_exactly = exactly list_found_lem

-- What it asks before its months is part of the papers' list, in its order; so is what it asks of a month.
pub before_in_order : (s : State) (weather land : List ℤ) (room : ℕ) → part_of checking_order (before_months s weather land room) ≡ true
unfolding part_of before_months rows_asked soil_asked room_asked bounds_asked
before_in_order s weather land room = refl

pub month_in_order : (s : State) (e : Entries) → part_of checking_order (entries_asked s e) ≡ true
unfolding part_of entries_asked weather_asked carbon_asked land_asked
month_in_order s e = refl
