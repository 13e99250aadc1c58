-- A spin-up finds what its list of questions finds: what is asked before its years, then month by month over all its years, up to the
-- first that settles. So each of its refusals is given exactly where it is the first that applies, with its place.
-- Assumes nothing.
use Rattle.std.specs.Prelude.{Ok, Err}
use mathlib.Core.Path.{◌≡◌, refl, sym, ◌∙◌, ap}
use mathlib.Core.Bool.{Bool, true, false, cond}
use mathlib.Core.List.{List, [], ◌∷◌}
use Prim.Native.Nat.{ℕ, zero, suc, ◌+◌, ◌*◌}
use lib.IntN.{ℤ}
use Rattle.month_state.specs.declared.State.{State}
use Rattle.month_refusals.specs.Asked.{Check, first_of, checking_order, part_of, Placed, Found, found_if, found, told, number_and_place, Exactly}
use Rattle.month_refusals.specs.Asked.{placed_found, placed_told}
use Rattle.month_refusals.specs.declared.Refusal.{Refusal}
use Rattle.month_refusals.specs.Refusals.{soil_asked, bounds_asked}
use Rattle.month_refusals.proofs.First.{or_else, found_later, found_at, found-append, found_then, exactly}
use Rattle.list_run.specs.Run.{ListAnswer, months_asked}
use Rattle.list_run.proofs.Refusals.{months-found}
use Rattle.month_state.specs.declared.Outcome.{Outcome}
use Rattle.spin_up.specs.SpinUp.{settles, year_outcome, year_answer, year_state, after_year, years, later, years_asked, twelve_asked, allowed_asked}
use Rattle.spin_up.specs.SpinUp.{before_years, spin_asked, spin_checked, spin_up, SpinAnswer}

-- What a spin-up's answer finds.
abbrev finding : Outcome SpinAnswer State → Found
finding outcome = placed_found outcome.answer

if_later :
    (places : ℕ) (test : Bool) (refusal : Refusal) (place : ℕ) (rest : Found)
    → found_if test refusal (places + place) (found_later places rest) ≡ found_later places (found_if test refusal place rest)
if_later places true refusal place rest = refl
if_later places false refusal place rest = refl

-- What is asked so much later is found so much later.
pub found-later : (places : ℕ) (asked : List Placed) → found (later places asked) ≡ found_later places (found asked)
unfolding found later
found-later places [] = refl
found-later places (x ∷ rest) =
    ap (found_if x.asked.applies x.asked.refusal (places + x.place)) (found-later places rest)
    ∙ if_later places x.asked.applies x.asked.refusal x.place (found rest)

-- A year's refusal is counted over all years; where it has none and doesn't settle, the later years are asked.
by_answer :
    (answer : ListAnswer) (test : Bool) (end s : State) (before : ℕ) (starting : State) (after : State → Outcome SpinAnswer State)
    (rest : List Placed)
    → settles s end ≡ test → finding (after end) ≡ found rest
    → finding (after_year answer end s before starting after) ≡ or_else (found_later (12 * before) (placed_found answer)) (found (cond test [] rest))
unfolding found
by_answer (Ok _) true end s before starting after rest is same = rw is
by_answer (Ok _) false end s before starting after rest is same = rw is same
by_answer (Err e) test end s before starting after rest is same = refl

module _ (weather land : List ℤ) where
  pub years-found :
      (left before : ℕ) (starting s : State)
      → finding (years left weather land before starting s) ≡ found (years_asked left weather land before s)
  unfolding years years_asked year_outcome found
  years-found zero before starting s = refl
  years-found (suc left) before starting s =
      let asked = months_asked 12 weather land 0 s in
      let end = year_state weather land s in
      let rest = years_asked left weather land (suc before) end in
      let more = cond (settles s end) [] rest in
      by_answer (year_answer weather land s) (settles s end) end s before starting _ rest refl (years-found left (suc before) starting end)
      ∙ ap (λ x. or_else (found_later (12 * before) x) (found more)) (months-found 12 weather land 0 s [])
      ∙ sym (found-append (later (12 * before) asked) more ∙ rw (found-later (12 * before) asked))

-- A whole spin-up.
checked_found : (check : Check) (s : State) (rest : Outcome SpinAnswer State)
    → finding (spin_checked check s rest) ≡ or_else (found_at 0 check) (finding rest)
checked_found (Ok _) s rest = refl
checked_found (Err refusal) s rest = refl

module _ (s : State) (weather land : List ℤ) (allowed : ℕ) where
  pub spin_found_lem : placed_found (spin_up s weather land allowed).answer ≡ found (spin_asked s weather land allowed)
  unfolding spin_up spin_asked
  spin_found_lem =
      checked_found (first_of (before_years s weather land allowed)) s _
      ∙ ap (or_else (found_at 0 (first_of (before_years s weather land allowed)))) (years-found weather land allowed 0 s s)
      ∙ sym (found_then 0 (before_years s weather land allowed) _)

  -- Its number and place are those of the first that applies, ..
  pub spin_told_lem : placed_told (spin_up s weather land allowed).answer ≡ told (spin_asked s weather land allowed)
  spin_told_lem = ap number_and_place spin_found_lem

  -- .. and each refusal is given exactly there.
  pub spin_exactly : Exactly (spin_asked s weather land allowed) (placed_found (spin_up s weather land allowed).answer)
  spin_exactly = exactly spin_found_lem

-- What it asks before its years is part of the papers' list, in its order.
pub before_in_order :
    (s : State) (weather land : List ℤ) (allowed : ℕ) → part_of checking_order (before_years s weather land allowed) ≡ true
unfolding part_of before_years twelve_asked soil_asked allowed_asked bounds_asked
before_in_order s weather land allowed = refl
