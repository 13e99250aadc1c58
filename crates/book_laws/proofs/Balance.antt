-- DEMAND 3 OF A BOOK: a book that finishes has demand 3 over all its months, and its carbon balances to the gram: the five pools and
-- the CO2 of its answer are the five pools of its soil and all plant and manure of its land rows.
-- Assumes nothing.
use Rattle.std.specs.Prelude.{Ok, Err}
use Rattle.std.specs.Result.{result_unwrap_or}
use Rattle.book_run.specs.declared.Finished.{Finished}
use Rattle.book_run.specs.Book.{BookAnswer, after_months, soil_of, book_of}
use mathlib.Core.Path.{◌≡◌, refl, sym, ◌∙◌, ap, subst}
use mathlib.Core.List.{List, [], ◌∷◌, ◌++◌, flat_map, append_assoc}
use Prim.Native.Nat.{ℕ, ◌+◌, ◌*◌}
use native.Mathlib.Omega.{arith}
use lib.IntN.{ℤ, nat_abs}
use lib.ListN.{length, length-append}
use Rattle.number_units.specs.declared.Grams.{Grams}
use Rattle.step_pools.specs.Pools.{grams, total}
use Rattle.month_state.specs.declared.State.{State}
use Rattle.month_state.specs.declared.Land.{Land}
use Rattle.month_state.specs.declared.Entries.{Entries}
use Rattle.month_state.specs.declared.Row.{Row}
use Rattle.month_state.specs.State.{new_state, five_pools}
use Rattle.list_rows.specs.Rows.{land_width, land_numbers, land_rows, entries_at}
use Rattle.list_rows.proofs.Layouts.{land_of_length, land-back}
use Rattle.month_refusals.specs.Asked.{Check}
use Rattle.month_refusals.specs.Refusals.{state_check, entries_check}
use Rattle.month_refusals.proofs.Accepted.{new_passes}
use Rattle.month_call.specs.Month.{outcome_of, list_month}
use Rattle.month_call.proofs.Laws.{Moved, accepted_moved, month-sound}
use Rattle.list_run.specs.Run.{ListAnswer, Left}
use Rattle.list_run.specs.ListCalls.{ListDemand3}
use Rattle.list_run.proofs.Months as courses
use Rattle.list_run.proofs.Months.{Course, course}
use Rattle.list_run.proofs.ListCalls.{all_ran, of_calls}
use Rattle.book_laws.specs.BookText.{BookNumbers, book_text, WellFormed, weather_list, land_list, of_list, months_of, list_of}
use Rattle.book_laws.specs.Balance.{land_carbon, end_of, BookDemand3}
use Rattle.book_laws.proofs.RoundTrip.{round_trip}
use Rattle.book_laws.proofs.OnlySo.{book_written}
use Rattle.book_laws.proofs.WholeList.{land-rows}

-- ---- the months

-- A list's month that is done moves its state on.
month_moves :
    (s : State) (e : Entries) (row : Row) → state_check s ≡ Ok tt → (list_month s e).answer ≡ Ok row → Moved s e (list_month s e).state
unfolding list_month outcome_of
month_moves s e row sound h = by_check (entries_check s e) refl h
  where
    by_check : (check : Check) → entries_check s e ≡ check → (outcome_of check s e).answer ≡ Ok row
        → Moved s e (outcome_of check s e).state
    by_check (Ok _) is h = accepted_moved s e (record { state = sound; entries = is })
    by_check (Err refusal) is h = absurd (let z : ◌≡◌ {A = ℕ} 0 1 = cc in omega arith)

-- IOM stays, and the active pools and the CO2 to date gain all plant and manure of the land rows.
record Kept (s : State) (xs : List Land) (after : State) : Type 0 where
  iom : after.soil.iom ≡ s.soil.iom
  balance : total after.soil.pools + after.co2.0 ≡ total s.soil.pools + s.co2.0 + land_carbon xs

own_land : (weather before rest : List ℤ) (j : ℕ) (x : Land) → land_width * j ≡ length before
    → (entries_at weather (before ++ (land_numbers x ++ rest)) j).land ≡ x
unfolding entries_at
own_land weather before rest j x place = rw place (land-back before rest x)

kept :
    {weather land : List ℤ} {left j : ℕ} {s : State} {out : List ℕ} {end : Left} → Course weather land left j s out end
    → state_check s ≡ Ok tt → end.outcome.answer ≡ Ok tt → (before : List ℤ) (xs : List Land) → length xs ≡ left
    → land_width * j ≡ length before → land ≡ before ++ flat_map land_numbers xs → Kept s xs end.outcome.state
unfolding land_carbon flat_map
kept courses.finished sound h before [] size place here = record { iom = refl; balance = omega arith }
kept courses.finished sound h before (x ∷ xs) size place here = absurd (omega arith)
kept (courses.refused refusal e) sound h before xs size place here = absurd (let z : ◌≡◌ {A = ℕ} 0 1 = cc in omega arith)
kept (courses.month row e later) sound h before [] size place here = absurd (omega arith)
kept {weather} {land} {j} {s} (courses.month row e later) sound h before (x ∷ xs) size place here =
    let entries = entries_at weather land j in
    let own : entries.land ≡ x = rw here (own_land weather before (flat_map land_numbers xs) j x place) in
    let first = month_moves s entries row sound e in
    let rest =
    kept later (month-sound s entries sound) h (before ++ land_numbers x) xs (omega arith)
    (simp length-append (omega (arith, land_of_length x))) (here ∙ sym (append_assoc before (land_numbers x) (flat_map land_numbers xs))) in
    record {
      iom = rest.iom ∙ first.soil.iom;
      balance = omega (arith, rest.balance, first.balance, ap (λ (l : Land). nat_abs l.plant + nat_abs l.manure) own);
    }

-- ---- the book

module _ {months : ℕ} {pools co2 : Grams} where
  -- An answer that is finished is the list's.
  ended :
      (answer : ListAnswer) (head count : ℕ) (five gas : Grams)
      → after_months answer head (Ok (record { months = count; total = five; co2 = gas }))
      ≡ Ok (record { months = months; total = pools; co2 = co2 })
      → (answer ≡ Ok tt) × (count ≡ months) × (five ≡ pools) × (gas ≡ co2)
  ended (Ok _) head count five gas h =
      let same = ap (λ (r : BookAnswer). result_unwrap_or r (record { months = count; total = five; co2 = gas })) h in
      (refl, ap (λ (x : Finished). x.months) same, ap (λ (x : Finished). x.total) same, ap (λ (x : Finished). x.co2) same)
  ended (Err e) head count five gas h = absurd (let z : ◌≡◌ {A = ℕ} 0 1 = cc in omega arith)

  list_demand3 : (b : BookNumbers) (rows : List ℕ) → WellFormed b
      → (list_of b rows).answer ≡ Ok (record { months = months; total = pools; co2 = co2 })
      → BookDemand3 b rows months pools co2
  unfolding list_of of_list new_state total
  list_demand3 b rows good h =
      let soil = soil_of b.soil in
      let after = end_of b rows in
      let end = ended (months_of b rows).outcome.answer (length b.weather + 4) (length b.land) (grams (five_pools after)) after.co2 h in
      let sound = new_passes soil good.soil in
      let way = course (weather_list b) (land_list b) (land_rows (land_list b)) 0 (new_state soil) rows in
      let all = of_calls soil good.soil (weather_list b) (land_list b) _ _ (all_ran (weather_list b) (land_list b) way sound end.0) in
      let k = kept way sound end.0 [] b.land (sym (land-rows b)) refl refl in
      let five : five_pools after ≡ pools.0 = ap (λ (g : Grams). g.0) end.2 in
      let gas : after.co2.0 ≡ co2.0 = ap (λ (g : Grams). g.0) end.3 in
      let inert : after.soil.iom.0 ≡ b.soil.iom = ap (λ (g : Grams). g.0) k.iom in
      record {
        count = end.1;
        pools_are = end.2;
        co2_is = end.3;
        demand3 = subst (λ (n : ℕ). ListDemand3 soil (weather_list b) (land_list b) n after) (land-rows b ∙ end.1) all;
        carbon = record { balance = omega (arith, five, gas, inert, k.balance) };
      }

  -- A well-formed book that finishes has demand 3, and its carbon balances; ..
  pub written_demand3 : (b : BookNumbers) (rows : List ℕ) → WellFormed b
      → (book_of (book_text b) rows).answer ≡ Ok (record { months = months; total = pools; co2 = co2 })
      → BookDemand3 b rows months pools co2
  written_demand3 b rows good h = list_demand3 b rows good (rw (round_trip b rows good) at h)

  -- .. and any text that finishes is such a book's.
  pub book_demand3 : (s rows : List ℕ) (h : (book_of s rows).answer ≡ Ok (record { months = months; total = pools; co2 = co2 }))
      → BookDemand3 (book_written s rows h).numbers rows months pools co2
  book_demand3 s rows h =
      let found = book_written s rows h in
      written_demand3 found.numbers rows found.good (ap (λ (l : List ℕ). (book_of l rows).answer) (sym found.text) ∙ h)
