-- Spin-ups without activities are the spin-ups, but for modern grams, unless 21, or 10 for modern grams, refuses them. Each year is a list of
-- twelve months, and settles on carbon; by induction over the years.
-- Assumes nothing.
use Rattle.std.specs.Prelude.{Ok, Err}
use mathlib.Core.Path.{◌≡◌, refl, sym, ◌∙◌, ap}
use mathlib.Core.Bool.{Bool, true, false}
use mathlib.Core.List.{List, []}
use Prim.Native.Nat.{ℕ, zero, suc, ◌+◌}
use native.Mathlib.Omega.{arith}
use lib.IntN.{ℤ}
use Rattle.month_state.specs.declared.State.{State}
use Rattle.std.proofs.lemmas.Bool.{or_parts}
use Rattle.month_refusals.specs.Asked.{Check, first_of}
use Rattle.month_refusals.specs.declared.Refusal.{Refusal}
use Rattle.month_refusals.specs.Refusals.{soil_asked, bounds_asked}
use Rattle.list_run.specs.Run.{ListAnswer, Left}
use Rattle.month_state.specs.declared.Outcome.{Outcome}
use Rattle.list_run.proofs.Months.{course}
use Rattle.spin_up.specs.SpinUp.{SpinAnswer, settles, year_outcome, year_answer, year_state, year_end, after_year, years, twelve_asked, allowed_asked}
use Rattle.spin_up.specs.SpinUp.{before_years, spin_checked, spin_up}
use Rattle.spin_up.specs.declared.Years.TheVariants.{Settled, Unsettled}
use Rattle.radiocarbon_laws.specs.Without.{state_without, rows_without}
use Rattle.radiocarbon_laws.specs.Calls.{by_modern}
use Rattle.radiocarbon_laws.specs.Lists.{list_by_modern}
use Rattle.radiocarbon_laws.specs.Spins.{spin_by_modern, spin_without, CarbonOfSpin}
use Rattle.radiocarbon_laws.proofs.Months.{is21, Less, same, end, first_less, bounds_less, others_found, bounds_other}
use Rattle.radiocarbon_laws.proofs.Rows.{rows-length}
use Rattle.radiocarbon_laws.proofs.Lists.{list_is21, months_alone, months_never}

-- ---- the years

-- No refusal by 21 ends a spin-up.
abbrev spin_is21 : SpinAnswer → Bool
spin_is21 (Ok (Settled count)) = false
spin_is21 (Ok (Unsettled count)) = false
spin_is21 (Err e) = is21 e.refusal

spin_not_21 : (s : State) (answer : SpinAnswer) → spin_by_modern s answer ≡ false → spin_is21 answer ≡ false
spin_not_21 s (Ok (Settled count)) h = refl
spin_not_21 s (Ok (Unsettled count)) h = refl
spin_not_21 s (Err e) h = (or_parts (is21 e.refusal) _ h).0

-- A year settles on carbon.
settles-same : (s t : State) → settles (state_without s) (state_without t) ≡ settles s t
unfolding settles
settles-same s t = refl

end_without :
    (test : Bool) (count : ℕ) (s : State) (other later : Outcome SpinAnswer State) → (spin_is21 later.answer ≡ false → other ≡ spin_without later)
    → spin_is21 (year_end test count s later).answer ≡ false
    → year_end test count (state_without s) other ≡ spin_without (year_end test count s later)
end_without true count s other later h rest = refl
end_without false count s other later h rest = h rest

module _ (weather land : List ℤ) (starting : State) where
  abbrev year_without : State → Outcome ListAnswer State
  year_without s = record { answer = year_answer weather land s; state = state_without (year_state weather land s) }

  year_alone :
      (s : State) → list_is21 (year_answer weather land s) ≡ false
      → year_outcome weather (rows_without land) (state_without s) ≡ year_without s
  unfolding year_outcome
  year_alone s h = ap (λ (left : Left). left.outcome) (months_alone weather land (course weather land 12 0 s []) h)

  -- What follows a year, where the years after it are the same.
  year_without_lem :
      (s : State) (before : ℕ) (more other : State → Outcome SpinAnswer State)
      → ((u : State) → spin_is21 (more u).answer ≡ false → other (state_without u) ≡ spin_without (more u))
      → (answer : ListAnswer) → year_answer weather land s ≡ answer
      → spin_is21 (after_year answer (year_state weather land s) s before starting more).answer ≡ false
      → after_year (year_answer weather (rows_without land) (state_without s))
      (year_state weather (rows_without land) (state_without s)) (state_without s) before (state_without starting) other
      ≡ spin_without (after_year answer (year_state weather land s) s before starting more)
  year_without_lem s before more other later answer is h =
      (λ i. let o = year_alone s (not_21 answer is h) i in after_year o.answer o.state (state_without s) before (state_without starting) other)
      ∙ ap (λ (a : ListAnswer). after_year a (state_without (year_state weather land s)) (state_without s) before (state_without starting) other) is
      ∙ by_answer answer h
    where
      not_21 : (answer : ListAnswer) → year_answer weather land s ≡ answer
          → spin_is21 (after_year answer (year_state weather land s) s before starting more).answer ≡ false
          → list_is21 (year_answer weather land s) ≡ false
      not_21 (Ok _) is h = ap list_is21 is
      not_21 (Err e) is h = ap list_is21 is ∙ h

      by_answer :
          (answer : ListAnswer) → spin_is21 (after_year answer (year_state weather land s) s before starting more).answer ≡ false
          → after_year answer (state_without (year_state weather land s)) (state_without s) before (state_without starting) other
          ≡ spin_without (after_year answer (year_state weather land s) s before starting more)
      by_answer (Ok _) h =
          let u = year_state weather land s in
          ap (λ (test : Bool). year_end test (before + 1) (state_without u) (other (state_without u))) (settles-same s u)
          ∙ end_without (settles s u) (before + 1) u (other (state_without u)) (more u) (later u) h
      by_answer (Err e) h = refl

  years_alone :
      (left before : ℕ) (s : State) → spin_is21 (years left weather land before starting s).answer ≡ false
      → years left weather (rows_without land) before (state_without starting) (state_without s)
      ≡ spin_without (years left weather land before starting s)
  unfolding years
  years_alone zero before s h = refl
  years_alone (suc left) before s h =
      year_without_lem s before (years left weather land (suc before) starting)
      (years left weather (rows_without land) (suc before) (state_without starting))
      (λ u rest. years_alone left (suc before) u rest) (year_answer weather land s) refl h

-- ---- the spin-up

module _ (s : State) (weather land : List ℤ) (allowed : ℕ) where
  -- What is asked before the years goes by the numbers' lengths, ..
  before_same : before_years (state_without s) weather (rows_without land) allowed ≡ before_years (state_without s) weather land allowed
  unfolding before_years twelve_asked
  before_same = rw (rows-length land)

  -- .. and 10 alone asks less without modern grams.
  before_less : Less (by_modern s) (before_years s weather land allowed) (before_years (state_without s) weather land allowed)
  unfolding before_years twelve_asked soil_asked allowed_asked bounds_asked
  before_less = same (same (same (same (same (same (bounds_less s end))))))

  by_check :
      (check : Check) → first_of (before_years s weather land allowed) ≡ check
      → spin_by_modern s (spin_checked check s (years allowed weather land 0 s s)).answer ≡ false
      → spin_checked (first_of (before_years (state_without s) weather (rows_without land) allowed)) (state_without s)
      (years allowed weather (rows_without land) 0 (state_without s) (state_without s))
      ≡ spin_without (spin_checked check s (years allowed weather land 0 s s))
  by_check (Ok _) is h =
      let asked =
      ap first_of before_same
      ∙ first_less (by_modern s) before_less (λ r refuses. absurd (let z : ◌≡◌ {A = ℕ} 0 1 = cc in omega arith)) ∙ is in
      rw asked (years_alone weather land s allowed 0 s (spin_not_21 s (years allowed weather land 0 s s).answer h))
  by_check (Err refusal) is h =
      let asked =
      ap first_of before_same
      ∙ first_less (by_modern s) before_less (λ r refuses. let same : refusal ≡ r = cc in ap (by_modern s) (sym same) ∙ h) ∙ is in
      rw asked

  pub spin_alone : CarbonOfSpin s weather land allowed
  unfolding spin_up
  spin_alone = by_check (first_of (before_years s weather land allowed)) refl

-- ---- without activities

module _ (s : State) (weather land : List ℤ) where
  year_never : (t : State) → list_by_modern s (year_answer weather (rows_without land) t) ≡ false
  unfolding year_outcome
  year_never t = months_never s weather land (course weather (rows_without land) 12 0 t [])

  end_never : (test : Bool) (count : ℕ) (t : State) (later : Outcome SpinAnswer State) → spin_by_modern s later.answer ≡ false
      → spin_by_modern s (year_end test count t later).answer ≡ false
  end_never true count t later h = refl
  end_never false count t later h = h

  after_never :
      (answer : ListAnswer) (u t : State) (before : ℕ) (starting : State) (more : State → Outcome SpinAnswer State) → list_by_modern s answer ≡ false
      → spin_by_modern s (more u).answer ≡ false → spin_by_modern s (after_year answer u t before starting more).answer ≡ false
  after_never (Ok _) u t before starting more year later = end_never (settles t u) (before + 1) u (more u) later
  after_never (Err e) u t before starting more year later = year

  years_never : (left before : ℕ) (starting t : State) → spin_by_modern s (years left weather (rows_without land) before starting t).answer ≡ false
  unfolding years
  years_never zero before starting t = refl
  years_never (suc left) before starting t =
      let u = year_state weather (rows_without land) t in
      after_never (year_answer weather (rows_without land) t) u t before starting (years left weather (rows_without land) (suc before) starting)
      (year_never t) (years_never left (suc before) starting u)

pub never_spin :
    (s : State) (weather land : List ℤ) (allowed : ℕ)
    → spin_by_modern (state_without s) (spin_up (state_without s) weather (rows_without land) allowed).answer ≡ false
unfolding spin_up before_years twelve_asked soil_asked allowed_asked bounds_asked
never_spin s weather land allowed =
    by_check (first_of (before_years (state_without s) weather (rows_without land) allowed))
    (others_found (state_without s) (before_years (state_without s) weather (rows_without land) allowed) (rw (bounds_other s)))
  where
    by_check :
        (check : Check) → ((r : Refusal) → check ≡ Err r → by_modern (state_without s) r ≡ false)
        → spin_by_modern (state_without s)
        (spin_checked check (state_without s) (years allowed weather (rows_without land) 0 (state_without s) (state_without s))).answer
        ≡ false
    by_check (Ok _) h = years_never (state_without s) weather land allowed 0 (state_without s) (state_without s)
    by_check (Err refusal) h = h refusal refl
