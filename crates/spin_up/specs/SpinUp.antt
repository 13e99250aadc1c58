-- Spin-up of document 01, its years as document 02 has them settle (change 2026-05), and what it
-- asks: 3, 4 to 7, 9 and 10 with place 0, then month by month what a month's entries are asked.
use Rattle.std.specs.Prelude.{Result, Ok, Err, Bool, true, false, not, cond, ◌&&◌, ◌||◌, List, []}
use Rattle.std.specs.Prelude.{◌∷◌, ◌++◌, ℕ, zero, suc, ◌+◌, ◌*◌, leb, ltb, eqb, ℤ, length}
use Rattle.step_pools.specs.Pools.{grams_at}
use Rattle.month_state.specs.declared.Soil.{Soil}
use Rattle.month_state.specs.declared.State.{State}
use Rattle.month_state.specs.State.{five_pools, kept_aside}
use Rattle.list_rows.specs.Rows.{weather_width, land_width}
use Rattle.month_state.specs.declared.Outcome.{Outcome}
use Rattle.month_refusals.specs.declared.RefusedAt.{RefusedAt}
use Rattle.month_refusals.specs.declared.Refusal.TheVariants as refusals
use Rattle.month_refusals.specs.Asked.{Check, Asked, ◌if◌, first_of, Placed, at, ◌on◌}
use Rattle.month_refusals.specs.Refusals.{soil_asked, bounds_asked}
use Rattle.list_run.specs.Run.{ListAnswer, months, months_asked}
use Rattle.spin_up.specs.declared.Years.{Years}
use Rattle.spin_up.specs.declared.Years.TheVariants.{Settled, Unsettled}

-- A spin-up's answer: the years, settled or not, or a refusal at a place: 0, or the month counted
-- over all its years.
abbrev pub SpinAnswer : Type 0
SpinAnswer = Result Years RefusedAt

-- ---- the years

-- At most 1,000 g from where the year began, either way.
abbrev pub near : ℕ → ℕ → Bool
near start end = leb end (start + 1000) && leb start (end + 1000)

-- The total, from a year's start to its end.
abbrev pub total_settles : State → State → Bool
total_settles start end = near (five_pools start) (five_pools end)

-- Each of the five pools: DPM, RPM, BIO and HUM, and IOM.
unfoldable pub pools_settle : Soil → Soil → Bool
pools_settle start end =
    near (grams_at start.pools 0) (grams_at end.pools 0)
    && near (grams_at start.pools 1) (grams_at end.pools 1)
    && near (grams_at start.pools 2) (grams_at end.pools 2)
    && near (grams_at start.pools 3) (grams_at end.pools 3)
    && near start.iom.0 end.iom.0

-- "A year now settles exactly when the total, as before, and each of the five pools are at most
-- 1,000 g from where that year began" (change 2026-05).
unfoldable pub settles : State → State → Bool
settles start end = total_settles start end && pools_settle start.soil end.soil

-- A year's twelve months. No row is kept: nothing is written to an output of no numbers.
unfoldable pub year_outcome : List ℤ → List ℤ → State → Outcome ListAnswer State
year_outcome weather land s = (months 12 weather land 0 s []).outcome

abbrev pub year_answer : List ℤ → List ℤ → State → ListAnswer
year_answer weather land s = (year_outcome weather land s).answer

abbrev pub year_state : List ℤ → List ℤ → State → State
year_state weather land s = (year_outcome weather land s).state

-- Settled with the years run and the state reached, or on with the later years. "A spin-up ends
-- with none kept unless refused" (change 2026-02).
abbrev pub year_end : Bool → ℕ → State → Outcome SpinAnswer State → Outcome SpinAnswer State
year_end true years s later = record { answer = Ok (Settled years); state = kept_aside s }
year_end false years s later = later

-- After a year that began in the state s, `before` years being run before it: refused, with the
-- place counted over all years and the starting state; else settled or on.
abbrev pub after_year : ListAnswer → State → State → ℕ → State
    → (State → Outcome SpinAnswer State) → Outcome SpinAnswer State
after_year (Ok _) end s before starting later =
    year_end (settles s end) (before + 1) end (later end)
after_year (Err e) end s before starting later =
    record { answer = Err (e.refusal on (12 * before + e.place)); state = starting }

-- So many years more, `before` years being run. If no year settles, it is unsettled with all the
-- years.
unfoldable pub years : ℕ → List ℤ → List ℤ → ℕ → State → State → Outcome SpinAnswer State
years zero weather land before starting s =
    record { answer = Ok (Unsettled before); state = kept_aside s }
years (suc left) weather land before starting s =
    after_year (year_answer weather land s) (year_state weather land s) s before starting
    (λ end. years left weather land (suc before) starting end)

-- ---- what is asked

-- 3: for spin-up, twelve rows of each.
abbrev pub not_twelve : ℕ → List ℤ → Bool
not_twelve width numbers = not (eqb (length numbers) (width * 12))

unfoldable pub twelve_asked : List ℤ → List ℤ → List Asked
twelve_asked weather land =
    (refusals.Rows if (not_twelve weather_width weather || not_twelve land_width land)) ∷ []

-- 9: the years are outside 1 to 10,000.
unfoldable pub allowed_asked : ℕ → List Asked
allowed_asked allowed = (refusals.Years if (ltb allowed 1 || ltb 10000 allowed)) ∷ []

-- 3, 4 to 7, 9 and 10: before the years.
unfoldable pub before_years : State → List ℤ → List ℤ → ℕ → List Asked
before_years s weather land allowed =
    twelve_asked weather land ++ (soil_asked s.soil ++ (allowed_asked allowed ++ bounds_asked s))

-- The same, at places so much later.
unfoldable pub later : ℕ → List Placed → List Placed
later places [] = []
later places (x ∷ rest) = record { asked = x.asked; place = places + x.place } ∷ later places rest

-- What the entries of the months of so many years more are asked, `before` years being run, up to
-- the first year that settles.
unfoldable pub years_asked : ℕ → List ℤ → List ℤ → ℕ → State → List Placed
years_asked zero weather land before s = []
years_asked (suc left) weather land before s =
    later (12 * before) (months_asked 12 weather land 0 s)
    ++ cond (settles s (year_state weather land s)) []
    (years_asked left weather land (suc before) (year_state weather land s))

-- A spin-up: what is asked before its years with place 0, then its months.
unfoldable pub spin_asked : State → List ℤ → List ℤ → ℕ → List Placed
spin_asked s weather land allowed =
    at 0 (before_years s weather land allowed) ++ years_asked allowed weather land 0 s

-- ---- the spin-up

-- Refused before the years, with the state that was given; else what the years come to.
abbrev pub spin_checked : Check → State → Outcome SpinAnswer State → Outcome SpinAnswer State
spin_checked (Ok _) s later = later
spin_checked (Err refusal) s later = record { answer = Err (refusal on 0); state = s }

-- A spin-up from a given state of at most the years that are allowed.
unfoldable pub spin_up : State → List ℤ → List ℤ → ℕ → Outcome SpinAnswer State
spin_up s weather land allowed =
    spin_checked (first_of (before_years s weather land allowed)) s
    (years allowed weather land 0 s s)

-- The years that an answer tells, 0 where it is refused.
abbrev pub spin_years : SpinAnswer → ℕ
spin_years (Ok (Settled years)) = years
spin_years (Ok (Unsettled years)) = years
spin_years (Err e) = 0

-- A state as a spin-up ends with it: none kept, unless it is refused.
abbrev pub spin_end : SpinAnswer → State → State
spin_end (Ok (Settled years)) s = kept_aside s
spin_end (Ok (Unsettled years)) s = kept_aside s
spin_end (Err e) s = s
