-- What a book's functions rest on: the counts that 3 lets pass, and the five pools of a state that passes 4 to 7.
-- Assumes nothing.
use Rattle.std.specs.Prelude.{Ok, Err}
use mathlib.Core.Path.{◌≡◌, refl}
use mathlib.Core.Bool.{Bool, true, false, cond}
use mathlib.Core.List.{List}
use Prim.Native.Nat.{ℕ, ◌<◌, ◌^◌}
use native.Mathlib.Omega.{arith}
use borrow.Author.Tests.{le-ltb, ltb-false}
use lib.Dec.{ltb}
use Rattle.month_state.specs.declared.State.{State}
use Rattle.month_state.specs.State.{five_pools}
use Rattle.month_refusals.specs.Refusals.{state_check}
use Rattle.std.proofs.lemmas.Bool.{or_parts, or_from}
use Rattle.month_refusals.proofs.Accepted.{sound-state}
use Rattle.month_refusals.specs.declared.Refusal.TheVariants.{Rows}
use Rattle.month_refusals.specs.declared.RefusedAt.{RefusedAt}
use Rattle.month_refusals.specs.Asked.{◌on◌}
use Rattle.book_rows.specs.RowText.{Counted}
use Rattle.book_run.specs.Book.{BookLeft, refused_on, bad_count, counted_then}

-- A count that 3 lets pass is from 1 to 1,200, ..
pub good-count : (count : ℕ) → bad_count count ≡ false → Counted count
good-count count h =
    let parts = or_parts (ltb count 1) (ltb 1200 count) h in
    record { least = ltb-false count 1 parts.0; most = ltb-false 1200 count parts.1 }

-- .. and such a count passes.
pub count-passes : (count : ℕ) → Counted count → bad_count count ≡ false
count-passes count counted = or_from _ _ (le-ltb count 1 counted.least) (le-ltb 1200 count counted.most)

-- The five pools together fit 64 bits.
pub pools_fit : (s : State) → state_check s ≡ Ok tt → five_pools s < 2 ^ 64
pools_fit s h = let soil = (sound-state s h).soil in omega (arith, soil.pools, soil.iom)

-- What a refused book leaves, the rows as they are.
abbrev pub left_as : RefusedAt → List ℕ → BookLeft
left_as e rows = record { answer = Err e; rows = rows }

-- A head's section follows where its count passes, and is refused else.
pub head_tested :
    (test : Bool) (line count next : ℕ) (rows : List ℕ) (later : ℕ → ℕ → BookLeft)
    → counted_then (cond test (Err (Rows on line)) (Ok (count, next))) rows later ≡ cond test (refused_on Rows line rows) (later count next)
head_tested true line count next rows later = refl
head_tested false line count next rows later = refl
