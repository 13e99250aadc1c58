-- Laws of a list's rows: numbers that 3 lets pass are rows of their width, 1 to 1,200 of them.
-- Assumes nothing.
use mathlib.Core.Path.{◌≡◌}
use mathlib.Core.Bool.{false, not, ◌||◌}
use Prim.Native.Nat.{ℕ, ◌*◌, ◌/◌, ◌%◌, ◌≤◌, ◌<◌}
use native.Mathlib.Nat.{div-add-mod', mul-le-mul_left}
use native.Mathlib.Omega.{arith}
use borrow.Author.Tests.{ltb-false, eqb-true, not-false}
use lib.Dec.{ltb, eqb}
use Rattle.std.proofs.lemmas.Bool.{or_parts}
use Rattle.list_rows.specs.Rows.{rows_outside}

-- Numbers that 3 lets pass are a row or more, 1,200 rows at most, and nothing besides.
pub some_rows :
    (width count : ℕ) → 0 < width → rows_outside width count ≡ false
    → (width ≤ count) × (count / width ≤ 1200) × (count ≡ width * (count / width))
unfolding rows_outside
some_rows width count some h =
    let no-rest = or_parts (not (eqb (count % width) 0)) (ltb (count / width) 1 || ltb 1200 (count / width)) h in
    let range = or_parts (ltb (count / width) 1) (ltb 1200 (count / width)) no-rest.1 in
    let least : 1 ≤ count / width = ltb-false (count / width) 1 range.0 in
    let no-remainder : count % width ≡ 0 = eqb-true (count % width) 0 (not-false (eqb (count % width) 0) no-rest.0) in
    let all : count ≡ width * (count / width) = omega (arith, div-add-mod' count width) in
    (omega (arith, mul-le-mul_left width least), ltb-false 1200 (count / width) range.1, all)
