-- `step_water::moisture_factor` meets its contract: the test says which case of the definition holds, and the rounded
-- quotient is at most 8,000, so that the sum fits.
-- Assumes nothing.
use Prim.Native.Nat.{◌-◌, ◌*◌, ◌<◌, ◌≤◌}
use native.Mathlib.Omega.{arith}
use borrow.Author.Tests.{lt-ltb, le-ltb}
use Rattle.step_water.specs.Water.{moisture_factor}
use Rattle.step_water.proofs.Laws.{halves_up_top}
use Rattle.step_water.proofs.moisture_factor.Goals as goal

pub returns-then-d-m : goal.returns-then-d-m
unfolding moisture_factor
returns-then-d-m c =
    let below : 1000 * c.args.d.0 < 444 * c.args.m.0 = omega arith in
    simp (lt-ltb _ _ below)

pub overflow_add-result : goal.overflow_add-result
overflow_add-result c =
    let m = c.args.m.0 in
    let d = c.args.d.0 in
    let rounded = halves_up_top (8000000 * (m - d)) (556 * m) 8000 (omega arith) (omega arith) in
    omega (arith, c.halves_up.ensures)

pub returns : goal.returns
unfolding moisture_factor
returns c =
    let above : 444 * c.args.m.0 ≤ 1000 * c.args.d.0 = omega arith in
    simp (le-ltb _ _ above, c.halves_up.ensures)
