-- `radiocarbon_report::delta` meets its contract: both numbers lie in the lower half of the bits, and so their difference is the signed
-- one.
-- Assumes nothing.
use mathlib.Core.Path.{◌∙◌, ap}
use Prim.Native.Nat.{ℕ, ◌*◌, ◌/◌, ◌≤◌, ◌<◌, ◌^◌}
use native.Mathlib.Nat.{div-le_of_le-mul, mul-le-mul_left}
use native.Mathlib.Omega.{arith}
use lib.Dec.{lit<}
use lib.IntN.{ℤ, pos, ◌-ℤ◌}
use mir.Syntax.{w64}
use mir.Val.{SFits}
use mir.Facts.{to_z_pos, to_z-of_z}
use Rattle.step_water.proofs.Signed.{difference_fits}
use Rattle.radiocarbon_report.specs.Report.{delta}
use Rattle.radiocarbon_report.proofs.delta.Goals as goal

quotient_fits : (modern carbon : ℕ) → modern ≤ 2 ^ 46 → 0 < carbon → SFits w64 (pos (100000 * modern / carbon))
quotient_fits modern carbon most pos-carbon =
    let le : 100000 * modern / carbon ≤ 100000 * modern =
    div-le_of_le-mul carbon (omega (arith, mul-le-mul_left (100000 * modern) pos-carbon)) in
    record { sfits = omega (arith, le, most) }

pub overflow_cast-result : goal.overflow_cast-result
overflow_cast-result c = quotient_fits c.args.share.modern c.args.share.carbon c.requires.0 c.requires.1

pub overflow_sub-result : goal.overflow_sub-result
overflow_sub-result c =
    rw (to_z_pos w64 (overflow_cast-result c).sfits) (difference_fits _ 100000 (overflow_cast-result c).sfits (lit< tt))

pub returns : goal.returns
unfolding delta
returns c = to_z-of_z (overflow_sub-result c) ∙ ap (λ (z : ℤ). z -ℤ pos 100000) (to_z_pos w64 (overflow_cast-result c).sfits)
