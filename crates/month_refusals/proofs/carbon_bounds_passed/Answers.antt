-- `month_refusals::carbon_bounds_passed` meets its contract: a checked soil has a largest deficit, and pools whose sum fits.
-- Assumes nothing.
use native.Mathlib.Omega.{arith}
use Rattle.month_refusals.proofs.Accepted.{sound-soil}
use Rattle.month_refusals.proofs.carbon_bounds_passed.Goals as goal

pub max_deficit-largest-requires : goal.max_deficit-largest-requires
max_deficit-largest-requires c =
    let sound = sound-soil c.args.s.soil c.requires in
    (sound.clay, sound.deepest)

pub total-requires : goal.total-requires
total-requires c = omega (arith, (sound-soil c.args.s.soil c.requires).pools)

pub overflow_add-result : goal.overflow_add-result
overflow_add-result c = omega (arith, c.total.ensures, (sound-soil c.args.s.soil c.requires).pools)
