-- `month_checks::check_state` meets its contract: the soil, then the bounds.
-- Assumes nothing.
use Rattle.month_refusals.specs.Refusals.{state_asked}
use Rattle.month_refusals.proofs.First.{left_by, part_passes, part_refuses}
use Rattle.month_checks.proofs.check_state.Goals as goal

pub returns-in_err-check_soil : goal.returns-in_err-check_soil
unfolding state_asked
returns-in_err-check_soil c =
    part_refuses _ _ c.check_soil.ensures c.in_err-check_soil.was (left_by c.from_residual.result c.from_residual.ensures.1)

pub returns : goal.returns
unfolding state_asked
returns c = part_passes _ _ c.check_soil.ensures c.in_ok-check_soil.was c.check_bounds.ensures
