-- `month_checks::check_carbon` meets its contract: a land that is refused is refused whatever its carbon.
-- Assumes nothing.
use Rattle.month_refusals.specs.Refusals.{carbon_asked}
use Rattle.month_refusals.proofs.First.{left_by, part_refuses}
use Rattle.month_checks.proofs.check_carbon.Goals as goal

pub returns-in_err-check_land : goal.returns-in_err-check_land
unfolding carbon_asked
returns-in_err-check_land c =
    part_refuses _ _ c.check_land.ensures c.in_err-check_land.was (left_by c.from_residual.result c.from_residual.ensures.1)
