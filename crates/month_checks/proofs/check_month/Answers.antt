-- `month_checks::check_month` meets its contract: the state, then the turn and the entries.
-- Assumes nothing.
use Rattle.month_refusals.specs.Refusals.{month_asked}
use Rattle.month_refusals.proofs.First.{left_by, part_passes, part_refuses}
use Rattle.month_checks.proofs.check_month.Goals as goal

pub returns-in_err-check_state : goal.returns-in_err-check_state
unfolding month_asked
returns-in_err-check_state c =
    part_refuses _ _ c.check_state.ensures c.in_err-check_state.was (left_by c.from_residual.result c.from_residual.ensures.1)

pub returns : goal.returns
unfolding month_asked
returns c = part_passes _ _ c.check_state.ensures c.in_ok-check_state.was c.check_turn.ensures
