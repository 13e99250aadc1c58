-- `month_call::list_month` meets its contract: the check is that of the entries, and the next state passes the state's.
-- Assumes nothing.
use Rattle.std.proofs.Common.{◌∙◌, sym}
use Rattle.month_call.specs.Month.{Accepted, outcome_of, list_month}
use Rattle.month_call.proofs.Laws.{steps_fit, next_passes}
use Rattle.month_call.proofs.list_month.Goals as goal
use Rattle.month_call.proofs.list_month.Goals.{In-Ok}

accepts : (c : In-Ok) → Accepted c.args.s.state c.args.e
accepts c = record { state = c.args.s.passes; entries = sym c.check_entries.ensures.first ∙ c.in-Ok.is }

pub run_steps-requires : goal.run_steps-requires
run_steps-requires c = accepts (goal.at.run_steps-requires c).In-Ok

pub done-next-requires : goal.done-next-requires
done-next-requires c = steps_fit _ _ (accepts (goal.at.done-next-requires c).In-Ok) c.run_steps.ensures

pub invariant_of-state : goal.invariant_of-state
invariant_of-state c =
    let a = accepts (goal.at.invariant_of-state c).In-Ok in
    record { passes = next_passes _ _ a (c.done-next.ensures _ c.run_steps.ensures) }

pub returns-in-Ok : goal.returns-in-Ok
unfolding list_month
returns-in-Ok c = rw (sym c.check_entries.ensures.first ∙ c.in-Ok.is) (c.done-next.ensures _ c.run_steps.ensures)

pub returns-in-Err : goal.returns-in-Err
unfolding list_month outcome_of
returns-in-Err c = rw (sym c.check_entries.ensures.first ∙ c.in-Err.is)
