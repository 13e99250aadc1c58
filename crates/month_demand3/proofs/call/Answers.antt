-- `month_demand3::call` meets its contract: the month's promise, read as demand 3 speaks of a call, and the theorem `demand3`.
-- Assumes nothing.
use Rattle.std.proofs.Common.{◌∙◌, ap}
use Rattle.month_state.specs.declared.State.{State}
use Rattle.month_state.specs.declared.Outcome.{Outcome}
use Rattle.month_refusals.proofs.First.{exactly}
use Rattle.month_refusals.specs.Asked.{answer_found}
use Rattle.month_call.specs.Month.{Answer}
use Rattle.month_call.proofs.Laws.{call-found}
use Rattle.month_demand3.specs.Calls.{is_done}
use Rattle.month_demand3.proofs.Demand.{demand3}
use Rattle.month_demand3.proofs.call.Goals as goal

pub returns : goal.returns
returns c =
    let a = c.args in
    let is = c.month.ensures.outcome in
    let law = exactly (ap (λ (o : Outcome Answer State). answer_found o.answer) is ∙ call-found a.s a.number a.e) in
    record {
      outcome = is;
      told = c.month.ensures.told;
      exactly = law;
      state = ap (λ (o : Outcome Answer State). o.state) is;
      accepted = ap (λ (o : Outcome Answer State). is_done o.answer) is;
      demand = demand3;
    }
