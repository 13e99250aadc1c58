-- `month_call::month` meets its contract: the check is that of the call, and so are the answer's number and place.
-- Assumes nothing.
use Rattle.std.proofs.Common.{◌≡◌, ◌∙◌, sym, ap, ℕ}
use Rattle.month_state.specs.declared.State.{State}
use Rattle.month_state.specs.declared.Entries.{Entries}
use Rattle.month_state.specs.declared.Outcome.{Outcome}
use Rattle.month_refusals.specs.Asked.{at, told, answer_told}
use Rattle.month_refusals.specs.Refusals.{month_asked}
use Rattle.month_call.specs.Month.{Answer, Accepted, month_call}
use Rattle.month_call.proofs.Laws.{accepted, accepted_runs, refusal_returns, steps_fit, call-told}
use Rattle.month_call.proofs.month.Goals as goal
use Rattle.month_call.proofs.month.Goals.{In-Ok}

-- an outcome that is the definition's has its number and place too
with_told :
    (s : State) (number : ℕ) (e : Entries) {r : Outcome Answer State} → r ≡ month_call s number e
    → answer_told r.answer ≡ told (at 0 (month_asked s number e))
with_told s number e is = ap (λ (o : Outcome Answer State). answer_told o.answer) is ∙ call-told s number e

accepts : (c : In-Ok) → Accepted c.args.s c.args.e
accepts c = accepted c.args.s c.args.number c.args.e (sym c.check_month.ensures.first ∙ c.in-Ok.is)

pub run_steps-requires : goal.run_steps-requires
run_steps-requires c = accepts c

pub done-requires : goal.done-requires
done-requires c = steps_fit _ _ (accepts (goal.at.done-requires c).In-Ok) c.run_steps.ensures

pub returns-in-Ok : goal.returns-in-Ok
returns-in-Ok c =
    let a = c.args in
    let is : c.done.result ≡ month_call a.s a.number a.e =
    c.done.ensures _ c.run_steps.ensures
    ∙ sym (accepted_runs a.s a.number a.e (sym c.check_month.ensures.first ∙ c.in-Ok.is)) in
    record { outcome = is; told = with_told a.s a.number a.e is }

pub returns-in-Err : goal.returns-in-Err
returns-in-Err c =
    let a = c.args in
    let is = sym (refusal_returns a.s a.number a.e _ (sym c.check_month.ensures.first ∙ c.in-Err.is)) in
    record { outcome = is; told = with_told a.s a.number a.e is }
