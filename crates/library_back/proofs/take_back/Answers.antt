-- `library_back::take_back` meets its contract: a refusal leaves the field as it was.
-- Assumes nothing.
use mathlib.Core.Path.{◌∙◌}
use Rattle.std.proofs.Common.{arith}
use Rattle.std.proofs.lemmas.Grind.{common_steps}
use Rattle.month_refusals.proofs.First.{left_by}
use Rattle.library_month.proofs.Laws.{first_read, field_joined}
use Rattle.library_back.specs.Calls.{rothc_take_back}
use Rattle.library_back.proofs.take_back.Goals as goal

pub returns-in_err-outcome : goal.returns-in_err-outcome
unfolding rothc_take_back
returns-in_err-outcome c =
    let split = c.in-Some.ensures.cases in
    let memory = c.in-Some-as_mut_array.ensures.cases in
    rw (left_by c.from_residual.result c.from_residual.ensures.1, field_joined c.args.state.now split.0 (memory.same ∙ split.1))
    (grind (arith, common_steps, first_read))
