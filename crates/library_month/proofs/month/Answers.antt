-- `library_month::month` meets its contract: a refused month leaves the field as it was.
-- Assumes nothing.
use mathlib.Core.Path.{◌∙◌}
use Rattle.std.proofs.Common.{arith}
use Rattle.std.proofs.lemmas.Grind.{common_steps}
use Rattle.month_refusals.proofs.First.{left_by}
use Rattle.library_month.specs.Calls.{rothc_month}
use Rattle.library_month.proofs.Laws.{first_read, refused_same}
use Rattle.library_month.proofs.month.Goals as goal

pub returns-in_err-done : goal.returns-in_err-done
unfolding rothc_month
returns-in_err-done c =
    let split = c.in-Some.ensures.cases in
    let memory = c.in-Some-as_mut_array.ensures.cases in
    rw (
      left_by c.from_residual.result c.from_residual.ensures.1,
      refused_same c.args.state.now c.state_of-given.result split.0 (memory.same ∙ split.1) c.call-outcome.ensures.kept c.in_err-done.was,
    )
    (grind (arith, common_steps, first_read))
