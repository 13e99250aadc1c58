-- `step_survival::sum_terms` meets its contract: its terms are the definition's, which fall fast enough that nothing wraps.
-- Assumes nothing.
use native.Mathlib.Omega.{arith}
use Rattle.step_survival.proofs.Steps.{sum_parts}
use Rattle.step_survival.proofs.sum_terms.Goals as goal

pub overflow_add-result : goal.overflow_add-result
overflow_add-result c = omega (arith, sum_parts c.args.r c.requires c.later_terms.ensures)

pub overflow_add-result-2 : goal.overflow_add-result-2
overflow_add-result-2 c = omega (arith, sum_parts c.args.r c.requires c.later_terms.ensures)

pub overflow_add-result-3 : goal.overflow_add-result-3
overflow_add-result-3 c = omega (arith, sum_parts c.args.r c.requires c.later_terms.ensures)

pub overflow_add-result-4 : goal.overflow_add-result-4
overflow_add-result-4 c = omega (arith, sum_parts c.args.r c.requires c.later_terms.ensures)

pub overflow_sub-result : goal.overflow_sub-result
overflow_sub-result c = omega (arith, sum_parts c.args.r c.requires c.later_terms.ensures)

pub returns : goal.returns
returns c = omega (arith, sum_parts c.args.r c.requires c.later_terms.ensures)
