-- `step_survival::survival` meets its contract: it is the definition's number, whose laws are the promises of step 4.
-- Assumes nothing.
use mathlib.Core.Path.{◌∙◌, ap}
use Rattle.step_survival.specs.Survival.{survival_at, survival_of, survival_number}
use Rattle.step_survival.proofs.Laws.{is_survival}
use Rattle.step_survival.proofs.survival.Goals as goal

pub returns : goal.returns
unfolding survival_number survival_of
returns c =
    let is = c.survival_at.ensures ∙ ap survival_at c.parts.ensures.0 in
    (is, rw is (is_survival c.args.n c.args.k c.requires.0 c.requires.1))
