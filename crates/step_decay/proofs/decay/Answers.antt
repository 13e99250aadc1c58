-- `step_decay::decay` meets its contract: no loss passes its pool, and the split of the losses is step 5.
-- Assumes nothing.
use mathlib.Core.Path.{ap, ◌∙◌}
use mathlib.Core.List.{List}
use Rattle.number_units.specs.declared.Grams.{Grams}
use Rattle.step_decay.specs.Decay.{split}
use Rattle.step_decay.proofs.Laws.{losses-within, split-losses}
use Rattle.step_decay.proofs.decay.Goals as goal

pub split-requires : goal.split-requires
split-requires c =
    let a = c.args in
    (rw c.losses.ensures (losses-within a.pools a.shares.survival), a.shares.in_range.1, c.requires)

pub returns-clause-pools : goal.returns-clause-pools
returns-clause-pools c =
    let a = c.args in
    let shares = a.shares in
    c.split.ensures.pools
    ∙ ap (λ (l : List Grams). split a.pools l shares.r) c.losses.ensures
    ∙ split-losses a.pools shares.survival shares.r shares.in_range.0
