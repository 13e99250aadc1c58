-- `step_turnover::turn_over` meets its contract: decay leaves at most the pools, so that the additions fit; what the two steps ensure
-- are the definitions'.
-- Assumes nothing.
use mathlib.Core.Path.{◌∙◌, ap}
use native.Mathlib.Omega.{arith}
use Rattle.step_pools.specs.Pools.{total}
use Rattle.step_decay.proofs.Laws.{decay_balance}
use Rattle.step_turnover.specs.Turnover.{turned_over}
use Rattle.step_turnover.proofs.turn_over.Goals as goal

pub added_to-requires : goal.added_to-requires
added_to-requires c =
    let shares = c.args.shares in
    omega (
      arith,
      ap total c.decay-left.ensures.pools,
      decay_balance c.args.pools shares.survival shares.r shares.in_range.0 shares.in_range.1,
    )

pub returns-clause-pools : goal.returns-clause-pools
unfolding turned_over
returns-clause-pools c = c.added_to.ensures ∙ rw c.decay-left.ensures.pools
