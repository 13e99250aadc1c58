-- `step_decay::split` meets its contract: what is formed, and BIO's part of it, is at most the losses, which are at most the
-- pools, so that nothing wraps; what the calls ensure gives the equations.
-- Assumes nothing.
use mathlib.Core.Path.{◌∙◌}
use native.Mathlib.Omega.{arith}
use Rattle.step_pools.specs.Pools.{total}
use Rattle.step_decay.specs.Decay.{split}
use Rattle.step_pools.proofs.Laws.{four_grams}
use Rattle.step_decay.proofs.split.Goals as goal

pub total-all-requires : goal.total-all-requires
unfolding total
total-all-requires c = omega arith

pub add-requires : goal.add-requires
unfolding total
add-requires c = omega arith

pub add-requires-2 : goal.add-requires-2
unfolding total
add-requires-2 c = omega arith

pub returns-clause-pools : goal.returns-clause-pools
unfolding split
returns-clause-pools c =
    four_grams c.sub.ensures c.sub-2.ensures
    (c.add.ensures ∙ rw (c.sub-3.ensures, c.share-bio_gain.ensures.0, c.share-formed.ensures.0, c.total-all.ensures))
    (c.add-2.ensures
    ∙ rw (
      c.sub-4.ensures,
      c.sub-hum_gain.ensures,
      c.share-bio_gain.ensures.0,
      c.share-formed.ensures.0,
      c.total-all.ensures,
    ))
