-- `step_pools::share` meets its contract: ten billion times a part of at most a billion fits, and so do the two products of more grams,
-- since part ≤ whole and the remainder is below the whole; by `share-parts` their sum is the share, which is at most all.
-- Assumes nothing.
use mathlib.Core.Path.{refl}
use native.Mathlib.Omega.{arith}
use Rattle.step_pools.specs.Pools.{share}
use Rattle.step_pools.proofs.Laws.{share-parts, share-le}
use Rattle.step_pools.proofs.share.Goals as goal

pub returns-then-x-le-SHARED_AT_ONCE : goal.returns-then-x-le-SHARED_AT_ONCE
unfolding share
returns-then-x-le-SHARED_AT_ONCE c = (refl, share-le c.args.grams.0 c.requires.2)

pub returns-else-x-le-SHARED_AT_ONCE : goal.returns-else-x-le-SHARED_AT_ONCE
returns-else-x-le-SHARED_AT_ONCE c =
    let a = c.args in
    let is = share-parts a.grams.0 a.part c.requires.0 in
    (is, omega (arith, is, share-le a.grams.0 c.requires.2))
