-- `step_additions::Additions::added_to` meets its contract: each share is at most what it is a share of, so that no difference wraps, and
-- each sum is at most all four pools with the plant carbon and the manure, so that it fits.
-- Assumes nothing.
use mathlib.Core.Path.{refl}
use native.Mathlib.Omega.{arith}
use Rattle.step_pools.specs.Pools.{share}
use Rattle.step_additions.specs.Additions.{added}
use Rattle.step_pools.proofs.Laws.{four_grams}
use Rattle.step_additions.proofs.Additions.added_to.Goals as goal

pub returns : goal.returns
unfolding share added
returns c = four_grams (omega arith) (omega arith) refl (omega arith)
