-- `step_turnover::turn_both` meets its contract: of the carbon and of the modern grams, a month older, the pools with what comes in
-- fit 64 bits.
-- Assumes nothing.
use mathlib.Core.Path.{◌∙◌, ap}
use native.Mathlib.Omega.{arith}
use Rattle.step_pools.specs.Pools.{total}
use Rattle.step_modern.proofs.Laws.{modern-most, aged-most}
use Rattle.step_turnover.specs.Turnover.{modern_turned}
use Rattle.step_turnover.proofs.turn_both.Goals as goal

pub turn_over-requires : goal.turn_over-requires
turn_over-requires c =
    let given = c.args.given in
    omega (
      arith,
      aged-most c.args.modern,
      ap total c.aged.ensures,
      modern-most given.plant.0 c.requires.given.2,
      modern-most given.manure.0 c.requires.given.2,
    )

pub returns-clause-modern : goal.returns-clause-modern
unfolding modern_turned
returns-clause-modern c =
    c.turn_over.ensures.pools ∙ rw (c.aged.ensures, c.modern_grams.ensures, c.modern_grams-2.ensures)
