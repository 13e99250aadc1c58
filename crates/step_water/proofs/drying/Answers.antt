-- `step_water::drying` meets its contract: both products lie in the lower half of the bits, and so their difference is the
-- signed one.
-- Assumes nothing.
use mathlib.Core.Path.{◌∙◌, ap}
use Prim.Native.Nat.{ℕ, ◌*◌}
use native.Mathlib.Omega.{arith}
use lib.IntN.{pos, ◌-ℤ◌}
use borrow.Author.Rules.{rules}
use mir.Facts.{to_z-of_z}
use Rattle.step_water.specs.Water.{is_potential, tenths, drying}
use Rattle.step_water.proofs.Signed.{read_difference, read_difference_fits}
use Rattle.step_water.proofs.Laws.{evaporation_most}
use Rattle.step_water.proofs.drying.Goals as goal

pub overflow_cast-result : goal.overflow_cast-result
overflow_cast-result c = omega (arith, c.dries.ensures, evaporation_most (is_potential c.args.evaporation) (tenths c.args.evaporation) c.requires.0)

pub overflow_cast-result-2 : goal.overflow_cast-result-2
overflow_cast-result-2 c = search rules

pub overflow_sub-result : goal.overflow_sub-result
overflow_sub-result c = read_difference_fits (overflow_cast-result c) (overflow_cast-result-2 c)

pub returns : goal.returns
unfolding drying
returns c =
    to_z-of_z (overflow_sub-result c) ∙ read_difference (overflow_cast-result c) (overflow_cast-result-2 c)
    ∙ ap (λ (parts : ℕ). pos parts -ℤ pos (207000 * c.args.rain)) c.dries.ensures
