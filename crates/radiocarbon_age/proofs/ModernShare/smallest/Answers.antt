-- `radiocarbon_age::ModernShare::smallest` meets its contract: where the middle does not reach it, the search goes on above it.
-- Assumes nothing.
use mathlib.Core.Path.{sym, ◌∙◌}
use native.Mathlib.Omega.{arith}
use Rattle.radiocarbon_age.proofs.Laws.{upper_half}
use Rattle.radiocarbon_age.proofs.ModernShare.smallest.Goals as goal

pub loop-low-preserved : goal.loop-low-preserved
loop-low-preserved c =
    upper_half _ _ _ c.loop-low.invariant (omega (arith, c.loop-low-test.true)) (omega (arith, c.loop-low-test.true))
    (sym c.reaches.ensures ∙ c.if-reaches.false)
