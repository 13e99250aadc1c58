-- `step_survival::survival_at` meets its contract: the power and the sum are the definition's and within the bounds of `nearest`.
-- Assumes nothing.
use mathlib.Core.Path.{◌∙◌, ap₂}
use Prim.Native.Nat.{ℕ, ◌+◌, ◌*◌, ◌/◌, ◌%◌, ◌^◌, ◌<◌}
use native.Mathlib.Nat.{mod-lt}
use native.Mathlib.Omega.{arith}
use lib.Dec.{lit<}
use Rattle.step_powers.proofs.Table.{power_most}
use Rattle.step_survival.specs.Survival.{survival_at}
use Rattle.step_survival.proofs.Series.{series-most, series-least}
use Rattle.step_survival.proofs.survival_at.Goals as goal

pub nearest-requires : goal.nearest-requires
nearest-requires c =
    let p = c.args.p in
    let r : ℕ = p % 4294967296 in
    let short : r < 2 ^ 32 = mod-lt p (lit< tt) in
    omega (
      arith,
      c.power-whole.ensures.0,
      power_most (p / 4294967296) (omega arith),
      c.sum_terms-rest.ensures,
      series-most r short,
      series-least r short,
    )

pub returns : goal.returns
unfolding survival_at
returns c =
    c.nearest.ensures
    ∙ ap₂ (λ (e y : ℕ). (e * y + 2 ^ 38) / 2 ^ 39) c.power-whole.ensures.0 c.sum_terms-rest.ensures
