-- `step_survival::age_survival` meets its contract: the parts of w are those of the definition, with the rate 1.
-- Assumes nothing.
use mathlib.Core.Path.{◌≡◌, sym, ◌∙◌, ap}
use Prim.Native.Nat.{ℕ, ◌*◌, ◌/◌}
use native.Mathlib.Nat.{mul-one}
use Rattle.step_survival.specs.Survival.{ratio, parts, survival_at, survival_of}
use Rattle.step_survival.specs.Ages.{age_survival}
use Rattle.step_survival.proofs.Ages.{ages}
use Rattle.step_survival.proofs.age_survival.Goals as goal

parts_are : (y : ℕ) → y * 17592186044416 / 8035 / 128 ≡ parts y 8035 1
unfolding parts ratio
parts_are y = ap (λ (x : ℕ). x / 128) (sym (mul-one (y * 17592186044416 / 8035)))

pub returns : goal.returns
unfolding age_survival survival_of
returns c = (c.survival_at.ensures ∙ ap survival_at (parts_are c.args.years), ages)
