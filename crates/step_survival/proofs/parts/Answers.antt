-- `step_survival::parts` meets its contract: 1,200,000,000,000 is 2^13 × 146,484,375, so that N × 2^31 is divided, which fits 64
-- bits. Assumes nothing.
use mathlib.Core.Path.{◌≡◌, ap}
use Prim.Native.Nat.{ℕ, ◌*◌, ◌/◌}
use lib.Dec.{lit<}
use Rattle.step_survival.specs.Survival.{parts}
use Rattle.step_survival.proofs.Laws.{parts_fit, month_fits}
use Rattle.step_survival.proofs.Steps.{ratio_by}
use Rattle.step_survival.proofs.parts.Goals as goal

pub returns : goal.returns
unfolding parts
returns c =
    let n = c.args.n in
    let k = c.args.k in
    let is : n * 2147483648 / 146484375 * k / 128 ≡ parts n 1200000000000 k = ap (λ (x : ℕ). x * k / 128) (ratio_by n) in
    (is, rw is (parts_fit n 1200000000000 k (lit< tt) c.requires.1 (month_fits n k c.requires.0 c.requires.1)))
