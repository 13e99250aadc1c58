-- What is left of a count, as loops that count up have it.
-- Assumes nothing.
use mathlib.Core.Path.{◌≡◌}
use Prim.Native.Nat.{ℕ, suc, ◌-◌, ◌≤◌, ◌<◌}
use native.Mathlib.Omega.{arith}

-- One more is left, or none.
pub sub-suc : {count done : ℕ} → done < count → count - done ≡ suc (count - suc done)
sub-suc h = omega arith

pub none_left : {count done : ℕ} → count ≤ done → count - done ≡ 0
none_left h = omega arith
