-- Laws of how many states are kept: one more below the limit, else as many as before, and never more than the limit.
-- Assumes nothing.
use mathlib.Core.Path.{◌≡◌}
use Prim.Native.Nat.{ℕ, ◌+◌, ◌≤◌, ◌<◌}
use native.Mathlib.Omega.{arith}
use native.Mathlib.Decide.{dec_le}
use borrow.Author.Tests.{lt-ltb, le-ltb}
use Rattle.month_state.specs.State.{kept_limit, one_more_kept}

pub one_more : (kept : ℕ) → kept < kept_limit → one_more_kept kept ≡ kept + 1
one_more kept h = rw (lt-ltb kept kept_limit h)

pub no_more : (kept : ℕ) → kept_limit ≤ kept → one_more_kept kept ≡ kept_limit
no_more kept h = rw (le-ltb kept kept_limit h)

pub one-more-most : (kept : ℕ) → one_more_kept kept ≤ kept_limit
one-more-most kept = elim (dec_le kept_limit kept) [
  | yes a ↦ omega (arith, no_more kept a)
  | no a ↦ omega (arith, one_more kept (omega arith))
]
