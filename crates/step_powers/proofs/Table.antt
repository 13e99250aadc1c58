-- The table's rule: place i is at most 1 from 4,000,000,000 × e^(-i/32), for all 240 places.
-- One test by two sums, which end on terms 43 and 42, is computed over all places and carried to each. Assumes nothing.
use mathlib.Core.Path.{◌≡◌, refl, ◌∙◌, ap}
use mathlib.Core.List.{List}
use mathlib.Core.Bool.{Bool, ◌&&◌}
use Prim.Native.Nat.{ℕ, ◌+◌, ◌-◌, ◌≤◌, ◌<◌}
use native.Mathlib.Omega.{arith}
use lib.Dec.{T, leb, leb→le, lit<}
use lib.ListN.{length, get_or}
use Rattle.number_exact.specs.Exponential.{agreeing, opposing, denominator, AtMostFrom}
use Rattle.number_exact.proofs.Tests.{below_sum, above_sum, below_by_test, above_by_test, and_left, and_right, all_pass, entry, at_most, entry_most}
use Rattle.step_powers.specs.declared.TheConstants.{POWERS}
use Rattle.step_powers.specs.Powers.{powers, power_at}

near : ℕ → ℕ → Bool
near i p = leb 1 p && (below_sum (p - 1) 4000000000 i 32 43 && above_sum (p + 1) 4000000000 i 32 42)

all_near : T (all_pass near 0 powers)
unfolding near powers below_sum above_sum agreeing opposing denominator
all_near = tt

all_most : T (all_pass (at_most 4000000000) 0 powers)
unfolding powers
all_most = tt

places : length powers ≡ 240
unfolding powers
places = refl

-- place i passes the test
passed : (i : ℕ) → i < 240 → T (near i (power_at i))
unfolding power_at
passed i h = entry near powers all_near i (omega (arith, places))

pub power_near : (i : ℕ) → i < 240 → AtMostFrom 1 (power_at i) 4000000000 i 32
unfolding near
power_near i h =
    let p = power_at i in
    let both = and_right (leb 1 p) _ (passed i h) in
    record {
      below = below_by_test (p - 1) 4000000000 i 32 43 (lit< tt) refl (and_left (below_sum (p - 1) 4000000000 i 32 43) _ both);
      above = above_by_test (p + 1) 4000000000 i 32 42 (lit< tt) refl (and_right (below_sum (p - 1) 4000000000 i 32 43) _ both);
    }

pub power_most : (i : ℕ) → i < 240 → power_at i ≤ 4000000000
unfolding power_at
power_most i h = entry_most 4000000000 powers all_most i (omega (arith, places))

pub power_least : (i : ℕ) → i < 240 → 1 ≤ power_at i
unfolding near
power_least i h = leb→le 1 (power_at i) (and_left (leb 1 (power_at i)) _ (passed i h))

-- place 0 is the scale itself
pub power_first : power_at 0 ≡ 4000000000
unfolding powers power_at
power_first = refl

-- the code's table is the definition's, ..
same : POWERS ≡ powers
unfolding powers
same = refl

-- .. and so a number read from it is that of the definition
pub power_read : {p : ℕ} (i : ℕ) → i < 240 → p ≡ get_or POWERS i 0 → (p ≡ power_at i) × AtMostFrom 1 p 4000000000 i 32
unfolding power_at
power_read i h is = let e = is ∙ ap (λ (t : List ℕ). get_or t i 0) same in (e, rw e (power_near i h))
