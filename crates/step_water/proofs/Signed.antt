-- Signed numbers of the water step: a difference n - y of two natural numbers fits 64 bits, and what clamping it gives.
-- Proved by cases of the sign, or of y as 0 or more, since `◌-ℤ◌` is.
-- Assumes nothing.
use mathlib.Core.Path.{◌≡◌, sym}
use mathlib.Core.Bool.{Bool, true, false, cond}
use Prim.Native.Nat.{ℕ, zero, suc, ◌+◌, ◌-◌, ◌<◌, ◌^◌, min}
use native.Mathlib.Omega.{arith}
use native.Mathlib.Decide.{dec_le}
use borrow.Author.Tests.{le-ltb, lt-ltb}
use lib.Dec.{ltb}
use lib.IntN.{ℤ, pos, negsuc, neg_ℤ, ◌+ℤ◌, ◌-ℤ◌, +ℤ_assoc}
use lib.Signed.{mag}
use mir.Syntax.{w64}
use mir.Val.{SFits, to_z, of_z}
use mir.Facts.{to_z_pos, to_z-of_z}
use Rattle.step_water.specs.Water.{clamped}

either_below : (b : Bool) (p q k : ℕ) → p < k → q < k → mag (cond b (negsuc p) (pos q)) < k
either_below true p q k hp hq = hp
either_below false p q k hp hq = hq

mag_below : (n y k : ℕ) → n < k → y < k → mag (pos n -ℤ pos y) < k
mag_below n zero k hn hy = omega arith
mag_below n (suc y) k hn hy = either_below (ltb n (suc y)) (suc y - suc n) (n - suc y) k (omega arith) (omega arith)

-- The difference of two numbers below 2^63 is a signed 64-bit number.
pub difference_fits : (n y : ℕ) → n < 2 ^ 63 → y < 2 ^ 63 → SFits w64 (pos n -ℤ pos y)
difference_fits n y hn hy = record { sfits = mag_below n y (2 ^ 63) hn hy }

-- Two numbers that a cast to 64 bits with a sign leaves as they are: their difference, read from the bits, is the
-- difference of the numbers, and it fits too.
pub read_difference : {n y : ℕ} → SFits w64 (pos n) → SFits w64 (pos y) → to_z w64 n -ℤ to_z w64 y ≡ pos n -ℤ pos y
read_difference hn hy = rw (to_z_pos w64 hn.sfits, to_z_pos w64 hy.sfits)

pub read_difference_fits : {n y : ℕ} → SFits w64 (pos n) → SFits w64 (pos y) → SFits w64 (to_z w64 n -ℤ to_z w64 y)
read_difference_fits {n} {y} hn hy = rw (read_difference hn hy) (difference_fits n y hn.sfits hy.sfits)

-- The same of the sum of such a number and a signed one.
pub read_sum : {n : ℕ} {z : ℤ} → SFits w64 (pos n) → SFits w64 z → to_z w64 n +ℤ to_z w64 (of_z w64 z) ≡ pos n +ℤ z
read_sum hn hz = rw (to_z_pos w64 hn.sfits, to_z-of_z hz)

-- Clamping a difference is the truncated difference lowered to the cap.
pub clamped_difference : (cap n y : ℕ) → clamped cap (pos n -ℤ pos y) ≡ min (n - y) cap
unfolding clamped
clamped_difference cap n zero = omega arith
clamped_difference cap n (suc y) = elim (dec_le (suc y) n) [
  | yes h ↦ rw (le-ltb n (suc y) h)
  | no h ↦ rw (lt-ltb n (suc y) (omega arith)) (omega arith)
]

-- Adding d to a difference is adding it to the first number.
pub add_difference : (d n y : ℕ) → pos d +ℤ (pos n -ℤ pos y) ≡ pos (d + n) -ℤ pos y
add_difference d n y = sym (+ℤ_assoc (pos d) (pos n) (neg_ℤ (pos y)))
