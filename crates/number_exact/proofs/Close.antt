-- How far a fraction is from a whole number, as a numerator over a denominator that the fraction can be brought to; what that
-- comes to for sums, differences and shares. Each law is an inequality of naturals, multiplied out. Assumes nothing.
use Prim.Native.Nat.{ℕ, ◌+◌, ◌-◌, ◌*◌, ◌≤◌, ◌<◌}
use native.Mathlib.Nat.{mul-sub, mul-le-mul_right}
use native.Mathlib.Omega.{arith}
use Rattle.number_exact.specs.Fraction.{Fraction, ratio, whole, ◌⊞◌, ◌⊟◌, ◌⊠◌, distance}
use Rattle.number_exact.proofs.Fraction.{At, at-whole, at-ratio, at_times, times_at, at_sum, at_difference, at_product, at-distance}

-- a and b are at most e apart.
pub record Near (a b e : ℕ) : Type 0 where
  pub not_above : a ≤ b + e
  pub not_below : b ≤ a + e

-- n is at most e / d from x, which is num / d.
pub record Close (d n : ℕ) (x : Fraction) (e : ℕ) : Type 0 where
  pub num : ℕ
  pub at : At d x num
  pub near : Near (n * d) num e

-- Each is at its distance, ..
pub close_self : {d : ℕ} {x : Fraction} {a : ℕ} (n : ℕ) → At d x a → Close d n x (n * d - a + (a - n * d))
close_self {d} {x} {a} n h = record { num = a; at = h; near = omega arith }

-- .. and a whole number at none from itself.
pub close-whole : (d n : ℕ) → Close d n (whole n) 0
close-whole d n = record { num = n * d; at = at-whole d n; near = omega arith }

difference_near : (d n a e m b f : ℕ) → Near (n * d) a e → Near (m * d) b f → Near ((n - m) * d) (a - b) (e + f)
difference_near d n a e m b f h k = omega (arith, mul-sub d n m)

share-near : (d n a e m c w : ℕ) → Near (n * d) a e → Near (m * w) (n * c) w → Near (m * (d * w)) (a * c) (e * c + d * w)
share-near d n a e m c w h k =
    omega (
      arith,
      mul-le-mul_right c h.not_above,
      mul-le-mul_right c h.not_below,
      mul-le-mul_right d k.not_above,
      mul-le-mul_right d k.not_below,
    )

-- Over a multiple of the denominator.
module _ {d n : ℕ} {x : Fraction} {e : ℕ} (c : ℕ) (h : Close d n x e) where
  multiplied : (n * d * c ≤ (h.num + e) * c) × (h.num * c ≤ (n * d + e) * c)
  multiplied = (mul-le-mul_right c h.near.not_above, mul-le-mul_right c h.near.not_below)

  pub close_times : Close (d * c) n x (e * c)
  close_times = record { num = h.num * c; at = at_times c h.at; near = omega (arith, multiplied) }

  pub times_close : Close (c * d) n x (c * e)
  times_close = record { num = c * h.num; at = times_at c h.at; near = omega (arith, multiplied) }

-- Sums and differences: the distances add up.
module _ {d n m : ℕ} {x y : Fraction} {e f : ℕ} (h : Close d n x e) (k : Close d m y f) where
  pub close-sum : Close d (n + m) (x ⊞ y) (e + f)
  close-sum = record { num = h.num + k.num; at = at_sum h.at k.at; near = omega (arith, h.near, k.near) }

  pub close_difference : Close d (n - m) (x ⊟ y) (e + f)
  close_difference =
      record {
        num = h.num - k.num;
        at = at_difference h.at k.at;
        near = difference_near d n h.num e m k.num f h.near k.near;
      }

-- m is a c / w part of n, rounded: it is a whole further from that part of x than n was, the distance's own part aside.
pub close-share :
    {d n : ℕ} {x : Fraction} {e : ℕ} (m c w : ℕ) (pos : 0 < w)
    → Close d n x e → Near (m * w) (n * c) w → Close (d * w) m (x ⊠ ratio c w pos) (e * c + d * w)
close-share {d} {n} {x} {e} m c w pos h k =
    record {
      num = h.num * c;
      at = at_product h.at (at-ratio c w pos);
      near = share-near d n h.num e m c w h.near k;
    }

-- The distance over the denominator.
pub close-distance :
    {d n : ℕ} {x : Fraction} {e : ℕ} (h : Close d n x e)
    → At d (distance (whole n) x) (n * d - h.num + (h.num - n * d))
close-distance {d} {n} h = at-distance (at-whole d n) h.at

pub close-most : {d n : ℕ} {x : Fraction} {e : ℕ} (h : Close d n x e) → n * d - h.num + (h.num - n * d) ≤ e
close-most h = omega (arith, h.near)
