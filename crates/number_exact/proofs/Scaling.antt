-- A fraction's sums do not change when its numerator and denominator are multiplied by one number, so neither do the bounds.
-- Assumes nothing.
use mathlib.Core.Path.{◌≡◌, ap}
use Prim.Native.Nat.{ℕ, zero, suc, ◌*◌, ◌^◌, ◌<◌}
use native.Mathlib.Nat.{pow-suc, pow-zero, mul-le-mul_left, le_of_mul-le-mul_left, one-le-pow}
use native.Mathlib.Omega.{arith}
use Rattle.number_exact.specs.Exponential.{agreeing, opposing, denominator, AtOrBelow, AtOrAbove}

-- The sums of (a × c) / (b × c) are those of a / b, each part times c^k.
module _ (a b c : ℕ) where
  denominator_scaled : (k : ℕ) → denominator (b * c) k ≡ c ^ k * denominator b k
  unfolding denominator
  denominator_scaled zero = omega (arith, pow-zero c)
  denominator_scaled (suc k) =
      omega (arith, ap (λ t. t * (b * c * suc k)) (denominator_scaled k), ap (λ t. t * (denominator b k * (b * suc k))) (pow-suc c k))

  power_scaled : (k : ℕ) → (a * c) ^ k ≡ c ^ k * a ^ k
  power_scaled zero = omega (arith, pow-zero (a * c), pow-zero c, ap (λ t. c ^ 0 * t) (pow-zero a))
  power_scaled (suc k) =
      omega (
        arith,
        pow-suc (a * c) k,
        ap (λ t. t * (a * c)) (power_scaled k),
        ap (λ t. t * a ^ suc k) (pow-suc c k),
        ap (λ t. c ^ k * c * t) (pow-suc a k),
      )

  mutual
    unfolding agreeing opposing

    agreeing_scaled : (k : ℕ) → agreeing (a * c) (b * c) k ≡ c ^ k * agreeing a b k
    agreeing_scaled zero = omega (arith, pow-zero c)
    agreeing_scaled (suc k) =
        omega
        (arith, ap (λ t. t * (b * c * suc k)) (opposing_scaled k), ap (λ t. t * (opposing a b k * (b * suc k))) (pow-suc c k), power_scaled (suc k))

    opposing_scaled : (k : ℕ) → opposing (a * c) (b * c) k ≡ c ^ k * opposing a b k
    opposing_scaled zero = omega arith
    opposing_scaled (suc k) =
        omega (arith, ap (λ t. t * (b * c * suc k)) (agreeing_scaled k), ap (λ t. t * (agreeing a b k * (b * suc k))) (pow-suc c k))

scaled_parts :
    (x y a b c k : ℕ)
    → (x * denominator (b * c) k ≡ c ^ k * (x * denominator b k))
    × (y * opposing (a * c) (b * c) k ≡ c ^ k * (y * opposing a b k))
    × (y * agreeing (a * c) (b * c) k ≡ c ^ k * (y * agreeing a b k))
scaled_parts x y a b c k = (
  omega (arith, ap (λ t. x * t) (denominator_scaled a b c k)),
  omega (arith, ap (λ t. y * t) (opposing_scaled a b c k)),
  omega (arith, ap (λ t. y * t) (agreeing_scaled a b c k)),
)

-- The bounds, one way and the other.
module _ {x y : ℕ} (a b c : ℕ) (pos : 0 < c) where
  pub below_scaled : AtOrBelow x y a b → AtOrBelow x y (a * c) (b * c)
  below_scaled h = record { sum = λ k e. omega (arith, scaled_parts x y a b c k, mul-le-mul_left (c ^ k) (h.sum k e)) }

  pub above_scaled : AtOrAbove x y a b → AtOrAbove x y (a * c) (b * c)
  above_scaled h = record { sum = λ k e. omega (arith, scaled_parts x y a b c k, mul-le-mul_left (c ^ k) (h.sum k e)) }

  pub below_unscaled : AtOrBelow x y (a * c) (b * c) → AtOrBelow x y a b
  below_unscaled h =
      record {
        sum = λ k e. le_of_mul-le-mul_left {k = c ^ k} (omega (arith, scaled_parts x y a b c k, h.sum k e)) (one-le-pow k c pos);
      }

  pub above_unscaled : AtOrAbove x y (a * c) (b * c) → AtOrAbove x y a b
  above_unscaled h =
      record {
        sum = λ k e. le_of_mul-le-mul_left {k = c ^ k} (omega (arith, scaled_parts x y a b c k, h.sum k e)) (one-le-pow k c pos);
      }
