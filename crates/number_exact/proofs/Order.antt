-- The definitions are not empty: what lies at or below e^(-a/b) lies at or below what lies at or above it.
-- Two neighbouring sums differ by a^k over b^k × k!, and k! outgrows every a^k times a number. Assumes nothing.
use mathlib.Core.Path.{◌≡◌, refl, ap}
use mathlib.Core.Bool.{Bool, true, false, not}
use Prim.Native.Nat.{ℕ, zero, suc, ◌+◌, ◌*◌, ◌^◌, ◌≤◌, ◌<◌}
use native.Mathlib.Nat.{
  pow-suc,
  pow-zero,
  add-zero,
  add-suc,
  le_refl,
  le-suc,
  mul-le-mul_left,
  mul-le-mul_right,
  mul-le-mul,
  lt_of_mul-lt-mul_left,
  one-le-pow,
  lt_of_not-le,
}
use native.Mathlib.Decide.{dec_le}
use native.Mathlib.Omega.{arith}
use Rattle.number_exact.specs.Exponential.{agreeing, opposing, denominator, ends_on_plus, AtOrBelow, AtOrAbove}
use Rattle.number_exact.proofs.Bracket.{denominator_pos}

double_fast : (j : ℕ) → j < 2 ^ j
double_fast zero = omega (arith, pow-zero 2)
double_fast (suc j) = omega (arith, pow-suc 2 j, double_fast j)

outgrow_step : (a c d s t u : ℕ) → 2 * a ≤ c → s * t ≤ u * d → s * 2 * (t * a) ≤ u * (d * c)
outgrow_step a c d s t u le h = omega (arith, mul-le-mul le h)

-- past 2a each further factor of the denominator is at least twice the a that the power gains
outgrows : (a b : ℕ) → 0 < b → (j : ℕ) → 2 ^ j * a ^ (2 * a + j) ≤ a ^ (2 * a) * denominator b (2 * a + j)
unfolding denominator
outgrows a b pos zero =
    rw add-zero (omega (arith, pow-zero 2, mul-le-mul_left (a ^ (2 * a)) (denominator_pos b (2 * a) pos)))
outgrows a b pos (suc j) =
    let factor : 2 * a ≤ b * suc (2 * a + j) = omega (arith, mul-le-mul_right (suc (2 * a + j)) pos) in
    rw (add-suc, pow-suc 2 j, pow-suc a (2 * a + j))
    (outgrow_step a (b * suc (2 * a + j)) (denominator b (2 * a + j)) (2 ^ j) (a ^ (2 * a + j)) (a ^ (2 * a)) factor (outgrows a b pos j))

past_step : (c p t d s : ℕ) → c * p < s → 0 < t → s * t ≤ p * d → p * (c * t) < p * d
past_step c p t d s small pos h = omega (arith, mul-le-mul_right t small)

-- c × a^n is below b^n × n! for every n far enough on
past : (a b c j : ℕ) → 0 < b → c * a ^ (2 * a) ≤ j → c * a ^ (2 * a + suc j) < denominator b (2 * a + suc j)
past zero b c j pos le = rw (add-suc, pow-suc) (omega (arith, denominator_pos b (suc (2 * 0 + j)) pos))
past (suc a) b c j pos le =
    let n : ℕ = 2 * suc a + suc j in
    lt_of_mul-lt-mul_left (suc a ^ (2 * suc a))
    (past_step c (suc a ^ (2 * suc a)) (suc a ^ n) (denominator b n) (2 ^ suc j) (omega (arith, double_fast (suc j)))
    (one-le-pow n (suc a) (omega arith)) (outgrows (suc a) b pos (suc j)))

gap_step :
    (p q x y o n d c t : ℕ) → p * d + q * o ≤ q * n → y * (n * c) ≤ x * (d * c) + y * (o * c + t) → x * q < p * y → d * c ≤ q * y * t
gap_step p q x y o n d c t low high gap =
    omega (arith, mul-le-mul_left (y * c) low, mul-le-mul_left q high, mul-le-mul_left (d * c) gap)

module _ {p q x y a b : ℕ} (posb : 0 < b) (low : AtOrBelow p q a b) (high : AtOrAbove x y a b) where
  -- were they the other way round, the gap between two neighbouring sums could not close
  no_gap : x * q < p * y → (k : ℕ) → ends_on_plus k ≡ true → denominator b (suc k) ≤ q * y * a ^ suc k
  unfolding denominator agreeing opposing
  no_gap gap k e =
      gap_step p q x y (opposing a b k) (agreeing a b k) (denominator b k) (b * suc k) (a ^ suc k) (low.sum k e)
      (high.sum (suc k) (ap not e)) gap

  pub below-above : p * y ≤ x * q
  below-above = by_order (dec_le (p * y) (x * q))
    where
      far : ℕ
      far = q * y * a ^ (2 * a)

      index : ℕ
      index = 2 * a + far

      by_end : x * q < p * y → (e : Bool) → ends_on_plus index ≡ e → p * y ≤ x * q
      by_end gap true e =
          omega (arith, no_gap gap index e, rw (add-suc (2 * a) far) at (past a b (q * y) far posb (le_refl far)))
      by_end gap false e =
          omega (
            arith,
            no_gap gap (suc index) (ap not e),
            rw (add-suc (2 * a) (suc far), add-suc (2 * a) far) at (past a b (q * y) (suc far) posb (le-suc far)),
          )

      by_order : Dec (p * y ≤ x * q) → p * y ≤ x * q
      by_order (yes le) = le
      by_order (no gt) = by_end (lt_of_not-le gt) (ends_on_plus index) refl
