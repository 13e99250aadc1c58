-- The laws by which the definitions of e^(-w) are used. One sum on the right side implies all of them, also where w is above 1;
-- and the bounds weaken and multiply. Assumes nothing.
use mathlib.Core.Path.{◌≡◌, refl, ap}
use mathlib.Core.Bool.{Bool, true, false}
use Prim.Native.Nat.{ℕ, ◌+◌, ◌*◌, ◌≤◌, ◌<◌}
use native.Mathlib.Nat.{le_refl, mul-le-mul_left, mul-le-mul_right, mul-le-mul, sub-le-sub_left, le_of_mul-le-mul_left, le_of_lt, lt_of_not-le}
use native.Mathlib.Decide.{dec_le}
use native.Mathlib.Omega.{arith}
use Rattle.number_exact.specs.Exponential.{agreeing, opposing, denominator, ends_on_plus, AtOrBelow, AtOrAbove, AtMostFrom}
use Rattle.number_exact.proofs.Bracket.{zero-parts, plus_end, minus_end, denominator_pos, Brackets, Bracketed, bracketed, product}

-- A bracket at an index where the sum ends on a plus term, and on a minus term, without the sums for w = 0.
module _ {top p q a b : ℕ} (h : Brackets top p q a b) (k : ℕ) (le : k ≤ top) where
  pub bracket_plus : ends_on_plus k ≡ true → q * opposing a b k + p * denominator b k ≤ q * agreeing a b k
  bracket_plus e =
      omega (arith, h.at k le, ap (λ t. p * t) (zero-parts b k), ap (λ t. p * t) (plus_end b k e))

  pub bracket_minus : ends_on_plus k ≡ false → q * opposing a b k ≤ q * agreeing a b k + p * denominator b k
  bracket_minus e =
      omega (arith, h.at k le, ap (λ t. p * t) (zero-parts b k), ap (λ t. p * t) (minus_end b k e))

-- x / y ≤ p / q ≤ (s - t) / d, by cross products
under_step : (x y p q d s t : ℕ) → 0 < q → x * q ≤ p * y → q * t + p * d ≤ q * s → x * d + y * t ≤ y * s
under_step x y p q d s t pos first second =
    le_of_mul-le-mul_left {k = q} (omega (arith, mul-le-mul_left d first, mul-le-mul_left y second)) pos

-- (t - s) / d ≤ p / q ≤ x / y
over_step : (x y p q d s t : ℕ) → 0 < q → p * y ≤ x * q → q * t ≤ q * s + p * d → y * t ≤ x * d + y * s
over_step x y p q d s t pos first second =
    le_of_mul-le-mul_left {k = q} (omega (arith, mul-le-mul_left d first, mul-le-mul_left y second)) pos

-- x / y ≤ (t - s) / d ≤ p / q
low_step : (x y p q d s t : ℕ) → 0 < d → x * d + y * s ≤ y * t → q * t ≤ q * s + p * d → x * q ≤ p * y
low_step x y p q d s t pos first second =
    le_of_mul-le-mul_left {k = d} (omega (arith, mul-le-mul_left q first, mul-le-mul_left y second)) pos

-- p / q ≤ (s - t) / d ≤ x / y
high_step : (x y p q d s t : ℕ) → 0 < d → y * s ≤ x * d + y * t → q * t + p * d ≤ q * s → p * y ≤ x * q
high_step x y p q d s t pos first second =
    le_of_mul-le-mul_left {k = d} (omega (arith, mul-le-mul_left q first, mul-le-mul_left y second)) pos

-- One sum that ends on a minus term and is at or above x / y: then x / y is at or below e^(-a/b).
pub below_by_sum :
    (x y a b l : ℕ) → 0 < b → ends_on_plus l ≡ false → x * denominator b l + y * agreeing a b l ≤ y * opposing a b l → AtOrBelow x y a b
below_by_sum x y a b l pos minus h =
    record {
      sum = λ k plus.
          let r = bracketed (k + l) b pos a in
          under_step x y r.num r.den (denominator b k) (agreeing a b k) (opposing a b k) r.brackets.is_fraction
          (low_step x y r.num r.den (denominator b l) (agreeing a b l) (opposing a b l) (denominator_pos b l pos) h
          (bracket_minus r.brackets l (omega arith) minus)) (bracket_plus r.brackets k (omega arith) plus);
    }

-- One sum that ends on a plus term and is at or below x / y: then x / y is at or above e^(-a/b).
pub above_by_sum :
    (x y a b l : ℕ) → 0 < b → ends_on_plus l ≡ true → y * agreeing a b l ≤ x * denominator b l + y * opposing a b l → AtOrAbove x y a b
above_by_sum x y a b l pos plus h =
    record {
      sum = λ k minus.
          let r = bracketed (k + l) b pos a in
          over_step x y r.num r.den (denominator b k) (agreeing a b k) (opposing a b k) r.brackets.is_fraction
          (high_step x y r.num r.den (denominator b l) (agreeing a b l) (opposing a b l) (denominator_pos b l pos) h
          (bracket_plus r.brackets l (omega arith) plus)) (bracket_minus r.brackets k (omega arith) minus);
    }

-- What is less than something at or below is at or below; what is more than something at or above is at or above.
pub below_weaker : {p q x y a b : ℕ} → 0 < q → x * q ≤ p * y → AtOrBelow p q a b → AtOrBelow x y a b
below_weaker {p} {q} {x} {y} {a} {b} pos le h =
    record {
      sum = λ k e.
          under_step x y p q (denominator b k) (agreeing a b k) (opposing a b k) pos le (omega (arith, h.sum k e));
    }

pub above_weaker : {p q x y a b : ℕ} → 0 < q → p * y ≤ x * q → AtOrAbove p q a b → AtOrAbove x y a b
above_weaker {p} {q} {x} {y} {a} {b} pos le h =
    record {
      sum = λ k e.
          over_step x y p q (denominator b k) (agreeing a b k) (opposing a b k) pos le (omega (arith, h.sum k e));
    }

-- A fraction brackets e^(-a/b) if each sum up to `top` that ends on a plus term is at or above it, and each other one at or below.
brackets_by_sums :
    (top x y a b : ℕ) → 0 < y
    → ((k : ℕ) → k ≤ top → ends_on_plus k ≡ true → x * denominator b k + y * opposing a b k ≤ y * agreeing a b k)
    → ((k : ℕ) → k ≤ top → ends_on_plus k ≡ false → y * opposing a b k ≤ x * denominator b k + y * agreeing a b k)
    → Brackets top x y a b
brackets_by_sums top x y a b pos plus minus = record { is_fraction = pos; at = λ i le. by_end i le (ends_on_plus i) refl }
  where
    by_end :
        (i : ℕ) → i ≤ top → (e : Bool) → ends_on_plus i ≡ e
        → y * opposing a b i + x * agreeing 0 b i ≤ y * agreeing a b i + x * opposing 0 b i
    by_end i le true e = omega (arith, plus i le e, ap (λ t. x * t) (zero-parts b i), ap (λ t. x * t) (plus_end b i e))
    by_end i le false e = omega (arith, minus i le e, ap (λ t. x * t) (zero-parts b i), ap (λ t. x * t) (minus_end b i e))

-- Up to any index, what is at or below has a bracket at or above it: the larger of itself and some bracket. And the other way round.
module _ (top x y a b : ℕ) (posb : 0 < b) (posy : 0 < y) where
  low_bracket : AtOrBelow x y a b → (r : Bracketed top a b) × (x * r.den ≤ r.num * y)
  low_bracket h = larger (bracketed top b posb a) (dec_le (x * (bracketed top b posb a).den) ((bracketed top b posb a).num * y))
    where
      larger : (r : Bracketed top a b) → Dec (x * r.den ≤ r.num * y) → (r : Bracketed top a b) × (x * r.den ≤ r.num * y)
      larger r (yes le) = (r, le)
      larger r (no gt) = (
        record {
          num = x;
          den = y;
          brackets =
              brackets_by_sums top x y a b posy (λ k le e. h.sum k e)
              (λ k le e.
              over_step x y r.num r.den (denominator b k) (agreeing a b k) (opposing a b k) r.brackets.is_fraction
              (le_of_lt (lt_of_not-le gt)) (bracket_minus r.brackets k le e));
        },
        le_refl (x * y),
      )

  high_bracket : AtOrAbove x y a b → (r : Bracketed top a b) × (r.num * y ≤ x * r.den)
  high_bracket h = smaller (bracketed top b posb a) (dec_le ((bracketed top b posb a).num * y) (x * (bracketed top b posb a).den))
    where
      smaller : (r : Bracketed top a b) → Dec (r.num * y ≤ x * r.den) → (r : Bracketed top a b) × (r.num * y ≤ x * r.den)
      smaller r (yes le) = (r, le)
      smaller r (no gt) = (
        record {
          num = x;
          den = y;
          brackets =
              brackets_by_sums top x y a b posy
              (λ k le e.
              under_step x y r.num r.den (denominator b k) (agreeing a b k) (opposing a b k) r.brackets.is_fraction
              (le_of_lt (lt_of_not-le gt)) (bracket_plus r.brackets k le e)) (λ k le e. h.sum k e);
        },
        le_refl (x * y),
      )

cross : (x y p q x' y' p' q' : ℕ) → x * q ≤ p * y → x' * q' ≤ p' * y' → x * x' * (q * q') ≤ p * p' * (y * y')
cross x y p q x' y' p' q' first second = omega (arith, mul-le-mul first second)

-- Bounds multiply: e^(-a/b) × e^(-v/b) = e^(-(a+v)/b).
module _ {x y x' y' a v b : ℕ} (posb : 0 < b) (posy : 0 < y) (posy' : 0 < y') where
  pub below_product : AtOrBelow x y a b → AtOrBelow x' y' v b → AtOrBelow (x * x') (y * y') (a + v) b
  below_product h h' = record { sum = at }
    where
      at :
          (k : ℕ) → ends_on_plus k ≡ true
          → x * x' * denominator b k + y * y' * opposing (a + v) b k ≤ y * y' * agreeing (a + v) b k
      at k e =
          let r = low_bracket k x y a b posb posy h in
          let r' = low_bracket k x' y' v b posb posy' h' in
          let both = product k a b v r.0.brackets r'.0.brackets in
          under_step (x * x') (y * y') (r.0.num * r'.0.num) (r.0.den * r'.0.den) (denominator b k) (agreeing (a + v) b k)
          (opposing (a + v) b k) both.is_fraction
          (cross x y r.0.num r.0.den x' y' r'.0.num r'.0.den r.1 r'.1) (bracket_plus both k (le_refl k) e)

  pub above_product : AtOrAbove x y a b → AtOrAbove x' y' v b → AtOrAbove (x * x') (y * y') (a + v) b
  above_product h h' = record { sum = at }
    where
      at :
          (k : ℕ) → ends_on_plus k ≡ false
          → y * y' * opposing (a + v) b k ≤ x * x' * denominator b k + y * y' * agreeing (a + v) b k
      at k e =
          let r = high_bracket k x y a b posb posy h in
          let r' = high_bracket k x' y' v b posb posy' h' in
          let both = product k a b v r.0.brackets r'.0.brackets in
          over_step (x * x') (y * y') (r.0.num * r'.0.num) (r.0.den * r'.0.den) (denominator b k) (agreeing (a + v) b k)
          (opposing (a + v) b k) both.is_fraction
          (cross r.0.num r.0.den x y r'.0.num r'.0.den x' y' r.1 r'.1) (bracket_minus both k (le_refl k) e)

-- At most d from is at most any larger d from.
pub further : {d e s z a b : ℕ} → 0 < z → d ≤ e → AtMostFrom d s z a b → AtMostFrom e s z a b
further {d} {e} {s} {z} pos le h =
    record {
      below = below_weaker pos (mul-le-mul_right z (sub-le-sub_left le s)) h.below;
      above = above_weaker pos (mul-le-mul_right z (omega arith)) h.above;
    }
