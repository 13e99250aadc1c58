-- A whole number is the nearest to a value at e^(-a/b): by a test with two sums, one that ends on a minus term and one on a plus term.
-- Assumes nothing.
use mathlib.Core.Path.{◌≡◌, ap}
use mathlib.Core.Bool.{Bool, true, false, ◌&&◌}
use Prim.Native.Nat.{ℕ, ◌+◌, ◌-◌, ◌*◌, ◌≤◌, ◌<◌}
use native.Mathlib.Omega.{arith}
use native.Mathlib.Nat.{sub-add_cancel, mul-le-mul_left}
use lib.Dec.{T, leb, leb→le}
use Rattle.number_exact.specs.Exponential.{agreeing, opposing, denominator, ends_on_plus, HalfFrom, Nearest}
use Rattle.number_exact.proofs.Bracket.{denominator_pos}
use Rattle.number_exact.proofs.Laws.{below_by_sum, above_by_sum}
use Rattle.number_exact.proofs.Tests.{and_left, and_right}

unfoldable pub half_test : ℕ → ℕ → ℕ → Bool
half_test n num den = leb (2 * n * den) (2 * num + den) && leb (2 * num) (2 * n * den + den)

half_by_test : (n num den : ℕ) → T (half_test n num den) → HalfFrom n num den
unfolding half_test
half_by_test n num den t =
    record {
      not_above = leb→le (2 * n * den) (2 * num + den) (and_left (leb (2 * n * den) (2 * num + den)) _ t);
      not_below = leb→le (2 * num) (2 * n * den + den) (and_right (leb (2 * n * den) (2 * num + den)) _ t);
    }

-- the sum to term l as a fraction, where it ends on a minus term and where it ends on a plus term
unfoldable pub minus_sum : ℕ → ℕ → ℕ → ℕ
minus_sum a b l = opposing a b l - agreeing a b l

unfoldable pub plus_sum : ℕ → ℕ → ℕ → ℕ
plus_sum a b l = agreeing a b l - opposing a b l

-- the test at the sums to terms l and k
unfoldable pub nearest_test : ℕ → (ℕ → ℕ → ℕ) → (ℕ → ℕ → ℕ) → ℕ → ℕ → ℕ → ℕ → Bool
nearest_test n num den a b l k =
    leb (agreeing a b l) (opposing a b l)
    && (half_test n (num (minus_sum a b l) (denominator b l)) (den (minus_sum a b l) (denominator b l))
    && half_test n (num (plus_sum a b k) (denominator b k)) (den (plus_sum a b k) (denominator b k)))

minus_below : (s t d : ℕ) → s ≤ t → (t - s) * d + d * s ≤ d * t
minus_below s t d le = omega (arith, ap (λ x. d * x) (sub-add_cancel le))

plus_above : (s t d : ℕ) → d * t ≤ (t - s) * d + d * s
plus_above s t d = let le : t ≤ t - s + s = omega arith in omega (arith, mul-le-mul_left d le)

pub nearest_by_test :
    (n : ℕ) (num den : ℕ → ℕ → ℕ) (a b l k : ℕ) → 0 < b → ends_on_plus l ≡ false → ends_on_plus k ≡ true
    → T (nearest_test n num den a b l k) → Nearest n num den a b
unfolding nearest_test minus_sum plus_sum
nearest_by_test n num den a b l k pos minus plus t =
    let ordered = leb (agreeing a b l) (opposing a b l) in
    let low = half_test n (num (minus_sum a b l) (denominator b l)) (den (minus_sum a b l) (denominator b l)) in
    let halves = and_right ordered _ t in
    record {
      low_num = minus_sum a b l;
      low_den = denominator b l;
      high_num = plus_sum a b k;
      high_den = denominator b k;
      low =
          below_by_sum (minus_sum a b l) (denominator b l) a b l pos minus
          (minus_below (agreeing a b l) (opposing a b l) (denominator b l) (leb→le (agreeing a b l) (opposing a b l) (and_left ordered _ t)));
      high =
          above_by_sum (plus_sum a b k) (denominator b k) a b k pos plus (plus_above (opposing a b k) (agreeing a b k) (denominator b k));
      low_is_fraction = denominator_pos b l pos;
      high_is_fraction = denominator_pos b k pos;
      at_low = half_by_test n (num (minus_sum a b l) (denominator b l)) (den (minus_sum a b l) (denominator b l)) (and_left low _ halves);
      at_high = half_by_test n (num (plus_sum a b k) (denominator b k)) (den (plus_sum a b k) (denominator b k)) (and_right low _ halves);
    }
