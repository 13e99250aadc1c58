-- The survival number of w = a × k / b is at most 1 from 1,000,000,000 × e^(-w), for every w below 7.5 and every rate k up to
-- 1000, with at most six terms; from that follow the promises of step 4 and of change 2026-03. e^(-w) is a product of three: the
-- table's entry, the series, and what the parts of w leave out, which is at most 9 of them. The last rounding costs a half.
-- Assumes nothing.
use mathlib.Core.Path.{◌≡◌, refl, sym, ◌∙◌, ap, ap₂}
use Prim.Native.Nat.{ℕ, zero, suc, ◌+◌, ◌-◌, ◌*◌, ◌/◌, ◌%◌, ◌^◌, ◌≤◌, ◌<◌}
use native.Mathlib.Nat.{mul-pos, mul_comm, mul-le-mul_left, mul-le-mul, div-mul-le_self, lt-div-mul-add, mod-lt, lt_of_mul-lt-mul_right, div-add-mod'}
use native.Mathlib.Nat.{zero-add, zero-mul, mul-zero, zero-div, pow-zero, pow-suc}
use native.Mathlib.Omega.{arith}
use lib.Dec.{lit<, lit≤}
use Rattle.number_exact.specs.Exponential.{agreeing, opposing, denominator, AtOrBelow, AtOrAbove, AtMostFrom}
use Rattle.number_exact.proofs.Laws.{below_by_sum, above_by_sum, below_weaker, above_weaker, below_product, above_product, further}
use Rattle.number_exact.proofs.Scaling.{below_scaled, above_scaled, below_unscaled, above_unscaled}
use Rattle.step_powers.specs.Powers.{power_at}
use Rattle.step_powers.proofs.Table.{power_near, power_most, power_least, power_first}
use Rattle.step_survival.specs.Series.{term, summed_terms, series, term_count}
use Rattle.step_survival.specs.Survival.{ratio, parts, survival_at, terms_at, survival_of, terms_of, survival_number, IsSurvival}
use Rattle.step_survival.specs.Served.{Served, EveryW}
use Rattle.step_survival.proofs.Count.{at_most, next_zero}
use Rattle.step_survival.proofs.Series.{sixth_zero, six, series-most, series-least, series-below, series-above}

-- ---- how many terms

module _ (r : ℕ) (small : r < 2 ^ 32) where
  pub at-most_six : term_count r ≤ 6
  unfolding term_count summed_terms
  at-most_six = at_most 40 r 0 6 (sixth_zero r small)

  next_is_zero_lem : term r (term_count r) ≡ 0
  unfolding term_count summed_terms
  next_is_zero_lem = ap (term r) (sym (zero-add _)) ∙ next_zero 40 r 0 (omega (arith, at-most_six))

-- ---- the parts of w: q is a / b in parts of 2^44, p is q × k in parts of 2^37

parts_low : (a b k q p : ℕ) → q * b ≤ a * 2 ^ 44 → p * 2 ^ 7 ≤ q * k → p * b ≤ 2 ^ 37 * (a * k)
parts_low a b k q p hq hp = omega (arith, mul-le-mul_left b hp, mul-le-mul_left k hq)

parts-high :
    (a b k q p : ℕ) → a * 2 ^ 44 < q * b + b → q * k < p * 2 ^ 7 + 2 ^ 7 → k ≤ 1000 → 2 ^ 37 * (a * k) ≤ p * b + 9 * b
parts-high a b k q p hq hp rate = omega (arith, mul-le-mul_left k hq, mul-le-mul_left b hp, mul-le-mul_left b rate)

-- e^(-d/(2^37 × b)) is near 1, for the d that the parts leave out
module _ (b d : ℕ) (pos : 0 < b) (few : d ≤ 9 * b) where
  rest_below : AtOrBelow (2 ^ 37 - 9) (2 ^ 37) d (2 ^ 37 * b)
  unfolding agreeing opposing denominator
  rest_below =
      below_by_sum (2 ^ 37 - 9) (2 ^ 37) d (2 ^ 37 * b) 1 (mul-pos (lit< tt) pos) refl
      (omega (arith, few, pow-suc d 0, ap (λ t. t * d) (pow-zero d)))

  rest-above : AtOrAbove 1 1 d (2 ^ 37 * b)
  unfolding agreeing opposing denominator
  rest-above = above_by_sum 1 1 d (2 ^ 37 * b) 0 (mul-pos (lit< tt) pos) refl (omega arith)

-- ---- e is the table's entry, y the series, s their product rounded
module _
    (e y s : ℕ) (low_s : s * 2 ^ 39 ≤ e * y + 2 ^ 38) (high_s : e * y + 2 ^ 38 < s * 2 ^ 39 + 2 ^ 39)
    (most : e ≤ 4000000000) (most_y : y ≤ 2 ^ 37) where
  product_low : (e' y' : ℕ) → e ≡ e' + 1 → y ≡ y' + 8 → (s - 1) * 2 ^ 76 ≤ e' * y' * (2 ^ 37 - 9)
  product_low e' y' ee ey =
      let le : e' ≤ 4000000000 = omega arith in
      let ly : y' ≤ 2 ^ 37 = omega arith in
      omega (arith, low_s, le, ly, ap₂ ◌*◌ ee ey, mul-le-mul le ly)

  product_high : (e + 1) * (y + 8) ≤ (s + 1) * 2 ^ 39
  product_high = omega (arith, high_s, most, most_y)

module _ (a b k : ℕ) (pos : 0 < b) (rate : k ≤ 1000) (fits : 2 * (a * k) < 15 * b) where
  p : ℕ
  p = parts a b k

  entry : ℕ
  entry = power_at (p / 2 ^ 32)

  tail : ℕ
  tail = series (p % 2 ^ 32)

  low : p * b ≤ 2 ^ 37 * (a * k)
  unfolding p parts ratio
  low = parts_low a b k (ratio a b) p (div-mul-le_self (a * 2 ^ 44) b) (div-mul-le_self (ratio a b * k) (2 ^ 7))

  high : 2 ^ 37 * (a * k) ≤ p * b + 9 * b
  unfolding p parts ratio
  high = parts-high a b k (ratio a b) p (lt-div-mul-add pos) (lt-div-mul-add (lit< tt)) rate

  pub parts_fit : parts a b k < 240 * 2 ^ 32
  unfolding p
  parts_fit = lt_of_mul-lt-mul_right b (omega (arith, low, fits))

  in_table : p / 2 ^ 32 < 240
  unfolding p
  in_table = omega (arith, parts_fit)

  short : p % 2 ^ 32 < 2 ^ 32
  short = mod-lt p (lit< tt)

  near : AtMostFrom 1 entry 4000000000 (p / 2 ^ 32) 32
  unfolding entry
  near = power_near (p / 2 ^ 32) in_table

  entry_most : entry ≤ 4000000000
  unfolding entry
  entry_most = power_most (p / 2 ^ 32) in_table

  entry_least : 1 ≤ entry
  unfolding entry
  entry_least = power_least (p / 2 ^ 32) in_table

  tail_most : tail ≤ 2 ^ 37
  unfolding tail
  tail_most = series-most (p % 2 ^ 32) short

  tail_least : 2 ^ 37 - 2 ^ 32 ≤ tail
  unfolding tail
  tail_least = series-least (p % 2 ^ 32) short

  -- w is what the parts say and what they leave out
  out : ℕ
  out = 2 ^ 37 * (a * k) - p * b

  whole : p * b + out ≡ a * k * 2 ^ 37
  unfolding out
  whole = omega (arith, low)

  out_few : out ≤ 9 * b
  unfolding out
  out_few = omega (arith, high)

  below : AtOrBelow ((entry - 1) * (tail - 8) * (2 ^ 37 - 9)) (4000000000 * 2 ^ 37 * 2 ^ 37) (a * k * 2 ^ 37) (b * 2 ^ 37)
  unfolding tail
  below =
      rw (whole, mul_comm (2 ^ 37) b) at
      (below_product (mul-pos (lit< tt) pos) (lit< tt) (lit< tt)
      (below_scaled p (2 ^ 37) b pos
      (rw (div-add-mod' p (2 ^ 32)) at
      (below_product (lit< tt) (lit< tt) (lit< tt) (below_scaled (p / 2 ^ 32) 32 (2 ^ 32) (lit< tt) near.below)
      (series-below (p % 2 ^ 32) short))))
      (rest_below b out pos out_few))

  above : AtOrAbove ((entry + 1) * (tail + 8) * 1) (4000000000 * 2 ^ 37 * 1) (a * k * 2 ^ 37) (b * 2 ^ 37)
  unfolding tail
  above =
      rw (whole, mul_comm (2 ^ 37) b) at
      (above_product (mul-pos (lit< tt) pos) (lit< tt) (lit< tt)
      (above_scaled p (2 ^ 37) b pos
      (rw (div-add-mod' p (2 ^ 32)) at
      (above_product (lit< tt) (lit< tt) (lit< tt) (above_scaled (p / 2 ^ 32) 32 (2 ^ 32) (lit< tt) near.above)
      (series-above (p % 2 ^ 32) short))))
      (rest-above b out pos out_few))

  rounded :
      (survival_of a b k * 2 ^ 39 ≤ entry * tail + 2 ^ 38) × (entry * tail + 2 ^ 38 < survival_of a b k * 2 ^ 39 + 2 ^ 39)
  unfolding survival_of survival_at entry tail p
  rounded = (div-mul-le_self (entry * tail + 2 ^ 38) (2 ^ 39), lt-div-mul-add (lit< tt))

  -- at most 1 from its value: what change 2026-08 asks, and more than step 4 does
  pub close-one : AtMostFrom 1 (survival_of a b k) 1000000000 (a * k) b
  close-one =
      let lo =
      product_low entry tail (survival_of a b k) rounded.0 rounded.1 entry_most tail_most (entry - 1) (tail - 8)
      (omega (arith, entry_least)) (omega (arith, tail_least)) in
      let hi = product_high entry tail (survival_of a b k) rounded.0 rounded.1 entry_most tail_most in
      record {
        below =
            below_unscaled (a * k) b (2 ^ 37) (lit< tt)
            (below_weaker (lit< tt) (omega (arith, mul-le-mul_left 1000000000 lo)) below);
        above =
            above_unscaled (a * k) b (2 ^ 37) (lit< tt)
            (above_weaker (lit< tt) (omega (arith, mul-le-mul_left 1000000000 hi)) above);
      }

  pub in_range_lem : survival_of a b k ≤ 1000000000
  in_range_lem = omega (arith, rounded, mul-le-mul entry_most tail_most)

  served : Served a b k
  unfolding terms_of terms_at p
  served =
      record {
        at_most40 = omega (arith, at-most_six (p % 2 ^ 32) short);
        next_is_zero = next_is_zero_lem (p % 2 ^ 32) short;
        close = close-one;
      }

-- no loss where w is 0
whole-at-zero : survival_at 0 ≡ 1000000000
unfolding survival_at term
whole-at-zero = rw (power_first, six 0 (lit< tt)) refl

pub at_zero_lem : (a b k : ℕ) → a * k ≡ 0 → survival_of a b k ≡ 1000000000
unfolding survival_of parts ratio
at_zero_lem zero b k e = rw (zero-div b, zero-mul k) whole-at-zero
at_zero_lem (suc a) b zero e = rw (mul-zero (suc a * 2 ^ 44 / b)) whole-at-zero
at_zero_lem (suc a) b (suc k) e = absurd (omega (arith, e))

-- every w of a month: N is at most 83,639 × 10,000 × 10 and a rate at most 1000
pub month_fits : (n k : ℕ) → n ≤ 8363900000 → k ≤ 1000 → 2 * (n * k) < 15 * 1200000000000
month_fits n k hn hk = omega (arith, mul-le-mul hn hk)

-- the promises of step 4
pub is_survival : (n k : ℕ) → n ≤ 8363900000 → k ≤ 1000 → IsSurvival n k (survival_number n k)
unfolding survival_number
is_survival n k hn hk =
    let fits : 2 * (n * k) < 15 * 1200000000000 = month_fits n k hn hk in
    record {
      close = further (lit< tt) (lit≤ tt) (close-one n 1200000000000 k (lit< tt) hk fits);
      in_range = in_range_lem n 1200000000000 k (lit< tt) hk fits;
      at_zero = at_zero_lem n 1200000000000 k;
    }

-- the promise of change 2026-03
pub every_w : EveryW
every_w =
    record {
      months = λ n k hn hk. served n 1200000000000 k (lit< tt) hk (month_fits n k hn hk);
      ages = λ y hy. served y 8035 1 (lit< tt) (lit≤ tt) (omega (arith, hy));
    }
