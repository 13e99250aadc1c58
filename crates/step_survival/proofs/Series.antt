-- The series: its terms are at most 2 below the exact ones, term 6 is 0, and e^(-r) is at most 8 from the sum of those before
-- it, in parts of 2^37. Assumes nothing.
use mathlib.Core.Path.{◌≡◌, refl, ap}
use mathlib.Core.Bool.{cond}
use mathlib.Core.List.{List, [], ◌∷◌}
use Prim.Native.Nat.{ℕ, zero, suc, ◌+◌, ◌-◌, ◌*◌, ◌/◌, ◌^◌, ◌≤◌, ◌<◌}
use native.Mathlib.Nat.{pow-suc, pow-zero, mul-le-mul_left, le_of_mul-le-mul_left, div-mul-le_self, lt-div-mul-add, sub-zero}
use native.Mathlib.Omega.{arith}
use borrow.Author.Tests.{ne_eqb}
use lib.Dec.{eqb, lit<}
use Rattle.number_exact.proofs.Laws.{below_by_sum, above_by_sum}
use Rattle.number_exact.specs.Exponential.{agreeing, opposing, denominator, AtOrBelow, AtOrAbove}
use Rattle.step_survival.specs.Series.{term, terms_from, summed_terms, alternating, series}
use Rattle.step_survival.proofs.Count.{none_more}

-- a quotient, rounded down: t × d ≤ x < (t + 1) × d
quotient : (x d : ℕ) → 0 < d → (x / d * d ≤ x) × (x < x / d * d + d)
quotient x d pos = (div-mul-le_self x d, lt-div-mul-add pos)

-- ---- each term beside the one before it

-- a term is at most a 32 × (k + 1)th of the one before it
term_falls : (r k : ℕ) → r < 2 ^ 32 → 32 * suc k * term r (suc k) ≤ term r k
unfolding term
term_falls r k small =
    le_of_mul-le-mul_left {k = 2 ^ 32}
    (omega (arith, (quotient (term r k * r) (2 ^ 37 * suc k) (omega arith)).0, mul-le-mul_left (term r k) small)) (lit< tt)

-- z is the scale, t the term and n / d the exact one; e is the next term, and c its index:
-- e × z × c ≤ t × r < (e + 1) × z × c
low_step :
    (z r t d n e c : ℕ) → t * d ≤ z * n → e * (z * c) ≤ t * r → e * (d * (z * c)) ≤ z * (n * r)
low_step z r t d n e c before quot = omega (arith, mul-le-mul_left d quot, mul-le-mul_left r before)

next_term : (z r t e c : ℕ) → t * r < e * (z * c) + z * c → 0 < c → 2 * r ≤ z → (t + 2) * r ≤ (e + 2) * (z * c)
next_term z r t e c quot some small = omega (arith, quot, small, mul-le-mul_left z some)

high_step :
    (z r t d n e c : ℕ) → z * n ≤ (t + 2) * d → t * r < e * (z * c) + z * c → 0 < c → 2 * r ≤ z
    → z * (n * r) ≤ (e + 2) * (d * (z * c))
high_step z r t d n e c before quot some small =
    omega (arith, mul-le-mul_left r before, mul-le-mul_left d (next_term z r t e c quot some small))

module _ (r : ℕ) where
  -- the exact term k is 2^37 × r^k over (2^37)^k × k!
  term-low : (k : ℕ) → term r k * denominator (2 ^ 37) k ≤ 2 ^ 37 * r ^ k
  unfolding term denominator
  term-low zero = omega (arith, pow-zero r)
  term-low (suc k) =
      rw (pow-suc r k)
      (low_step (2 ^ 37) r (term r k) (denominator (2 ^ 37) k) (r ^ k) (term r (suc k)) (suc k) (term-low k)
      (quotient (term r k * r) (2 ^ 37 * suc k) (omega arith)).0)

  term-high : r < 2 ^ 32 → (k : ℕ) → 2 ^ 37 * r ^ k ≤ (term r k + 2) * denominator (2 ^ 37) k
  unfolding term denominator
  term-high small zero = omega (arith, pow-zero r)
  term-high small (suc k) =
      rw (pow-suc r k)
      (high_step (2 ^ 37) r (term r k) (denominator (2 ^ 37) k) (r ^ k) (term r (suc k)) (suc k) (term-high small k)
      (quotient (term r k * r) (2 ^ 37 * suc k) (omega arith)).1 (omega arith) (omega arith))

-- the numbers f 0, f 1, .. added by sign, as the sums of e^(-w) are: those of the last one's sign, and the others
mutual
  agreeing_of : (ℕ → ℕ) → ℕ → ℕ
  agreeing_of f zero = f zero
  agreeing_of f (suc k) = opposing_of f k + f (suc k)

  opposing_of : (ℕ → ℕ) → ℕ → ℕ
  opposing_of f zero = 0
  opposing_of f (suc k) = agreeing_of f k

module _ (z a b : ℕ) (f g : ℕ → ℕ) (low : (k : ℕ) → f k * denominator b k ≤ z * a ^ k) (high : (k : ℕ) → z * a ^ k ≤ g k * denominator b k) where
  mutual
    unfolding agreeing opposing denominator agreeing_of opposing_of

    agreeing-low : (k : ℕ) → agreeing_of f k * denominator b k ≤ z * agreeing a b k
    agreeing-low zero = omega (arith, low zero, ap (λ t. z * t) (pow-zero a))
    agreeing-low (suc k) = omega (arith, mul-le-mul_left (b * suc k) (opposing-low k), low (suc k))

    opposing-low : (k : ℕ) → opposing_of f k * denominator b k ≤ z * opposing a b k
    opposing-low zero = omega arith
    opposing-low (suc k) = omega (arith, mul-le-mul_left (b * suc k) (agreeing-low k))

  mutual
    unfolding agreeing opposing denominator agreeing_of opposing_of

    agreeing-high : (k : ℕ) → z * agreeing a b k ≤ agreeing_of g k * denominator b k
    agreeing-high zero = omega (arith, high zero, ap (λ t. z * t) (pow-zero a))
    agreeing-high (suc k) = omega (arith, mul-le-mul_left (b * suc k) (opposing-high k), high (suc k))

    opposing-high : (k : ℕ) → z * opposing a b k ≤ opposing_of g k * denominator b k
    opposing-high zero = omega arith
    opposing-high (suc k) = omega (arith, mul-le-mul_left (b * suc k) (agreeing-high k))

  -- a number that is low enough against the sum to term l, by the terms' bounds alone
  sum_below : (x l : ℕ) → x + agreeing_of g l ≤ opposing_of f l → x * denominator b l + z * agreeing a b l ≤ z * opposing a b l
  sum_below x l h = omega (arith, mul-le-mul_left (denominator b l) h, agreeing-high l, opposing-low l)

  sum-above : (x l : ℕ) → agreeing_of g l ≤ x + opposing_of f l → z * agreeing a b l ≤ x * denominator b l + z * opposing a b l
  sum-above x l h = omega (arith, mul-le-mul_left (denominator b l) h, agreeing-high l, opposing-low l)

-- ---- the terms that are summed

-- a term less the rest, also where it is 0 and nothing is summed
less : (t : ℕ) (rest : List ℕ) → alternating (cond (eqb t 0) [] (t ∷ rest)) ≡ t - alternating rest
unfolding alternating
less zero rest = omega arith
less (suc t) rest = rw (ne_eqb (suc t) 0 (λ z. omega arith))

unrolled : (most r k : ℕ) → alternating (terms_from (suc most) r k) ≡ term r k - alternating (terms_from most r (suc k))
unfolding terms_from
unrolled most r k = less (term r k) (terms_from most r (suc k))

pub start : (r : ℕ) → term r 0 ≡ 2 ^ 37
unfolding term
start r = refl

module _ (r : ℕ) (small : r < 2 ^ 32) where
  -- each term is far below the one before it, and term 6 is 0
  pub falling :
      (32 * term r 1 ≤ term r 0) × (64 * term r 2 ≤ term r 1) × (96 * term r 3 ≤ term r 2) × (128 * term r 4 ≤ term r 3)
      × (160 * term r 5 ≤ term r 4)
  falling = (term_falls r 0 small, term_falls r 1 small, term_falls r 2 small, term_falls r 3 small, term_falls r 4 small)

  pub sixth_zero : term r 6 ≡ 0
  sixth_zero = omega (arith, falling, start r, term_falls r 5 small)

  -- of the sum's terms the first six are left
  pub six : series r ≡ term r 0 - (term r 1 - (term r 2 - (term r 3 - (term r 4 - term r 5))))
  unfolding series summed_terms alternating
  six =
      rw (
        unrolled 39 r 0,
        unrolled 38 r 1,
        unrolled 37 r 2,
        unrolled 36 r 3,
        unrolled 35 r 4,
        unrolled 34 r 5,
        none_more 34 r 6 sixth_zero,
        sub-zero (term r 5),
      )

  pub series-sum : series r + (term r 1 + term r 3 + term r 5) ≡ term r 0 + term r 2 + term r 4
  series-sum = omega (arith, falling, six)

  pub series-most : series r ≤ 2 ^ 37
  series-most = omega (arith, falling, series-sum, start r)

  pub series-least : 2 ^ 37 - 2 ^ 32 ≤ series r
  series-least = omega (arith, falling, series-sum, start r)

  pub series-below : AtOrBelow (series r - 8) (2 ^ 37) r (2 ^ 37)
  unfolding agreeing_of opposing_of
  series-below =
      below_by_sum (series r - 8) (2 ^ 37) r (2 ^ 37) 5 (lit< tt) refl
      (sum_below (2 ^ 37) r (2 ^ 37) (term r) (λ k. term r k + 2) (term-low r) (term-high r small) (series r - 8) 5
      (omega (arith, falling, series-sum, start r, series-least)))

  pub series-above : AtOrAbove (series r + 8) (2 ^ 37) r (2 ^ 37)
  unfolding agreeing_of opposing_of
  series-above =
      above_by_sum (series r + 8) (2 ^ 37) r (2 ^ 37) 6 (lit< tt) refl
      (sum-above (2 ^ 37) r (2 ^ 37) (term r) (λ k. term r k + 2) (term-low r) (term-high r small) (series r + 8) 6
      (omega (arith, falling, series-sum, start r, sixth_zero)))
