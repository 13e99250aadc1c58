-- What the code computes step by step is what the definitions say: the terms, a product that is rounded without being made, and
-- a quotient over the smaller denominator. Assumes nothing.
use mathlib.Core.Path.{◌≡◌, sym, ◌∙◌, ap}
use mathlib.Core.List.{List, [], ◌∷◌}
use Prim.Native.Nat.{ℕ, suc, ◌+◌, ◌-◌, ◌*◌, ◌/◌, ◌^◌, ◌≤◌, ◌<◌}
use native.Mathlib.Nat.{mul-le-mul, mul-div_cancel_left, mul-div-mul_right}
use native.Mathlib.Omega.{arith}
use lib.Dec.{lit<}
use lib.ListN.{length, get_or}
use Rattle.std.specs.List.{prefix_len}
use Rattle.step_survival.specs.Series.{term, later_terms, terms_from, summed_terms, series, term_count}
use Rattle.step_survival.specs.Survival.{ratio}
use Rattle.step_survival.proofs.Count.{none_more, one_more, not_zero, counted_from}
use Rattle.step_survival.proofs.Series.{falling, start, sixth_zero, series-sum}

-- term 1 is r
pub first : (r : ℕ) → term r 1 ≡ r
unfolding term
first r = mul-div_cancel_left r (lit< tt)

-- the next term of one that is term k
pub next_is : (r k : ℕ) {t : ℕ} → t ≡ term r k → t * r / (2 ^ 37 * suc k) ≡ term r (suc k)
unfolding term
next_is r k e = ap (λ t. t * r / (2 ^ 37 * suc k)) e

-- terms 1 to 5, each of the one before it
pub later_are :
    (r : ℕ) {b c d e : ℕ} → b ≡ r * r / (2 ^ 37 * 2) → c ≡ b * r / (2 ^ 37 * 3) → d ≡ c * r / (2 ^ 37 * 4)
    → e ≡ d * r / (2 ^ 37 * 5) → r ∷ b ∷ c ∷ d ∷ e ∷ [] ≡ later_terms r
later_are r b c d e =
    let second = b ∙ next_is r 1 (sym (first r)) in
    let third = c ∙ next_is r 2 second in
    let fourth = d ∙ next_is r 3 third in
    let fifth = e ∙ next_is r 4 fourth in
    rw (first r, ← second, ← third, ← fourth, ← fifth)

module _ {t : List ℕ} (r : ℕ) (small : r < 2 ^ 32) (is : t ≡ later_terms r) where
  -- They fall fast enough that nothing wraps, and give the sum.
  pub sum_parts :
      (get_or t 0 0 ≡ r) × (64 * get_or t 1 0 ≤ r) × (96 * get_or t 2 0 ≤ get_or t 1 0)
      × (128 * get_or t 3 0 ≤ get_or t 2 0) × (160 * get_or t 4 0 ≤ get_or t 3 0)
      × (series r + (get_or t 0 0 + get_or t 2 0 + get_or t 4 0) ≡ 2 ^ 37 + get_or t 1 0 + get_or t 3 0)
  sum_parts = rw is (omega (arith, first r, start r, falling r small, series-sum r small))

  -- Those before a 0, with term 0, are the terms that are summed.
  pub count_is : 1 + prefix_len not_zero t ≡ term_count r
  unfolding term_count summed_terms
  count_is =
      let five = counted_from 34 r 5 [] (ap length (none_more 34 r 6 (sixth_zero r small))) in
      let four = counted_from 35 r 4 (term r 5 ∷ []) five in
      let three = counted_from 36 r 3 (term r 4 ∷ term r 5 ∷ []) four in
      let two = counted_from 37 r 2 (term r 3 ∷ term r 4 ∷ term r 5 ∷ []) three in
      let one : length (terms_from 39 r 1) ≡ prefix_len not_zero (later_terms r) =
      counted_from 38 r 1 (term r 2 ∷ term r 3 ∷ term r 4 ∷ term r 5 ∷ []) two in
      rw is (omega (arith, one_more 39 r 0 (λ z. omega (arith, start r)), one))

pub times_fits : (x r : ℕ) → x < 2 ^ 32 → r < 2 ^ 32 → x * r < 2 ^ 64
times_fits x r hx hr =
    let a : x ≤ 4294967295 = omega arith in
    let b : r ≤ 4294967295 = omega arith in
    omega (arith, mul-le-mul a b)

-- power × y / 2^39 to the nearest, from what y falls short of 2^37 by
pub nearest_is :
    (p y : ℕ) → y ≤ 2 ^ 37
    → (p * 1073741824 - (p * (137438953472 - y) + 127) / 128 + 2147483648) / 4294967296 ≡ (p * y + 2 ^ 38) / 2 ^ 39
nearest_is p y most =
    let z : ℕ = 137438953472 - y in
    let short : z + y ≡ 137438953472 = omega (arith, most) in
    let whole : p * z + p * y ≡ p * 137438953472 = omega (arith, ap (λ t. p * t) short) in
    omega (arith, whole)

pub ratio_by : (n : ℕ) → n * 2147483648 / 146484375 ≡ ratio n 1200000000000
unfolding ratio
ratio_by n = sym (mul-div-mul_right {m = 8192} (n * 2147483648) 146484375 (lit< tt)) ∙ ap (λ t. t / 1200000000000) (omega arith)
