-- Laws of the water step: the ranges of M, of the deficit and of B, the deficit without signed numbers, known figures.
-- Assumes nothing.
use mathlib.Core.Path.{◌≡◌, refl, ap, ◌∙◌}
use mathlib.Core.Bool.{Bool, true, false}
use Prim.Native.Nat.{ℕ, ◌+◌, ◌-◌, ◌*◌, ◌/◌, ◌<◌, ◌≤◌, min}
use native.Mathlib.Nat.{mul-le-mul, mul-le-mul_left, min-le_right, le_trans, max-eq_left, div-lt_iff_lt-mul, div-eq_of_lt-le, mul-div_cancel_left}
use native.Mathlib.Omega.{arith}
use native.Mathlib.Decide.{dec_le}
use borrow.Author.Tests.{le-ltb, lt-ltb}
use lib.Dec.{lit<}
use lib.IntN.{ℤ, pos, ◌+ℤ◌, ◌-ℤ◌}
use mir.Syntax.{w64}
use mir.Val.{SFits}
use Rattle.step_water.specs.Water.{max_deficit, bare_limit, tenth_dries, drying, deficit_cap, clamped, new_deficit, halves_up, moisture_factor}
use Rattle.step_water.proofs.Signed.{difference_fits, clamped_difference, add_difference}

-- ---- M

-- (a - b)² is at least 0, written without the difference.
ordered_squares : (a k : ℕ) → 2 * (a * (a + k)) ≤ a * a + (a + k) * (a + k)
ordered_squares a k = omega arith

two_squares : (a b : ℕ) → 2 * (a * b) ≤ a * a + b * b
two_squares a b = elim (dec_le a b) [
  | yes h ↦ let e : b ≡ a + (b - a) = omega arith in rw e (ordered_squares a (b - a))
  | no h ↦ let e : a ≡ b + (a - b) = omega arith in rw e (omega (arith, ordered_squares b (a - b)))
]

-- The parabola 200,000 + 1,300 × clay - clay² is highest at clay 650, and at least 200,000 up to clay 1,300.
parabola_top : (clay : ℕ) → 200000 + 1300 * clay - clay * clay ≤ 622500
parabola_top clay = omega (arith, two_squares 650 clay)

parabola_bottom : (clay : ℕ) → clay ≤ 1000 → 200000 ≤ 200000 + 1300 * clay - clay * clay
parabola_bottom clay h = omega (arith, mul-le-mul_left clay h)

-- M is at most 560,250,000 parts, for any clay and a depth of at most 100.
pub max_deficit_top : (clay depth : ℕ) → depth ≤ 100 → max_deficit clay depth ≤ 560250000
unfolding max_deficit
max_deficit_top clay depth h =
    let deep : 9 * depth ≤ 900 = omega arith in
    mul-le-mul deep (parabola_top clay)

-- M is above 0 for an accepted clay and depth.
pub max_deficit-positive : (clay depth : ℕ) → clay ≤ 1000 → 1 ≤ depth → 0 < max_deficit clay depth
unfolding max_deficit
max_deficit-positive clay depth hc hd =
    let deep : 9 ≤ 9 * depth = omega arith in
    omega (arith, mul-le-mul deep (parabola_bottom clay hc))

five_ninths : (depth x : ℕ) → 9 * (5 * (9 * depth * x) / 9) ≡ 5 * (9 * depth * x)
five_ninths depth x =
    let multiple : 5 * (9 * depth * x) ≡ 9 * (5 * (depth * x)) = omega arith in
    rw multiple (ap (λ (t : ℕ). 9 * t) (mul-div_cancel_left (5 * (depth * x)) (lit< tt)))

-- The bare limit is exactly 5/9 of M.
pub bare_limit_exact : (clay depth : ℕ) → 9 * bare_limit (max_deficit clay depth) ≡ 5 * max_deficit clay depth
unfolding bare_limit max_deficit
bare_limit_exact clay depth = five_ninths depth (200000 + 1300 * clay - clay * clay)

-- ---- the deficit

-- A tenth of a millimetre of evaporation dries at most what a tenth of rain wets, ..
tenth_most : (potential : Bool) → tenth_dries potential ≤ 207000
tenth_most false = omega arith
tenth_most true = omega arith

-- .. so that the evaporation of a month stays small, of either source.
pub evaporation_most : (potential : Bool) (evaporation : ℕ) → evaporation ≤ 20000 → tenth_dries potential * evaporation ≤ 4140000000
evaporation_most potential evaporation h = mul-le-mul (tenth_most potential) h

-- The drying is a signed 64-bit number, for accepted rain and evaporation.
pub drying_fits : (potential : Bool) (evaporation rain : ℕ) → evaporation ≤ 20000 → rain ≤ 20000
    → SFits w64 (drying potential evaporation rain)
unfolding drying
drying_fits potential evaporation rain he hr =
    difference_fits (tenth_dries potential * evaporation) (207000 * rain)
    (omega (arith, evaporation_most potential evaporation he)) (omega arith)

-- A deficit plus the drying is one difference of two natural numbers.
dried_is : (d : ℕ) (potential : Bool) (evaporation rain : ℕ)
    → pos d +ℤ drying potential evaporation rain ≡ pos (d + tenth_dries potential * evaporation) -ℤ pos (207000 * rain)
unfolding drying
dried_is d potential evaporation rain = add_difference d (tenth_dries potential * evaporation) (207000 * rain)

-- A deficit of at most the largest M plus the drying is a signed 64-bit number too.
pub dried_fits : (d : ℕ) (potential : Bool) (evaporation rain : ℕ) → d ≤ 560250000 → evaporation ≤ 20000 → rain ≤ 20000
    → SFits w64 (pos d +ℤ drying potential evaporation rain)
dried_fits d potential evaporation rain hd he hr =
    rw (dried_is d potential evaporation rain)
    (difference_fits (d + tenth_dries potential * evaporation) (207000 * rain)
    (omega (arith, evaporation_most potential evaporation he)) (omega arith))

-- The new deficit without signed numbers.
pub new_deficit_is : (crop : Bool) (m d : ℕ) (potential : Bool) (evaporation rain : ℕ)
    → new_deficit crop m d potential evaporation rain
    ≡ min (d + tenth_dries potential * evaporation - 207000 * rain) (deficit_cap crop m d)
unfolding new_deficit
new_deficit_is crop m d potential evaporation rain =
    ap (clamped (deficit_cap crop m d)) (dried_is d potential evaporation rain)
    ∙ clamped_difference (deficit_cap crop m d) (d + tenth_dries potential * evaporation) (207000 * rain)

-- A cap is at most M where the deficit before the month was, under a crop and on bare soil.
pub deficit_cap_top : (crop : Bool) (m d : ℕ) → d ≤ m → deficit_cap crop m d ≤ m
unfolding deficit_cap bare_limit
deficit_cap_top true m d h = omega arith
deficit_cap_top false m d h = omega arith

-- A deficit of at most M stays at most M.
pub new_deficit_top : (crop : Bool) (m d : ℕ) (potential : Bool) (evaporation rain : ℕ) → d ≤ m
    → new_deficit crop m d potential evaporation rain ≤ m
new_deficit_top crop m d potential evaporation rain h =
    rw new_deficit_is (le_trans (min-le_right _ (deficit_cap crop m d)) (deficit_cap_top crop m d h))

-- FOUR FOR THREE: 4 tenths of open pan dry as 3 tenths of potential evapotranspiration do, k times over, ..
pub four_for_three : (k rain : ℕ) → drying false (4 * k) rain ≡ drying true (3 * k) rain
unfolding drying
four_for_three k rain =
    let same : 155250 * (4 * k) ≡ 207000 * (3 * k) = omega arith in
    ap (λ (parts : ℕ). pos parts -ℤ pos (207000 * rain)) same

-- .. and leave the same deficit.
pub deficit_four_for_three :
    (crop : Bool) (m d k rain : ℕ) → new_deficit crop m d false (4 * k) rain ≡ new_deficit crop m d true (3 * k) rain
unfolding new_deficit
deficit_four_for_three crop m d k rain =
    ap (λ (dried : ℤ). clamped (deficit_cap crop m d) (pos d +ℤ dried)) (four_for_three k rain)

-- Bare soil that is already as dry as its limit or drier is never wetted by the cap.
pub dry_bare_cap : (m d : ℕ) → bare_limit m ≤ d → deficit_cap false m d ≡ d
unfolding deficit_cap
dry_bare_cap m d h = max-eq_left h

-- ---- B

-- A quotient of at most the whole number q is rounded to at most q.
pub halves_up_top : (n k q : ℕ) → 0 < k → n ≤ q * k → halves_up n k ≤ q
unfolding halves_up
halves_up_top n k q hk h =
    let even : 0 < 2 * k = omega arith in
    let below : halves_up n k < q + 1 = (div-lt_iff_lt-mul even).1 (omega arith) in
    omega arith

-- B is at least 2,000.
pub moisture_factor_bottom : (m d : ℕ) → 2000 ≤ moisture_factor m d
unfolding moisture_factor
moisture_factor_bottom m d = elim (dec_le (444 * m) (1000 * d)) [
  | yes h ↦ rw (le-ltb (1000 * d) (444 * m) h) (omega arith)
  | no h ↦ rw (lt-ltb (1000 * d) (444 * m) (omega arith)) (omega arith)
]

-- B is at most 10,000.
pub moisture_factor_top : (m d : ℕ) → 0 < m → moisture_factor m d ≤ 10000
unfolding moisture_factor
moisture_factor_top m d hm = elim (dec_le (444 * m) (1000 * d)) [
  | yes h ↦ rw (le-ltb (1000 * d) (444 * m) h)
      (omega (arith, halves_up_top (8000000 * (m - d)) (556 * m) 8000 (omega arith) (omega arith)))
  | no h ↦ rw (lt-ltb (1000 * d) (444 * m) (omega arith)) (omega arith)
]

-- At the largest deficit B is 2,000.
pub moisture_factor-driest : (m : ℕ) → 0 < m → moisture_factor m m ≡ 2000
unfolding moisture_factor
moisture_factor-driest m hm =
    rw (le-ltb (1000 * m) (444 * m) (omega arith))
    (omega (arith, halves_up_top (8000000 * (m - m)) (556 * m) 0 (omega arith) (omega arith)))

-- A whole quotient stays as it is.
halves_up_exact : (k q : ℕ) → 0 < k → halves_up (q * k) k ≡ q
unfolding halves_up
halves_up_exact k q hk = div-eq_of_lt-le (2 * k) (omega arith) (omega arith)

-- At the threshold, 1000 × d = 444 × M, the second case of B gives 10,000 too: a test by ≤ would be the same program.
pub moisture_factor_threshold : (m d : ℕ) → 0 < m → 1000 * d ≡ 444 * m → moisture_factor m d ≡ 10000
unfolding moisture_factor
moisture_factor_threshold m d hm h =
    let whole : 8000000 * (m - d) ≡ 8000 * (556 * m) = omega arith in
    rw (le-ltb (1000 * d) (444 * m) (omega arith), whole, halves_up_exact (556 * m) 8000 (omega arith))

-- ---- known figures of document 01, and a deficit at which the rounding of B meets an exact half

pub record WaterFigures : Type 0 where
  -- Clay 234, depth 23: a deficit of 27.50 mm gives B 7585, and M gives 2000.
  pub at_27_50_mm : moisture_factor (max_deficit 234 23) 56925000 ≡ 7585
  pub at_largest : moisture_factor (max_deficit 234 23) (max_deficit 234 23) ≡ 2000
  -- Clay 100, depth 23: 8,000,000 × (M - D) / (556 × M) is 1562.5, and B is rounded up.
  pub half_is_exact : 2 * (8000000 * (max_deficit 100 23 - 59046750)) ≡ 3125 * (556 * max_deficit 100 23)
  pub half_is_up : moisture_factor (max_deficit 100 23) 59046750 ≡ 3563

pub known_figures : WaterFigures
unfolding moisture_factor max_deficit halves_up
known_figures = record { at_27_50_mm = refl; at_largest = refl; half_is_exact = refl; half_is_up = refl }
