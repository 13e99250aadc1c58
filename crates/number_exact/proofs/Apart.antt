-- The definitions fix what they name: two numbers at most d from one value are at most 2 × d apart, and two nearest numbers at most 1.
-- Assumes nothing.
use Prim.Native.Nat.{ℕ, ◌+◌, ◌-◌, ◌*◌, ◌≤◌, ◌<◌}
use native.Mathlib.Nat.{mul-pos, mul-le-mul_left, le_of_mul-le-mul_left}
use native.Mathlib.Omega.{arith}
use Rattle.number_exact.specs.Exponential.{AtMostFrom, HalfFrom, Nearest}
use Rattle.number_exact.proofs.Order.{below-above}

pub apart : {d s t z a b : ℕ} → 0 < b → 0 < z → AtMostFrom d s z a b → AtMostFrom d t z a b → s ≤ t + 2 * d
apart {d} {s} {t} {z} posb posz h h' =
    let le : s - d ≤ t + d = le_of_mul-le-mul_left {k = z} (omega (arith, below-above posb h.below h'.above)) posz in
    omega (arith, le)

-- numbers at most a half from two values, of which the first is at most the second
halves : (n m p q p' q' : ℕ) → 0 < q → 0 < q' → HalfFrom n p q → HalfFrom m p' q' → p * q' ≤ p' * q → n ≤ m + 1
halves n m p q p' q' pos pos' h h' le =
    let both : q * q' * n ≤ q * q' * (m + 1) =
    omega (arith, mul-le-mul_left q' h.not_above, mul-le-mul_left q h'.not_below, le) in
    le_of_mul-le-mul_left both (mul-pos pos pos')

module _ {num den : ℕ → ℕ → ℕ} {a b : ℕ} (posb : 0 < b) (positive : (x y : ℕ) → 0 < y → 0 < den x y) where
  -- where the value rises with the fraction
  pub rising :
      {n m : ℕ} → ((x y p q : ℕ) → x * q ≤ p * y → num x y * den p q ≤ num p q * den x y)
      → Nearest n num den a b → Nearest m num den a b → n ≤ m + 1
  rising {n} {m} up h h' =
      halves n m (num h.low_num h.low_den) (den h.low_num h.low_den) (num h'.high_num h'.high_den) (den h'.high_num h'.high_den)
      (positive h.low_num h.low_den h.low_is_fraction) (positive h'.high_num h'.high_den h'.high_is_fraction) h.at_low h'.at_high
      (up h.low_num h.low_den h'.high_num h'.high_den (below-above posb h.low h'.high))

  -- where it falls
  pub falling :
      {n m : ℕ} → ((x y p q : ℕ) → x * q ≤ p * y → num p q * den x y ≤ num x y * den p q)
      → Nearest n num den a b → Nearest m num den a b → n ≤ m + 1
  falling {n} {m} down h h' =
      halves n m (num h.high_num h.high_den) (den h.high_num h.high_den) (num h'.low_num h'.low_den) (den h'.low_num h'.low_den)
      (positive h.high_num h.high_den h.high_is_fraction) (positive h'.low_num h'.low_den h'.low_is_fraction) h.at_high h'.at_low
      (down h'.low_num h'.low_den h.high_num h.high_den (below-above posb h'.low h.high))
