-- The addition law: the two parts of the sum for (a + v) / b are binomial means of those for a / b.
-- Both sides obey the same recurrence in k, which the mean keeps (mean_times, mean-pow). Assumes nothing.
use mathlib.Core.Path.{◌≡◌, refl, ◌∙◌, ap}
use Prim.Native.Nat.{ℕ, zero, suc, ◌+◌, ◌*◌, ◌^◌}
use native.Mathlib.Nat.{pow-zero}
use native.Mathlib.Omega.{arith}
use Rattle.number_exact.specs.Exponential.{agreeing, opposing}
use Rattle.number_exact.proofs.Mean.{mean, times, mean-same, mean-add, mean_scale, mean-pow, mean_times}

module _ (a b v : ℕ) where
  -- the recurrence of the two parts, at every index at once
  agreeing_is : (i : ℕ) → agreeing a b i ≡ b * times (opposing a b) i + 1 * a ^ i
  unfolding agreeing opposing times
  agreeing_is zero = omega (arith, pow-zero a)
  agreeing_is (suc i) = omega arith

  opposing_is : (i : ℕ) → opposing a b i ≡ b * times (agreeing a b) i
  unfolding agreeing opposing times
  opposing_is zero = omega arith
  opposing_is (suc i) = omega arith

  agreeing-mean : (k : ℕ) → mean v (agreeing a b) (suc k) ≡ b * (suc k * mean v (opposing a b) k) + (a + v) ^ suc k
  agreeing-mean k =
      let split = mean-same v (agreeing a b) (λ i. b * times (opposing a b) i + 1 * a ^ i) (suc k) agreeing_is in
      let sum = mean-add v (λ i. b * times (opposing a b) i) (λ i. 1 * a ^ i) (suc k) in
      let left = mean_scale v b (times (opposing a b)) (suc k) in
      let inner = ap (λ t. b * t) (mean_times v (opposing a b) k) in
      let right = mean-pow v a 1 (suc k) in
      omega (arith, split, sum, left, inner, right)

  opposing-mean : (k : ℕ) → mean v (opposing a b) (suc k) ≡ b * (suc k * mean v (agreeing a b) k)
  opposing-mean k =
      mean-same v (opposing a b) (λ i. b * times (agreeing a b) i) (suc k) opposing_is
      ∙ mean_scale v b (times (agreeing a b)) (suc k)
      ∙ ap (λ t. b * t) (mean_times v (agreeing a b) k)

  pub addition : (k : ℕ) → (agreeing (a + v) b k ≡ mean v (agreeing a b) k) × (opposing (a + v) b k ≡ mean v (opposing a b) k)
  unfolding agreeing opposing mean
  addition zero = (refl, refl)
  addition (suc k) =
      let ih = addition k in
      (omega (arith, ap (λ t. b * suc k * t) ih.1, agreeing-mean k), omega (arith, ap (λ t. b * suc k * t) ih.0, opposing-mean k))
