-- The binomial mean of a list of numbers f 0, f 1, ..: mean v f k is the sum over j of C(k, j) × v^(k - j) × f j, by Pascal's rule.
-- Its weights are numbers of 0 or more, so it keeps an order that holds at each index. Assumes nothing.
use mathlib.Core.Path.{◌≡◌, refl, sym, ◌∙◌, ap, ap₂}
use Prim.Native.Nat.{ℕ, zero, suc, ◌+◌, ◌*◌, ◌^◌, ◌≤◌}
use native.Mathlib.Nat.{pow-suc, pow-zero, le_refl, zero-mul}
use native.Mathlib.Omega.{arith}

unfoldable pub mean : ℕ → (ℕ → ℕ) → ℕ → ℕ
mean v f zero = f zero
mean v f (suc k) = v * mean v f k + mean v (λ i. f (suc i)) k

pub mean-same : (v : ℕ) (f g : ℕ → ℕ) (k : ℕ) → ((i : ℕ) → f i ≡ g i) → mean v f k ≡ mean v g k
unfolding mean
mean-same v f g zero e = e zero
mean-same v f g (suc k) e =
    ap₂ (λ x y. v * x + y) (mean-same v f g k e) (mean-same v (λ i. f (suc i)) (λ i. g (suc i)) k (λ i. e (suc i)))

pub mean-add : (v : ℕ) (f g : ℕ → ℕ) (k : ℕ) → mean v (λ i. f i + g i) k ≡ mean v f k + mean v g k
unfolding mean
mean-add v f g zero = refl
mean-add v f g (suc k) =
    let p = mean-add v f g k in
    let q = mean-add v (λ i. f (suc i)) (λ i. g (suc i)) k in
    omega (arith, ap (λ t. v * t) p, q)

pub mean_scale : (v c : ℕ) (f : ℕ → ℕ) (k : ℕ) → mean v (λ i. c * f i) k ≡ c * mean v f k
unfolding mean
mean_scale v c f zero = refl
mean_scale v c f (suc k) =
    let p = mean_scale v c f k in
    let q = mean_scale v c (λ i. f (suc i)) k in
    omega (arith, ap (λ t. v * t) p, q)

pub mean_mono : (v : ℕ) (f g : ℕ → ℕ) (k : ℕ) → ((i : ℕ) → i ≤ k → f i ≤ g i) → mean v f k ≤ mean v g k
unfolding mean
mean_mono v f g zero h = h zero (le_refl zero)
mean_mono v f g (suc k) h =
    let p : mean v f k ≤ mean v g k = mean_mono v f g k (λ i le. h i (omega arith)) in
    let q : mean v (λ i. f (suc i)) k ≤ mean v (λ i. g (suc i)) k =
    mean_mono v (λ i. f (suc i)) (λ i. g (suc i)) k (λ i le. h (suc i) (omega arith)) in
    native.Mathlib.Nat.add-le-add (native.Mathlib.Nat.mul-le-mul_left v p) q

-- the binomial theorem
pub mean-pow : (v a c : ℕ) (k : ℕ) → mean v (λ i. c * a ^ i) k ≡ c * (a + v) ^ k
unfolding mean
mean-pow v a c zero = ap (λ t. c * t) (pow-zero a ∙ sym (pow-zero (a + v)))
mean-pow v a c (suc k) =
    let p : mean v (λ i. c * a ^ i) k ≡ c * (a + v) ^ k = mean-pow v a c k in
    let same : (i : ℕ) → c * a ^ suc i ≡ c * a * a ^ i = λ i. omega (arith, ap (λ t. c * t) (pow-suc a i)) in
    let q : mean v (λ i. c * a ^ suc i) k ≡ c * a * (a + v) ^ k =
    mean-same v (λ i. c * a ^ suc i) (λ i. c * a * a ^ i) k same ∙ mean-pow v a (c * a) k in
    omega (arith, ap (λ t. v * t) p, q, ap (λ t. c * t) (pow-suc (a + v) k))

-- 0, f 0, 2 × f 1, 3 × f 2, ..: what the sums of e^(-w) are made by
unfoldable pub times : (ℕ → ℕ) → ℕ → ℕ
times f zero = 0
times f (suc i) = suc i * f i

pub mean_times : (v : ℕ) (f : ℕ → ℕ) (k : ℕ) → mean v (times f) (suc k) ≡ suc k * mean v f k
unfolding mean times
mean_times v f zero = omega arith
mean_times v f (suc k) =
    let shifted : ℕ → ℕ = λ i. f (suc i) in
    let same : (i : ℕ) → suc i * f i ≡ times shifted i + f i =
    λ i. elim i as (λ j. suc j * f j ≡ times shifted j + f j) [ zero ↦ omega arith | suc j ↦ omega arith ] in
    let p : mean v (times f) (suc k) ≡ suc k * mean v f k = mean_times v f k in
    let q : mean v (λ i. suc i * f i) (suc k) ≡ suc k * mean v shifted k + mean v f (suc k) =
    mean-same v (λ i. suc i * f i) (λ i. times shifted i + f i) (suc k) same
    ∙ mean-add v (times shifted) f (suc k)
    ∙ ap (λ t. t + mean v f (suc k)) (mean_times v shifted k) in
    omega (arith, ap (λ t. v * t) p, q)
