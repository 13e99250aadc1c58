-- Fractions over a denominator: what a sum, a difference, a product and a distance come to over one denominator, the order
-- there, and how far a fraction is from a whole number. Each law is a cross product, multiplied out. Assumes nothing.
use mathlib.Core.Path.{◌≡◌, ap, ap₂}
use Prim.Native.Nat.{ℕ, ◌+◌, ◌-◌, ◌*◌, ◌≤◌, ◌<◌}
use native.Mathlib.Nat.{mul-sub, mul-pos, mul-le-mul_left, le_of_mul-le-mul_left}
use native.Mathlib.Omega.{arith}
use Rattle.number_exact.specs.Fraction.{Fraction, ◌≼◌, ratio, whole, ◌⊞◌, ◌⊟◌, ◌⊠◌, distance}

-- x is a / d.
pub record At (d : ℕ) (x : Fraction) (a : ℕ) : Type 0 where
  pub same : x.num * d ≡ a * x.den

sum_same : (d m n a k l b : ℕ) → m * d ≡ a * n → k * d ≡ b * l → (m * l + k * n) * d ≡ (a + b) * (n * l)
sum_same d m n a k l b e f = omega (arith, ap (λ t. t * l) e, ap (λ t. t * n) f)

difference_same : (d m n a k l b : ℕ) → m * d ≡ a * n → k * d ≡ b * l → (m * l - k * n) * d ≡ (a - b) * (n * l)
difference_same d m n a k l b e f =
    omega (arith, mul-sub d (m * l) (k * n), mul-sub (n * l) a b, ap (λ t. t * l) e, ap (λ t. t * n) f)

product_same : (d c m n a k l b : ℕ) → m * d ≡ a * n → k * c ≡ b * l → m * k * (d * c) ≡ a * b * (n * l)
product_same d c m n a k l b e f = omega (arith, ap₂ ◌*◌ e f)

-- A whole number, and a ratio over its own denominator.
pub at-whole : (d n : ℕ) → At d (whole n) (n * d)
at-whole d n = record { same = omega arith }

pub at-ratio : (n d : ℕ) (pos : 0 < d) → At d (ratio n d pos) n
at-ratio n d pos = record { same = omega arith }

pub at_self : (x : Fraction) → At x.den x x.num
at_self x = record { same = omega arith }

-- Over a multiple of the denominator.
pub at_times : {d : ℕ} {x : Fraction} {a : ℕ} (c : ℕ) → At d x a → At (d * c) x (a * c)
at_times {d} {x} {a} c h = record { same = omega (arith, ap (λ t. t * c) h.same) }

pub times_at : {d : ℕ} {x : Fraction} {a : ℕ} (c : ℕ) → At d x a → At (c * d) x (c * a)
times_at {d} {x} {a} c h = record { same = omega (arith, ap (λ t. c * t) h.same) }

module _ {d : ℕ} {x y : Fraction} {a b : ℕ} where
  pub at_sum : At d x a → At d y b → At d (x ⊞ y) (a + b)
  unfolding ◌⊞◌
  at_sum h k = record { same = sum_same d x.num x.den a y.num y.den b h.same k.same }

  pub at_difference : At d x a → At d y b → At d (x ⊟ y) (a - b)
  unfolding ◌⊟◌
  at_difference h k = record { same = difference_same d x.num x.den a y.num y.den b h.same k.same }

  pub at_product : {c : ℕ} → At d x a → At c y b → At (d * c) (x ⊠ y) (a * b)
  unfolding ◌⊠◌
  at_product {c} h k = record { same = product_same d c x.num x.den a y.num y.den b h.same k.same }

pub at-distance : {d : ℕ} {x y : Fraction} {a b : ℕ} → At d x a → At d y b → At d (distance x y) (a - b + (b - a))
unfolding distance
at-distance h k = at_sum (at_difference h k) (at_difference k h)

-- The order is that of the numerators.
le_there : (d m n a k l b : ℕ) → 0 < n * l → m * d ≡ a * n → k * d ≡ b * l → m * l ≤ k * n → a ≤ b
le_there d m n a k l b pos e f le =
    le_of_mul-le-mul_left {k = n * l} (omega (arith, ap (λ t. t * l) e, ap (λ t. t * n) f, mul-le-mul_left d le)) pos

le-back : (d m n a k l b : ℕ) → 0 < d → m * d ≡ a * n → k * d ≡ b * l → a ≤ b → m * l ≤ k * n
le-back d m n a k l b pos e f le =
    le_of_mul-le-mul_left {k = d} (omega (arith, ap (λ t. t * l) e, ap (λ t. t * n) f, mul-le-mul_left (n * l) le)) pos

module _ {d : ℕ} {x y : Fraction} {a b : ℕ} (h : At d x a) (k : At d y b) where
  pub at-le : x ≼ y → a ≤ b
  at-le le =
      le_there d x.num x.den a y.num y.den b (mul-pos x.positive y.positive) h.same k.same le.cross

  pub le-at : 0 < d → a ≤ b → x ≼ y
  le-at pos le = record { cross = le-back d x.num x.den a y.num y.den b pos h.same k.same le }

-- The order goes on, and a whole number more is at most a whole number more.
trans_cross : (a b c d e f : ℕ) → 0 < d → a * d ≤ c * b → c * f ≤ e * d → a * f ≤ e * b
trans_cross a b c d e f pos first second =
    le_of_mul-le-mul_left {k = d} (omega (arith, mul-le-mul_left f first, mul-le-mul_left b second)) pos

pub ≼_trans : {x y z : Fraction} → x ≼ y → y ≼ z → x ≼ z
≼_trans {x} {y} {z} h k =
    record { cross = trans_cross x.num x.den y.num y.den z.num z.den y.positive h.cross k.cross }

pub sum-most : {x : Fraction} {n : ℕ} (m k : ℕ) → n + m ≤ k → x ≼ whole n → x ⊞ whole m ≼ whole k
sum-most {x} {n} m k le h =
    let d : ℕ = x.den in
    le-at (at_sum (at_self x) (at-whole d m)) (at-whole d k) x.positive
    (omega (arith, at-le (at_self x) (at-whole d n) h, mul-le-mul_left d le))
