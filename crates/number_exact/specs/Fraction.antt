-- Fractions of document 01: a whole number over a whole number above 0, compared by cross products.
use Rattle.std.specs.Prelude.{ℕ, ◌+◌, ◌-◌, ◌*◌, ◌≤◌, ◌<◌}
use Rattle.std.proofs.Common.{mul-pos, lit<}

pub record Fraction : Type 0 where
  pub num : ℕ
  pub den : ℕ
  pub positive : 0 < den

-- x is at most y.
infix 50 ◌≼◌
pub record ◌≼◌ (x y : Fraction) : Type 0 where
  pub cross : x.num * y.den ≤ y.num * x.den

-- n / d.
abbrev pub ratio : (n d : ℕ) → 0 < d → Fraction
ratio n d above = record { num = n; den = d; positive = above }

-- A whole number.
abbrev pub whole : ℕ → Fraction
whole n = ratio n 1 (lit< tt)

infixl 60 ◌⊞◌ ◌⊟◌
infixl 70 ◌⊠◌
-- The sum.
unfoldable pub ◌⊞◌ : Fraction → Fraction → Fraction
x ⊞ y =
    ratio (x.num * y.den + y.num * x.den) (x.den * y.den) (mul-pos x.positive y.positive)

-- The difference, 0 where y is more than x.
unfoldable pub ◌⊟◌ : Fraction → Fraction → Fraction
x ⊟ y =
    ratio (x.num * y.den - y.num * x.den) (x.den * y.den) (mul-pos x.positive y.positive)

-- The product.
unfoldable pub ◌⊠◌ : Fraction → Fraction → Fraction
x ⊠ y = ratio (x.num * y.num) (x.den * y.den) (mul-pos x.positive y.positive)

-- The distance: the larger less the smaller. One of the two differences is 0.
unfoldable pub distance : Fraction → Fraction → Fraction
distance x y = (x ⊟ y) ⊞ (y ⊟ x)
