-- e^(-w) of document 01, for a fraction w = a / b: it is fixed by the sums 1 - w + w²/2 - w³/6 + ..
-- Fractions are compared by cross products, and what a sum subtracts stands on the other side.
use Rattle.std.specs.Prelude.{◌≡◌, Bool, true, false, not, ℕ, zero, suc, ◌+◌, ◌-◌, ◌*◌, ◌^◌, ◌≤◌}
use Rattle.std.specs.Prelude.{◌<◌}

-- The denominator of the sum to term k: b^k × k!.
unfoldable pub denominator : ℕ → ℕ → ℕ
denominator b zero = 1
denominator b (suc k) = denominator b k * (b * suc k)

-- The numerator of the sum to term k in two parts: the terms of the last term's sign, and those of
-- the other sign.
unfoldable mutual
  pub agreeing : ℕ → ℕ → ℕ → ℕ
  agreeing a b zero = 1
  agreeing a b (suc k) = opposing a b k * (b * suc k) + a ^ suc k

  pub opposing : ℕ → ℕ → ℕ → ℕ
  opposing a b zero = 0
  opposing a b (suc k) = agreeing a b k * (b * suc k)

-- Term 0 has a plus, and the signs alternate.
abbrev pub ends_on_plus : ℕ → Bool
ends_on_plus zero = true
ends_on_plus (suc k) = not (ends_on_plus k)

-- x / y is at or below e^(-a/b): it passes no sum that ends on a plus term.
pub record AtOrBelow (x y a b : ℕ) : Type 0 where
  pub sum : (k : ℕ) → ends_on_plus k ≡ true → x * denominator b k + y * opposing a b k ≤ y * agreeing a b k

-- x / y is at or above e^(-a/b): it falls below no sum that ends on a minus term.
pub record AtOrAbove (x y a b : ℕ) : Type 0 where
  pub sum : (k : ℕ) → ends_on_plus k ≡ false → y * opposing a b k ≤ x * denominator b k + y * agreeing a b k

-- s is at most d from z × e^(-a/b): s - d passes no sum of the first kind (times z), s + d falls
-- below none of the second. Where d is more than s, s - d is 0 here, and like a number below 0 it
-- passes no sum.
pub record AtMostFrom (d s z a b : ℕ) : Type 0 where
  pub below : AtOrBelow (s - d) z a b
  pub above : AtOrAbove (s + d) z a b

-- n is at most a half from num / den.
pub record HalfFrom (n num den : ℕ) : Type 0 where
  pub not_above : 2 * n * den ≤ 2 * num + den
  pub not_below : 2 * num ≤ 2 * n * den + den

-- n is the whole number nearest to V(e^(-a/b)), where V(x / y) = num x y / den x y rises or falls
-- steadily with x / y: two fractions, one at or below e^(-a/b) and one at or above it, at both of
-- which V is at most a half from n.
pub record Nearest (n : ℕ) (num den : ℕ → ℕ → ℕ) (a b : ℕ) : Type 0 where
  pub low_num : ℕ
  pub low_den : ℕ
  pub high_num : ℕ
  pub high_den : ℕ
  pub low : AtOrBelow low_num low_den a b
  pub high : AtOrAbove high_num high_den a b
  pub low_is_fraction : 0 < low_den
  pub high_is_fraction : 0 < high_den
  pub at_low : HalfFrom n (num low_num low_den) (den low_num low_den)
  pub at_high : HalfFrom n (num high_num high_den) (den high_num high_den)
