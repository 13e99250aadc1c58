-- One pool's month, beside the recurrence's: how far what it keeps and what it loses are from the exact ones.
-- The two have one proof: a share s / w of y grams, rounded, beside p / r of x, where s / w and p / r are close. Assumes nothing.
use Prim.Native.Nat.{ℕ, ◌+◌, ◌-◌, ◌*◌, ◌≤◌, ◌<◌}
use native.Mathlib.Nat.{mul-sub, mul-pos, mul-le-mul_right}
use native.Mathlib.Omega.{arith}
use lib.Dec.{lit<}
use Rattle.number_exact.specs.Fraction.{Fraction, ◌⊠◌}
use Rattle.number_exact.proofs.Fraction.{At, at-whole, at-ratio, at_self, at_times, times_at, at_difference, at_product, at-distance, at-le}
use Rattle.number_exact.proofs.Close.{Near, Close}
use Rattle.step_pools.specs.Pools.{share}
use Rattle.step_decay.specs.Decay.{kept, lost}
use Rattle.step_pools.proofs.Laws.{share_floor, share_next}
use Rattle.month_demand3.specs.Recurrence.{Fractions, Allowed, exact_lost}

-- A share is at most a whole from x × part.
pub share-near : (x part whole : ℕ) → 0 < whole → Near (share x part whole * whole) (x * part) whole
share-near x part whole pos = omega (arith, share_floor x part whole, share_next x part whole pos)

-- Four fractions over one denominator.
pub record Common (q : Fractions) : Type 0 where
  pub den : ℕ
  pub positive : 0 < den
  pub dpm_num : ℕ
  pub rpm_num : ℕ
  pub bio_num : ℕ
  pub hum_num : ℕ
  pub dpm : At den q.dpm dpm_num
  pub rpm : At den q.rpm rpm_num
  pub bio : At den q.bio bio_num
  pub hum : At den q.hum hum_num

pub common : (q : Fractions) → Common q
common q =
    let a : ℕ = q.dpm.den in
    let b : ℕ = q.rpm.den in
    let c : ℕ = q.bio.den in
    let d : ℕ = q.hum.den in
    record {
      den = a * b * c * d;
      positive = mul-pos (mul-pos (mul-pos q.dpm.positive q.rpm.positive) q.bio.positive) q.hum.positive;
      dpm_num = q.dpm.num * b * c * d;
      rpm_num = a * q.rpm.num * c * d;
      bio_num = a * b * q.bio.num * d;
      hum_num = a * b * c * q.hum.num;
      dpm = at_times d (at_times c (at_times b (at_self q.dpm)));
      rpm = at_times d (at_times c (times_at a (at_self q.rpm)));
      bio = at_times d (times_at (a * b) (at_self q.bio));
      hum = times_at (a * b * c) (at_self q.hum);
    }

-- The distance of a part, over d × r × 10^9: y grams were e / d from the exact ones, of which p / r are the part.
unfoldable pub part_distance : (d r y e p : ℕ) → ℕ
part_distance d r y e p = e * p * 1000000000 + 4 * r * d * y + d * r * 1000000000

part_near :
    (d r y e p a s k : ℕ) → Near (y * d) a e → Near (s * r) (p * 1000000000) (4 * r) → Near (k * 1000000000) (y * s) 1000000000
    → Near (k * (d * r * 1000000000)) (a * p * 1000000000) (part_distance d r y e p)
unfolding part_distance
part_near d r y e p a s k pool rate rounded =
    omega (
      arith,
      mul-le-mul_right p pool.not_above,
      mul-le-mul_right p pool.not_below,
      mul-le-mul_right (y * d) rate.not_above,
      mul-le-mul_right (y * d) rate.not_below,
      mul-le-mul_right (d * r) rounded.not_above,
      mul-le-mul_right (d * r) rounded.not_below,
    )

-- What is not kept is lost: the same closeness for the rest.
rest-near :
    (r p s : ℕ) → p ≤ r → s ≤ 1000000000 → Near (s * r) (p * 1000000000) (4 * r)
    → Near ((1000000000 - s) * r) ((r - p) * 1000000000) (4 * r)
rest-near r p s h k near = omega (arith, mul-sub r 1000000000 s)

lost-near : (y s : ℕ) → s ≤ 1000000000 → Near (lost y s * 1000000000) (y * (1000000000 - s)) 1000000000
lost-near y s h = omega (arith, mul-sub y 1000000000 s, share-near y s 1000000000 (lit< tt))

-- What is allowed, over a denominator of the survival fraction.
module _ {r p s : ℕ} {q : Fraction} (at : At r q p) (allowed : Allowed q s) where
  pub allowed_le : p ≤ r
  allowed_le = omega (arith, at-le at (at-whole r 1) allowed.at_most_one)

  pub allowed_near : Near (s * r) (p * 1000000000) (4 * r)
  allowed_near =
      let number = times_at r (at-ratio s 1000000000 (lit< tt)) in
      let most = times_at r (at-ratio 4 1000000000 (lit< tt)) in
      omega (arith, at-le (at-distance (at_times 1000000000 at) number) most allowed.near)

module _ {d r y e p s : ℕ} {x q : Fraction} (pool : Close d y x e) (at : At r q p) (allowed : Allowed q s) where
  pub close-kept : Close (d * r * 1000000000) (kept y s) (x ⊠ q) (part_distance d r y e p)
  close-kept =
      record {
        num = pool.num * p * 1000000000;
        at = at_times 1000000000 (at_product pool.at at);
        near =
            part_near d r y e p pool.num s (kept y s) pool.near (allowed_near at allowed)
            (share-near y s 1000000000 (lit< tt));
      }

  pub close-lost : s ≤ 1000000000 → Close (d * r * 1000000000) (lost y s) (exact_lost x q) (part_distance d r y e (r - p))
  close-lost h =
      record {
        num = pool.num * (r - p) * 1000000000;
        at =
            rw (mul-sub pool.num r p)
            (at_times 1000000000 (at_difference (at_times r pool.at) (at_product pool.at at)));
        near =
            part_near d r y e (r - p) pool.num (1000000000 - s) (lost y s) pool.near
            (rest-near r p s (allowed_le at allowed) h (allowed_near at allowed)) (lost-near y s h);
      }

-- Of the distance e / d at most a quarter of what is lost comes back: four times what is kept and once what is lost.
pub part_sum :
    (d r y e p : ℕ) → p ≤ r
    → 4 * part_distance d r y e p + part_distance d r y e (r - p)
    ≤ 4 * (e * r * 1000000000) + 20 * (d * r * y) + 5 * (d * r * 1000000000)
unfolding part_distance
part_sum d r y e p h = omega (arith, mul-sub e r p, mul-le-mul_right e h)
