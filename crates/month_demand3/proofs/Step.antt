-- The one-month step of demand 3 (b): a month takes the four pools at most 19 grams further from the recurrence's, in all.
-- The roundings of what is kept cost 4, the closeness of the survival numbers 4, a quarter of both for the losses 2, formed
-- and its split 3, the additions 6. Everything is brought to one denominator. Assumes nothing.
use mathlib.Core.List.{List}
use Prim.Native.Nat.{ℕ, ◌+◌, ◌-◌, ◌*◌, ◌≤◌, ◌<◌}
use native.Mathlib.Nat.{le_refl, mul-pos, mul-le-mul_left, mul-le-mul_right}
use native.Mathlib.Omega.{arith}
use lib.Dec.{lit<}
use Rattle.number_units.specs.declared.Grams.{Grams}
use Rattle.number_exact.specs.Fraction.{Fraction, ◌≼◌, ratio, whole, ◌⊞◌, ◌⊠◌}
use Rattle.number_exact.proofs.Fraction.{At, at-whole, at_times, at_sum, at-distance, le-at}
use Rattle.number_exact.proofs.Close.{Near, Close, close_self, close_times, times_close, close-sum, close-share, close-distance, close-most}
use Rattle.step_factors.specs.Factors.{clay_number}
use Rattle.step_decay.specs.Rates.{survivals}
use Rattle.step_pools.specs.Pools.{share, grams_at, total}
use Rattle.step_decay.specs.Decay.{Survivals, losses, formed, to_bio, to_hum, decayed}
use Rattle.step_additions.specs.Additions.{added}
use Rattle.step_turnover.specs.Turnover.{turned_over}
use Rattle.month_state.specs.declared.Soil.{Soil}
use Rattle.month_state.specs.declared.State.{State}
use Rattle.month_state.specs.declared.Entries.{Entries}
use Rattle.month_call.specs.Month.{pools_after, moved_to}
use Rattle.month_demand3.specs.Recurrence.{Exact, Fractions, AllowedAt, exact_loss, exact_formed, exact_month}
use Rattle.month_demand3.specs.Demand.{total_distance}
use Rattle.month_demand3.proofs.Part.{share-near, Common, common, part_distance, allowed_le, close-kept, close-lost, part_sum}
use Rattle.month_demand3.proofs.Additions.{close-plant, close-plant-rest, close-manure-dpm, close-manure-hum, close-manure-rest}

-- Four pools are, in all, at most w from the recurrence's: each distance, and w, over one denominator.
record Apart (pools : List Grams) (x : Exact) (w : Fraction) : Type 0 where
  den : ℕ
  positive : 0 < den
  dpm_distance : ℕ
  rpm_distance : ℕ
  bio_distance : ℕ
  hum_distance : ℕ
  dpm : Close den (grams_at pools 0) x.dpm dpm_distance
  rpm : Close den (grams_at pools 1) x.rpm rpm_distance
  bio : Close den (grams_at pools 2) x.bio bio_distance
  hum : Close den (grams_at pools 3) x.hum hum_distance
  most : ℕ
  at : At den w most
  sum : dpm_distance + rpm_distance + bio_distance + hum_distance ≤ most

-- Any four are at most the sum of their distances from them, ..
apart_self : (t : State) (x : Exact) → Apart t.soil.pools x (total_distance t x)
apart_self t x =
    let c = common (record { dpm = x.dpm; rpm = x.rpm; bio = x.bio; hum = x.hum }) in
    let y : ℕ → ℕ = grams_at t.soil.pools in
    let d : ℕ = c.den in
    record {
      den = d;
      positive = c.positive;
      dpm_distance = _;
      rpm_distance = _;
      bio_distance = _;
      hum_distance = _;
      dpm = close_self (y 0) c.dpm;
      rpm = close_self (y 1) c.rpm;
      bio = close_self (y 2) c.bio;
      hum = close_self (y 3) c.hum;
      most = _;
      at =
          at_sum
          (at_sum (at_sum (at-distance (at-whole d (y 0)) c.dpm) (at-distance (at-whole d (y 1)) c.rpm))
          (at-distance (at-whole d (y 2)) c.bio)) (at-distance (at-whole d (y 3)) c.hum);
      sum = le_refl _;
    }

-- .. and if they are at most w from them, so is that sum.
apart_most : (t : State) (x : Exact) (w : Fraction) → Apart t.soil.pools x w → total_distance t x ≼ w
apart_most t x w h =
    le-at
    (at_sum (at_sum (at_sum (close-distance h.dpm) (close-distance h.rpm)) (close-distance h.bio)) (close-distance h.hum))
    h.at h.positive
    (omega (arith, close-most h.dpm, close-most h.rpm, close-most h.bio, close-most h.hum, h.sum))

hum-near : (f : ℕ) → Near (to_hum f * 100) (f * 54) 100
unfolding share
hum-near f = omega arith

-- What is formed of a loss l that is g / b from the exact one, and its split.
module _ {b l g : ℕ} {loss : Fraction} (r : ℕ) (h : Close b l loss g) where
  formed_distance : ℕ
  formed_distance = g * r + b * 1000000

  close-formed : Close (b * 1000000) (formed l r) (loss ⊠ ratio r 1000000 (lit< tt)) formed_distance
  unfolding formed_distance
  close-formed = close-share (formed l r) r 1000000 (lit< tt) h (share-near l r 1000000 (lit< tt))

  close-bio :
      Close (b * 1000000 * 100) (to_bio (formed l r)) (loss ⊠ ratio r 1000000 (lit< tt) ⊠ ratio 46 100 (lit< tt))
      (formed_distance * 46 + b * 1000000 * 100)
  close-bio = close-share (to_bio (formed l r)) 46 100 (lit< tt) close-formed (share-near (formed l r) 46 100 (lit< tt))

  close-hum :
      Close (b * 1000000 * 100) (to_hum (formed l r)) (loss ⊠ ratio r 1000000 (lit< tt) ⊠ ratio 54 100 (lit< tt))
      (formed_distance * 54 + b * 1000000 * 100)
  close-hum = close-share (to_hum (formed l r)) 54 100 (lit< tt) close-formed (hum-near (formed l r))

-- The distances of the parts, added: over b, at most those of the pools and 10 grams, with a quarter of the losses'.
parts_add :
    (d r m y₀ y₁ y₂ y₃ e₀ e₁ e₂ e₃ f g : ℕ) → y₀ + y₁ + y₂ + y₃ ≤ 1000000000 → e₀ + e₁ + e₂ + e₃ ≤ m
    → 4 * f + g
    ≤ 4 * ((e₀ + e₁ + e₂ + e₃) * r * 1000000000) + 20 * (d * r * (y₀ + y₁ + y₂ + y₃)) + 20 * (d * r * 1000000000)
    → 4 * f + g ≤ 4 * (m * r * 1000000000) + 40 * (d * r * 1000000000)
parts_add d r m y₀ y₁ y₂ y₃ e₀ e₁ e₂ e₃ f g fits sum h =
    omega (arith, mul-le-mul_left (d * r) fits, mul-le-mul_right r sum)

four_parts :
    (d r y₀ y₁ y₂ y₃ e₀ e₁ e₂ e₃ f₀ f₁ f₂ f₃ g₀ g₁ g₂ g₃ : ℕ)
    → 4 * f₀ + g₀ ≤ 4 * (e₀ * r * 1000000000) + 20 * (d * r * y₀) + 5 * (d * r * 1000000000)
    → 4 * f₁ + g₁ ≤ 4 * (e₁ * r * 1000000000) + 20 * (d * r * y₁) + 5 * (d * r * 1000000000)
    → 4 * f₂ + g₂ ≤ 4 * (e₂ * r * 1000000000) + 20 * (d * r * y₂) + 5 * (d * r * 1000000000)
    → 4 * f₃ + g₃ ≤ 4 * (e₃ * r * 1000000000) + 20 * (d * r * y₃) + 5 * (d * r * 1000000000)
    → 4 * (f₀ + f₁ + f₂ + f₃) + (g₀ + g₁ + g₂ + g₃)
    ≤ 4 * ((e₀ + e₁ + e₂ + e₃) * r * 1000000000) + 20 * (d * r * (y₀ + y₁ + y₂ + y₃)) + 20 * (d * r * 1000000000)
four_parts d r y₀ y₁ y₂ y₃ e₀ e₁ e₂ e₃ f₀ f₁ f₂ f₃ g₀ g₁ g₂ g₃ h₀ h₁ h₂ h₃ = omega arith

-- The month's sum: the parts, formed and its split, and the additions' six roundings.
month-sum :
    (b m r f₀ f₁ f₂ f₃ g : ℕ) → r ≤ 250000 → 4 * (f₀ + f₁ + f₂ + f₃) + g ≤ 4 * m + 40 * b
    → (f₀ * 1000000 * 100 * 50935 + b * 1000000 * 100 * 50935 + b * 1000000 * 100 * 50935)
    + (f₁ * 1000000 * 100 * 50935 + b * 1000000 * 100 * 50935 + b * 1000000 * 200 * 50935)
    + (f₂ * 1000000 * 100 * 50935 + ((g * r + b * 1000000) * 46 + b * 1000000 * 100) * 50935)
    + (f₃ * 1000000 * 100 * 50935 + ((g * r + b * 1000000) * 54 + b * 1000000 * 100) * 50935 + b * 1000000 * 100 * 50935)
    ≤ m * 1000000 * 100 * 50935 + 19 * (b * 1000000 * 100 * 50935)
month-sum b m r f₀ f₁ f₂ f₃ g clay h = omega (arith, mul-le-mul_left g clay)

module _ (s : Soil) (e : Entries) (q : Fractions) (c : Common q) (x : Exact) (n : ℕ) (w : Fraction)
    (fits : total s.pools ≤ 1000000000) (clay : clay_number s.clay ≤ 250000) (survival : Survivals (survivals n))
    (allowed : AllowedAt q n) (h : Apart s.pools x w) where
  -- over this denominator stand what is kept and what is lost, ..
  base : ℕ
  base = h.den * c.den * 1000000000

  -- .. and at this distance a part p / c.den of the pool at index i, whose own distance is a
  abbrev part : (i a p : ℕ) → ℕ
  part i a p = part_distance h.den c.den (grams_at s.pools i) a p

  loss_distance : ℕ
  loss_distance =
      part 0 h.dpm_distance (c.den - c.dpm_num) + part 1 h.rpm_distance (c.den - c.rpm_num)
      + part 2 h.bio_distance (c.den - c.bio_num) + part 3 h.hum_distance (c.den - c.hum_num)

  close_loss : Close base (total (losses s.pools (survivals n))) (exact_loss x q) loss_distance
  unfolding base loss_distance total losses exact_loss survivals
  close_loss =
      close-sum
      (close-sum
      (close-sum (close-lost h.dpm c.dpm allowed.dpm survival.dpm)
      (close-lost h.rpm c.rpm allowed.rpm survival.rpm))
      (close-lost h.bio c.bio allowed.bio survival.bio))
      (close-lost h.hum c.hum allowed.hum survival.hum)

  parts :
      4
      * (part 0 h.dpm_distance c.dpm_num + part 1 h.rpm_distance c.rpm_num + part 2 h.bio_distance c.bio_num
      + part 3 h.hum_distance c.hum_num)
      + loss_distance
      ≤ 4 * (h.most * c.den * 1000000000) + 40 * base
  unfolding base loss_distance total
  parts =
      parts_add _ _ _ _ _ _ _ _ _ _ _ _ _ fits h.sum
      (four_parts _ _ _ _ _ _ _ _ _ _ _ _ _ _ _ _ _ _
      (part_sum _ _ _ _ _ (allowed_le c.dpm allowed.dpm))
      (part_sum _ _ _ _ _ (allowed_le c.rpm allowed.rpm))
      (part_sum _ _ _ _ _ (allowed_le c.bio allowed.bio))
      (part_sum _ _ _ _ _ (allowed_le c.hum allowed.hum)))

  -- the denominator of the new pools
  abbrev den' : ℕ
  den' = base * 1000000 * 100 * 50935

  from_base : {m f : ℕ} {y : Fraction} → Close base m y f → Close den' m y (f * 1000000 * 100 * 50935)
  from_base k = close_times 50935 (close_times 100 (close_times 1000000 k))

  from_hundredths : {m f : ℕ} {y : Fraction} → Close 100 m y f → Close den' m y (base * 1000000 * f * 50935)
  from_hundredths k = close_times 50935 (times_close (base * 1000000) k)

  month_apart : Apart (pools_after s n e.land) (exact_month s e q x) (w ⊞ whole 19)
  unfolding pools_after turned_over added decayed survivals exact_month exact_formed formed_distance base
  month_apart =
      record {
        den = den';
        positive =
            mul-pos
            (mul-pos (mul-pos (mul-pos (mul-pos h.positive c.positive) (lit< tt)) (lit< tt)) (lit< tt)) (lit< tt);
        dpm_distance = _;
        rpm_distance = _;
        bio_distance = _;
        hum_distance = _;
        dpm =
            close-sum
            (close-sum (from_base (close-kept h.dpm c.dpm allowed.dpm))
            (times_close (base * 1000000 * 100) (close-plant s e.land))) (from_hundredths (close-manure-dpm e.land));
        rpm =
            close-sum
            (close-sum (from_base (close-kept h.rpm c.rpm allowed.rpm))
            (times_close (base * 1000000 * 100) (close-plant-rest s e.land))) (from_hundredths (close-manure-rest e.land));
        bio =
            close-sum (from_base (close-kept h.bio c.bio allowed.bio))
            (close_times 50935 (close-bio (clay_number s.clay) close_loss));
        hum =
            close-sum
            (close-sum (from_base (close-kept h.hum c.hum allowed.hum))
            (close_times 50935 (close-hum (clay_number s.clay) close_loss))) (from_hundredths (close-manure-hum e.land));
        most = _;
        at =
            at_sum
            (at_times 50935 (at_times 100 (at_times 1000000 (at_times 1000000000 (at_times c.den h.at)))))
            (at-whole den' 19);
        sum = month-sum base _ (clay_number s.clay) _ _ _ _ loss_distance clay parts;
      }

-- The step. (The month's new deficit d plays no part.)
pub month-distance :
    (t : State) (e : Entries) (d n : ℕ) (q : Fractions) (x : Exact) → total t.soil.pools ≤ 1000000000
    → clay_number t.soil.clay ≤ 250000 → Survivals (survivals n) → AllowedAt q n
    → total_distance (moved_to t e.land d n) (exact_month t.soil e q x) ≼ total_distance t x ⊞ whole 19
unfolding moved_to
month-distance t e d n q x fits clay survival allowed =
    apart_most (moved_to t e.land d n) (exact_month t.soil e q x) (total_distance t x ⊞ whole 19)
    (month_apart t.soil e q (common q) x n (total_distance t x) fits clay survival allowed (apart_self t x))
