-- Laws of step 5: roundings, the balance to the gram, and what stands at each index.
-- Assumes nothing.
use Prim.Native.Nat.{ℕ, ◌+◌, ◌-◌, ◌≤◌}
use mathlib.Core.Path.{◌≡◌, refl, ap}
use mathlib.Core.List.{List}
use native.Mathlib.Omega.{arith}
use lib.Dec.{lit<}
use lib.ListN.{length, get_or}
use Rattle.number_units.specs.declared.Grams.{Grams}
use Rattle.step_pools.specs.Pools.{share, grams_at, total}
use Rattle.step_pools.proofs.Laws.{four_grams, share-le, share-whole}
use Rattle.step_decay.specs.Decay.{
  Survivals,
  Within,
  kept,
  lost,
  losses,
  formed,
  carbon_dioxide,
  to_bio,
  to_hum,
  split,
  decayed,
}

-- The roundings of step 5 at small numbers: of 3 g a pool at half survival keeps 1 and loses 2; of a loss of 3 g at half
-- 1 is formed and 2 are CO2; of 5 g formed BIO gains 2 (of 2.3) and HUM 3 (of 2.7).
pub known_roundings :
    (kept 3 500000000 ≡ 1) × (lost 3 500000000 ≡ 2) × (formed 3 500000 ≡ 1) × (carbon_dioxide 3 500000 ≡ 2)
    × (to_bio 5 ≡ 2) × (to_hum 5 ≡ 3)
unfolding share
known_roundings = (refl, refl, refl, refl, refl, refl)

-- A pool keeps at most what it has.
pub kept-le : (y : ℕ) {s : ℕ} → s ≤ 1000000000 → kept y s ≤ y
kept-le y h = share-le y h

-- What a pool keeps and what it loses is what it has.
pub kept-lost : (y : ℕ) {s : ℕ} → s ≤ 1000000000 → kept y s + lost y s ≡ y
kept-lost y h = omega (arith, kept-le y h)

-- What is left of a pool after its loss is what it keeps.
pub less_lost : (y : ℕ) {s : ℕ} → s ≤ 1000000000 → y - lost y s ≡ kept y s
less_lost y h = omega (arith, kept-lost y h)

-- At the survival number 1,000,000,000 a pool keeps all.
pub kept_all : (y : ℕ) → kept y 1000000000 ≡ y
kept_all y = share-whole y (lit< tt)

-- What is formed is at most the loss.
pub formed-le : (l : ℕ) {r : ℕ} → r ≤ 1000000 → formed l r ≤ l
formed-le l h = share-le l h

-- What is formed and the CO2 are the loss.
pub formed_co2 : (l : ℕ) {r : ℕ} → r ≤ 1000000 → formed l r + carbon_dioxide l r ≡ l
formed_co2 l h = omega (arith, formed-le l h)

-- BIO and HUM together gain what is formed.
pub bio-hum : (f : ℕ) → to_bio f + to_hum f ≡ f
unfolding share
bio-hum f = omega arith

-- A pool's loss is at most what it has.
pub losses-within : (pools : List Grams) (survival : List ℕ) → Within (losses pools survival) pools
unfolding losses
losses-within pools survival =
    record { dpm = omega arith; rpm = omega arith; bio = omega arith; hum = omega arith }

-- The split of the losses of step 5 is step 5: what a pool has less what it loses is what it keeps.
pub split-losses :
    (pools : List Grams) (survival : List ℕ) (r : ℕ) → Survivals survival
    → split pools (losses pools survival) r ≡ decayed pools survival r
unfolding split decayed losses
split-losses pools survival r s =
    let gain = formed (total (losses pools survival)) r in
    four_grams (less_lost _ s.dpm) (less_lost _ s.rpm)
    (ap (λ (k : ℕ). k + to_bio gain) (less_lost _ s.bio)) (ap (λ (k : ℕ). k + to_hum gain) (less_lost _ s.hum))

-- L, the sum of the four losses.
pub total-losses :
    (pools : List Grams) (survival : List ℕ)
    → total (losses pools survival)
    ≡ lost (grams_at pools 0) (get_or survival 0 0) + lost (grams_at pools 1) (get_or survival 1 0)
    + lost (grams_at pools 2) (get_or survival 2 0) + lost (grams_at pools 3) (get_or survival 3 0)
unfolding total losses
total-losses pools survival = refl

-- The balance of step 5, to the gram: the pools after it and the CO2 are the pools before it.
pub decay_balance :
    (pools : List Grams) (survival : List ℕ) (r : ℕ) → Survivals survival → r ≤ 1000000
    → total (decayed pools survival r) + carbon_dioxide (total (losses pools survival)) r ≡ total pools
unfolding total decayed losses
decay_balance pools survival r s h =
    let l = total (losses pools survival) in
    omega (
      arith,
      kept-lost (grams_at pools 0) s.dpm,
      kept-lost (grams_at pools 1) s.rpm,
      kept-lost (grams_at pools 2) s.bio,
      kept-lost (grams_at pools 3) s.hum,
      formed_co2 l h,
      bio-hum (formed l r),
    )

-- What stands at each index after step 5, and that there are four.
module _ (pools : List Grams) (survival : List ℕ) (r : ℕ) where
  pub decayed-length : length (decayed pools survival r) ≡ 4
  unfolding decayed
  decayed-length = refl

  pub decayed-dpm : grams_at (decayed pools survival r) 0 ≡ kept (grams_at pools 0) (get_or survival 0 0)
  unfolding decayed
  decayed-dpm = refl

  pub decayed-rpm : grams_at (decayed pools survival r) 1 ≡ kept (grams_at pools 1) (get_or survival 1 0)
  unfolding decayed
  decayed-rpm = refl

  pub decayed-bio :
      grams_at (decayed pools survival r) 2
      ≡ kept (grams_at pools 2) (get_or survival 2 0) + to_bio (formed (total (losses pools survival)) r)
  unfolding decayed
  decayed-bio = refl

  pub decayed-hum :
      grams_at (decayed pools survival r) 3
      ≡ kept (grams_at pools 3) (get_or survival 3 0) + to_hum (formed (total (losses pools survival)) r)
  unfolding decayed
  decayed-hum = refl
