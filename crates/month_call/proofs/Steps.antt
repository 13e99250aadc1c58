-- The steps of an accepted month within their ranges: A, R, the new deficit, the rate number, the survival numbers, and the
-- balance of the pools and the month's CO2 to the gram.
-- Assumes nothing.
use mathlib.Core.Path.{◌≡◌, refl, sym}
use mathlib.Core.Bool.{Bool, true, false}
use mathlib.Core.List.{List}
use Prim.Native.Nat.{ℕ, ◌+◌, ◌≤◌, ◌<◌}
use native.Mathlib.Nat.{mul-le-mul}
use native.Mathlib.Omega.{arith}
use lib.Dec.{lit≤, leb→le}
use lib.IntN.{ℤ, pos, negsuc, nat_abs}
use lib.Signed.{lt_z, ◌≤ℤ◌}
use mir.Syntax.{w64}
use mir.Val.{to_z, of_z}
use Rattle.number_units.specs.declared.Grams.{Grams}
use Rattle.step_factors.specs.Factors.{temperature_factor, clay_number}
use Rattle.step_factors.proofs.Laws.{clay-most}
use Rattle.step_factors.proofs.Places.{place, below_table, in_table}
use Rattle.step_water.proofs.Laws.{max_deficit_top, max_deficit-positive, moisture_factor_top, new_deficit_top}
use Rattle.step_survival.specs.Survival.{cover_factor, rate_number}
use Rattle.step_survival.proofs.Laws.{is_survival}
use Rattle.step_decay.specs.Rates.{survivals}
use Rattle.step_pools.specs.Pools.{total}
use Rattle.step_decay.specs.Decay.{Survivals}
use Rattle.step_turnover.proofs.Laws.{turned_balance, modern_turned_most}
use Rattle.month_state.proofs.Signed.{read}
use Rattle.month_state.specs.declared.Soil.{Soil}
use Rattle.month_state.specs.declared.State.{State}
use Rattle.month_state.specs.declared.Land.{Land}
use Rattle.month_state.specs.declared.Entries.{Entries}
use Rattle.month_refusals.proofs.Accepted.{SoundSoil, Sound, LandReady, Ready, Between, natural_most}
use Rattle.month_call.specs.Month.{crop, largest_deficit, deficit_after, rate_after, next_deficit, next_rate, pools_after, gas_of, modern_after}

-- A temperature in its range goes to a call as bits, and is read back as the same number.
pub temperature_back : (t : ℤ) → Between (negsuc 399) (pos 500) t → to_z w64 (of_z w64 t) ≡ t
temperature_back (pos n) h = let m = leb→le n 500 h.to.le in read (pos n) (omega (arith, m))
temperature_back (negsuc n) h = let m = leb→le n 399 h.from.le in read (negsuc n) (omega (arith, m))

temperature_by : (t : ℤ) (b : Bool) → lt_z t (negsuc 49) ≡ b → t ≤ℤ pos 500 → temperature_factor t ≤ 83639
temperature_by t true low high = rw (sym (below_table t low).0) (lit≤ tt)
temperature_by t false low high =
    let p = place t low high in
    let q = in_table t p.0 p.1 p.2 in
    rw (sym q.0) q.2

-- A is at most 83,639.
pub temperature_most : (t : ℤ) → t ≤ℤ pos 500 → temperature_factor t ≤ 83639
temperature_most t high = temperature_by t (lt_z t (negsuc 49)) refl high

-- R is at most 244,467.
pub clay-number-most : (clay : ℕ) → clay ≤ 1000 → clay_number clay ≤ 244467
unfolding clay_number
clay-number-most clay h = clay-most clay h

cover-most : (b : Bool) → cover_factor b ≤ 10
cover-most true = lit≤ tt
cover-most false = lit≤ tt

-- M of a sound soil is above 0 and at most 560,250,000.
pub deficit_range : (s : Soil) → SoundSoil s → (0 < largest_deficit s) × (largest_deficit s ≤ 560250000)
deficit_range s h =
    (max_deficit-positive s.clay s.depth h.clay h.shallowest, max_deficit_top s.clay s.depth h.deepest)

-- The rate number is at most 8,363,900,000: A times B times 10.
pub rate_most :
    (s : Soil) (d : ℕ) (e : Entries) → SoundSoil s → e.weather.temperature ≤ℤ pos 500 → rate_after s d e ≤ 8363900000
unfolding rate_after rate_number
rate_most s d e h t =
    mul-le-mul
    (mul-le-mul (temperature_most e.weather.temperature t) (moisture_factor_top (largest_deficit s) d (deficit_range s h).0))
    (cover-most (crop e.land))

pub state_rate_most : (s : State) (e : Entries) → Sound s → Ready s e → next_rate s e ≤ 8363900000
unfolding next_rate
state_rate_most s e h r = rate_most s.soil (next_deficit s e) e h.soil r.weather.temperature.to

-- The new deficit is at most M.
pub deficit-most : (s : State) (e : Entries) → Sound s → next_deficit s e ≤ largest_deficit s.soil
unfolding next_deficit deficit_after
deficit-most s e h = new_deficit_top _ _ _ _ _ _ h.deficit

-- The survival numbers are at most 1,000,000,000.
pub survivals_in_range : (n : ℕ) → n ≤ 8363900000 → Survivals (survivals n)
unfolding survivals
survivals_in_range n h =
    record {
      dpm = (is_survival n 1000 h (lit≤ tt)).in_range;
      rpm = (is_survival n 30 h (lit≤ tt)).in_range;
      bio = (is_survival n 66 h (lit≤ tt)).in_range;
      hum = (is_survival n 2 h (lit≤ tt)).in_range;
    }

-- The balance of a month: the pools after it and its CO2 are the pools before it, the plant carbon and the manure.
pub month-balance :
    (s : Soil) (n : ℕ) (l : Land) → SoundSoil s → n ≤ 8363900000
    → total (pools_after s n l) + gas_of s n ≡ total s.pools + nat_abs l.plant + nat_abs l.manure
unfolding pools_after gas_of
month-balance s n l h m =
    turned_balance s.pools (survivals n) (clay_number s.clay) s.kind (nat_abs l.plant) (nat_abs l.manure)
    (survivals_in_range n m) (omega (arith, clay-number-most s.clay h.clay))

-- The modern grams after it are at most those before it and what the additions can bring: twice 100,000,000 each.
pub modern-after-most :
    (s : Soil) (modern : List Grams) (n : ℕ) (l : Land) → SoundSoil s → n ≤ 8363900000 → LandReady l
    → total (modern_after s modern n l) ≤ total modern + 400000000
unfolding modern_after
modern-after-most s modern n l h m ready =
    omega (
      arith,
      modern_turned_most modern (survivals n) (clay_number s.clay) s.kind
          (nat_abs l.plant) (nat_abs l.manure) (nat_abs l.activity)
          (survivals_in_range n m)
          (omega (arith, clay-number-most s.clay h.clay))
          (natural_most 2000 l.activity ready.activity),
      natural_most 100000000 l.plant ready.plant,
      natural_most 100000000 l.manure ready.manure,
    )
