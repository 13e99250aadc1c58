-- By the total alone, the rule before change 2026-05, a year settled that settles now, or an earlier one did; and a year that settles
-- by its pools has a total within 5,000 g.
-- Assumes nothing.
use Rattle.std.specs.Prelude.{Ok}
use mathlib.Core.Path.{◌≡◌, refl}
use mathlib.Core.Bool.{Bool, true, false}
use mathlib.Core.List.{List}
use Prim.Native.Nat.{ℕ, zero, suc, ◌+◌, ◌≤◌, ◌<◌}
use native.Mathlib.Omega.{arith}
use native.Mathlib.Decide.{dec_le}
use borrow.Author.Tests.{leb-true}
use lib.IntN.{ℤ}
use Rattle.std.proofs.lemmas.Bool.{and_parts}
use Rattle.step_pools.specs.Pools.{total, grams_at}
use Rattle.month_state.specs.declared.State.{State}
use Rattle.spin_up.specs.declared.Years.TheVariants.{Settled}
use Rattle.spin_up.specs.SpinUp.{near, total_settles, pools_settle, settles, spin_up}
use Rattle.spin_up.specs.Reached.{answer_after, SettledIn}
use Rattle.spin_up.specs.Settled.{total_after, NoSooner, TotalWithin}
use Rattle.spin_up.proofs.Reached.{settled_first}

-- ---- the old rule

-- What settles now, settled by the total alone.
total_too : (start end : State) → settles start end ≡ true → total_settles start end ≡ true
unfolding settles
total_too start end h = (and_parts (total_settles start end) _ h).0

-- The first number of which a test says yes, of those up to one of which it does.
record First (test : ℕ → Bool) (last : ℕ) : Type 0 where
  at : ℕ
  within : at ≤ last
  none : (k : ℕ) → k < at → test k ≡ false
  yes : test at ≡ true

first_yes : (test : ℕ → Bool) (last : ℕ) → test last ≡ true → First test last
first_yes test zero h = record { at = 0; within = omega arith; none = λ k lt. absurd (omega arith); yes = h }
first_yes test (suc last) h = by_test (test 0) refl (first_yes (λ k. test (suc k)) last h)
  where
    by_test : (b : Bool) → test 0 ≡ b → First (λ k. test (suc k)) last → First test (suc last)
    by_test true is later = record { at = 0; within = omega arith; none = λ k lt. absurd (omega arith); yes = is }
    by_test false is later =
        record { at = suc later.at; within = omega (arith, later.within); none = none_before; yes = later.yes }
      where
        none_before : (k : ℕ) → k < suc later.at → test k ≡ false
        none_before zero lt = is
        none_before (suc k) lt = later.none k (omega arith)

module _ (weather land : List ℤ) (allowed : ℕ) (s : State) {years : ℕ} {reached : State}
    (now : SettledIn weather land 0 allowed s years reached) where
  -- The years up to the one that settles all ran.
  ran : (k : ℕ) → k ≤ now.earlier → answer_after k weather land s ≡ Ok tt
  ran k le = elim (dec_le (suc k) now.earlier) [
    | yes lt ↦ now.passed.finished k (omega arith)
    | no last ↦ let same : k ≡ now.earlier = omega arith in rw same now.finished
  ]

  old : First (λ k. total_after k weather land s) now.earlier
  old = first_yes (λ k. total_after k weather land s) now.earlier (total_too _ _ now.settles)

  settled_no_sooner : NoSooner weather land allowed s years
  settled_no_sooner =
      record {
        by_total = old.at + 1;
        settled = record {
          earlier = old.at;
          count = refl;
          within = omega (arith, old.within, now.count, now.within);
          finished = λ k lt. ran k (omega (arith, old.within));
          unsettled = old.none;
          settles = old.yes;
        };
        sooner = omega (arith, old.within, now.count);
      }

-- Whatever year a spin-up settles, the old rule settled that year or an earlier one.
pub no_sooner :
    (s : State) (weather land : List ℤ) (allowed years : ℕ) → (spin_up s weather land allowed).answer ≡ Ok (Settled years)
    → NoSooner weather land allowed s years
no_sooner s weather land allowed years h = settled_no_sooner weather land allowed s (settled_first s weather land allowed years h)

-- ---- the pools without the total

near_parts : (start end : ℕ) → near start end ≡ true → (end ≤ start + 1000) × (start ≤ end + 1000)
near_parts start end h =
    let both = and_parts _ _ h in (leb-true end (start + 1000) both.0, leb-true start (end + 1000) both.1)

-- A year that settles by its pools has a total within 5,000 g by itself.
pub pools_within : (start end : State) → pools_settle start.soil end.soil ≡ true → TotalWithin 5000 start end
unfolding pools_settle total
pools_within start end h =
    let a = start.soil in
    let b = end.soil in
    let four = and_parts _ (near a.iom.0 b.iom.0) h in
    let three = and_parts _ (near (grams_at a.pools 3) (grams_at b.pools 3)) four.0 in
    let two = and_parts _ (near (grams_at a.pools 2) (grams_at b.pools 2)) three.0 in
    let one = and_parts (near (grams_at a.pools 0) (grams_at b.pools 0)) (near (grams_at a.pools 1) (grams_at b.pools 1)) two.0 in
    let dpm = near_parts (grams_at a.pools 0) (grams_at b.pools 0) one.0 in
    let rpm = near_parts (grams_at a.pools 1) (grams_at b.pools 1) one.1 in
    let bio = near_parts (grams_at a.pools 2) (grams_at b.pools 2) two.1 in
    let hum = near_parts (grams_at a.pools 3) (grams_at b.pools 3) three.1 in
    let iom = near_parts a.iom.0 b.iom.0 four.1 in
    (omega (arith, dpm, rpm, bio, hum, iom), omega (arith, dpm, rpm, bio, hum, iom))
