-- The exact recurrence of document 01. It is fed the soil, then for every month call its entries
-- and whether it was accepted. It never sees the program's state: its deficit is its own, and each
-- month and each pool has a survival fraction of its own. Only acceptance and the numbers S come
-- from the program.
use Rattle.std.specs.Prelude.{Bool, true, false, cond, List, [], ◌∷◌, ℕ, eqb, nat_abs}
use Rattle.std.proofs.Common.{lit<}
use Rattle.number_exact.specs.Fraction.{Fraction, ◌≼◌, ratio, whole, ◌⊞◌, ◌⊟◌, ◌⊠◌, distance}
use Rattle.step_factors.specs.Factors.{clay_number}
use Rattle.step_survival.specs.Survival.{survival_number}
use Rattle.step_pools.specs.Pools.{grams_at}
use Rattle.month_state.specs.declared.Soil.{Soil}
use Rattle.month_state.specs.declared.State.{State}
use Rattle.month_state.specs.declared.Land.{Land}
use Rattle.month_state.specs.declared.Entries.{Entries}
use Rattle.month_call.specs.Month.{deficit_after, rate_after}
use Rattle.month_demand3.specs.Calls.{Call, state_after, accepts}

-- What it is fed of a call.
pub record Fed : Type 0 where
  pub entries : Entries
  pub accepted : Bool

unfoldable pub feed : State → List Call → List Fed
feed s [] = []
feed s (c ∷ calls) =
    record { entries = c.entries; accepted = accepts s c } ∷ feed (state_after s c) calls

-- What it holds: a deficit and four pools, which are fractions.
pub record Exact : Type 0 where
  pub deficit : ℕ
  pub dpm : Fraction
  pub rpm : Fraction
  pub bio : Fraction
  pub hum : Fraction

-- The deficit starts at 0, the pools as the soil's.
abbrev pub exact_start : Soil → Exact
exact_start s =
    record {
      deficit = 0;
      dpm = whole (grams_at s.pools 0);
      rpm = whole (grams_at s.pools 1);
      bio = whole (grams_at s.pools 2);
      hum = whole (grams_at s.pools 3);
    }

-- The survival fractions of a month, one for each pool.
pub record Fractions : Type 0 where
  pub dpm : Fraction
  pub rpm : Fraction
  pub bio : Fraction
  pub hum : Fraction

-- q is any fraction from 0 to 1 at most 4 billionths from S / 1,000,000,000.
pub record Allowed (q : Fraction) (s : ℕ) : Type 0 where
  pub at_most_one : q ≼ whole 1
  pub near : distance q (ratio s 1000000000 (lit< tt)) ≼ ratio 4 1000000000 (lit< tt)

-- The same of the four, at the rate number n.
pub record AllowedAt (q : Fractions) (n : ℕ) : Type 0 where
  pub dpm : Allowed q.dpm (survival_number n 1000)
  pub rpm : Allowed q.rpm (survival_number n 30)
  pub bio : Allowed q.bio (survival_number n 66)
  pub hum : Allowed q.hum (survival_number n 2)

-- A pool keeps y × q and loses the rest.
abbrev pub exact_lost : Fraction → Fraction → Fraction
exact_lost y q = y ⊟ y ⊠ q

-- L is the sum of the four losses.
unfoldable pub exact_loss : Exact → Fractions → Fraction
exact_loss x q =
    exact_lost x.dpm q.dpm ⊞ exact_lost x.rpm q.rpm ⊞ exact_lost x.bio q.bio
    ⊞ exact_lost x.hum q.hum

-- L × R / 1,000,000, of which BIO gains 46 and HUM 54 hundredths.
unfoldable pub exact_formed : Soil → Exact → Fractions → Fraction
exact_formed s x q = exact_loss x q ⊠ ratio (clay_number s.clay) 1000000 (lit< tt)

-- Step 6's shares: of the plant carbon DPM gets 36/61, 67/167 or 1/5 by the kind; of the manure DPM
-- 49 and HUM 2 hundredths.
abbrev pub plant_share : ℕ → Fraction
plant_share kind =
    cond (eqb kind 1) (ratio 36 61 (lit< tt))
    (cond (eqb kind 2) (ratio 67 167 (lit< tt)) (ratio 1 5 (lit< tt)))

abbrev pub plant_part : Soil → Land → Fraction
plant_part s l = whole (nat_abs l.plant) ⊠ plant_share s.kind

abbrev pub manure_part : Land → ℕ → Fraction
manure_part l hundredths = whole (nat_abs l.manure) ⊠ ratio hundredths 100 (lit< tt)

-- An accepted month: steps 1 to 4 give the new deficit from its own one; then nothing is rounded.
-- RPM gets the rest of each addition.
unfoldable pub exact_month : Soil → Entries → Fractions → Exact → Exact
exact_month s e q x =
    record {
      deficit = deficit_after s x.deficit e;
      dpm = x.dpm ⊠ q.dpm ⊞ plant_part s e.land ⊞ manure_part e.land 49;
      rpm =
          x.rpm ⊠ q.rpm ⊞ (whole (nat_abs e.land.plant) ⊟ plant_part s e.land)
          ⊞ (whole (nat_abs e.land.manure) ⊟ manure_part e.land 49 ⊟ manure_part e.land 2);
      bio = x.bio ⊠ q.bio ⊞ exact_formed s x q ⊠ ratio 46 100 (lit< tt);
      hum = x.hum ⊠ q.hum ⊞ exact_formed s x q ⊠ ratio 54 100 (lit< tt) ⊞ manure_part e.land 2;
    }

-- N of the recurrence's own month, steps 1 to 4 as they stand.
abbrev pub exact_rate : Soil → Entries → Exact → ℕ
exact_rate s e x = rate_after s (deficit_after s x.deficit e) e

-- The recurrence leads from one holding to another over what it is fed: a refused call changes
-- nothing, an accepted one is a month with any survival fractions that are allowed.
pub data Leads (s : Soil) : List Fed → Exact → Exact → Type 0 where
  none : {x : Exact} → Leads s [] x x
  refused : {e : Entries} {later : List Fed} {x y : Exact}
      → Leads s later x y → Leads s (record { entries = e; accepted = false } ∷ later) x y
  month :
      {e : Entries} {later : List Fed} {x y : Exact} (q : Fractions)
      → AllowedAt q (exact_rate s e x)
      → Leads s later (exact_month s e q x) y
      → Leads s (record { entries = e; accepted = true } ∷ later) x y
