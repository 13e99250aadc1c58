-- Step 5 of document 01: what each pool keeps and loses, and what the losses form. Four pools, or
-- their four losses, are a list of grams in the order DPM, RPM, BIO, HUM: indices 0, 1, 2, 3.
use Rattle.std.specs.Prelude.{ℕ, ◌+◌, ◌-◌, ◌≤◌, List, [], ◌∷◌, get_or}
use Rattle.number_units.specs.declared.Grams.{Grams}
use Rattle.step_pools.specs.Pools.{share, grams, grams_at, total}

-- Step 4's range, which step 5 takes for granted: each of the four survival numbers is at most
-- 1,000,000,000.
pub record Survivals (survival : List ℕ) : Type 0 where
  pub dpm : get_or survival 0 0 ≤ 1000000000
  pub rpm : get_or survival 1 0 ≤ 1000000000
  pub bio : get_or survival 2 0 ≤ 1000000000
  pub hum : get_or survival 3 0 ≤ 1000000000

-- Step 5: a pool of y grams keeps y × s / 1,000,000,000, rounded down, s being its survival number.
abbrev pub kept : ℕ → ℕ → ℕ
kept y s = share y s 1000000000

-- Step 5: it loses the rest.
abbrev pub lost : ℕ → ℕ → ℕ
lost y s = y - kept y s

-- Step 5: the four losses. Their `total` is L.
unfoldable pub losses : List Grams → List ℕ → List Grams
losses pools survival =
    grams (lost (grams_at pools 0) (get_or survival 0 0))
    ∷ grams (lost (grams_at pools 1) (get_or survival 1 0))
    ∷ grams (lost (grams_at pools 2) (get_or survival 2 0))
    ∷ grams (lost (grams_at pools 3) (get_or survival 3 0))
    ∷ []

-- Step 5: formed is l × r / 1,000,000, rounded down, l being the sum of the losses and r the clay
-- number of step 2.
abbrev pub formed : ℕ → ℕ → ℕ
formed l r = share l r 1000000

-- Step 5: CO2 is l less formed.
abbrev pub carbon_dioxide : ℕ → ℕ → ℕ
carbon_dioxide l r = l - formed l r

-- Step 5: BIO gains 46 hundredths of formed, rounded down.
abbrev pub to_bio : ℕ → ℕ
to_bio f = share f 46 100

-- Step 5: HUM gains the rest of formed.
abbrev pub to_hum : ℕ → ℕ
to_hum f = f - to_bio f

-- Step 5, whole: each pool has what it keeps, BIO and HUM also what they gain.
unfoldable pub decayed : List Grams → List ℕ → ℕ → List Grams
decayed pools survival r =
    grams (kept (grams_at pools 0) (get_or survival 0 0))
    ∷ grams (kept (grams_at pools 1) (get_or survival 1 0))
    ∷ grams
    (kept (grams_at pools 2) (get_or survival 2 0)
    + to_bio (formed (total (losses pools survival)) r))
    ∷ grams
    (kept (grams_at pools 3) (get_or survival 3 0)
    + to_hum (formed (total (losses pools survival)) r))
    ∷ []

-- The second half of step 5, for the function that is handed pools and losses: the pools less their
-- losses, BIO and HUM with what they gain.
unfoldable pub split : List Grams → List Grams → ℕ → List Grams
split pools given r =
    grams (grams_at pools 0 - grams_at given 0)
    ∷ grams (grams_at pools 1 - grams_at given 1)
    ∷ grams (grams_at pools 2 - grams_at given 2 + to_bio (formed (total given) r))
    ∷ grams (grams_at pools 3 - grams_at given 3 + to_hum (formed (total given) r))
    ∷ []

-- No loss that it is handed is larger than its pool.
pub record Within (given pools : List Grams) : Type 0 where
  pub dpm : grams_at given 0 ≤ grams_at pools 0
  pub rpm : grams_at given 1 ≤ grams_at pools 1
  pub bio : grams_at given 2 ≤ grams_at pools 2
  pub hum : grams_at given 3 ≤ grams_at pools 3
