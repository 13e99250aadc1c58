-- Steps 5 and 6 of document 01 together, on four pools in the order DPM, RPM, BIO, HUM. They are
-- the same for the pools' carbon and for their modern grams: a month "decays, forms and splits them
-- as carbon is" (change 2026-04 of document 02).
use Rattle.std.specs.Prelude.{List, ℕ}
use Rattle.number_units.specs.declared.Grams.{Grams}
use Rattle.step_pools.specs.Pools.{total}
use Rattle.step_decay.specs.Decay.{losses, carbon_dioxide, decayed}
use Rattle.step_additions.specs.Additions.{added}
use Rattle.step_modern.specs.Modern.{modern_grams, aged}

-- The four pools after decay and additions: their survival numbers, the clay number r, the kind of
-- the plants, and what plants and manure bring. The additions come after the decay.
unfoldable pub turned_over : List Grams → List ℕ → ℕ → ℕ → ℕ → ℕ → List Grams
turned_over pools survival r kind plant manure = added (decayed pools survival r) kind plant manure

-- What leaves the four pools: step 5's CO2.
unfoldable pub released : List Grams → List ℕ → ℕ → ℕ
released pools survival r = carbon_dioxide (total (losses pools survival)) r

-- ---- a month's modern grams

-- The four pools' modern grams after a month: first the radioactive loss, then steps 5 and 6 with
-- the carbon's survival numbers, clay number r and kind, and with what plant and manure of an
-- activity bring, each rounded down.
unfoldable pub modern_turned : List Grams → List ℕ → ℕ → ℕ → ℕ → ℕ → ℕ → List Grams
modern_turned modern survival r kind plant manure activity =
    turned_over (aged modern) survival r kind
    (modern_grams plant activity) (modern_grams manure activity)
