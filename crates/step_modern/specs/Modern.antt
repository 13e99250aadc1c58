-- Modern grams, change 2026-04 of document 02: "carbon times activity". Activity is in thousandths:
-- fresh carbon of activity 1000 has as many modern grams as grams.
use Rattle.std.specs.Prelude.{List, [], ◌∷◌, ℕ}
use Rattle.number_units.specs.declared.Grams.{Grams}
use Rattle.step_pools.specs.Pools.{share, grams, grams_at}

-- The modern grams of so much carbon of an activity: "plant and manure times activity over 1000,
-- rounded down".
unfoldable pub modern_grams : ℕ → ℕ → ℕ
modern_grams carbon activity = share carbon activity 1000

-- "IOM has 2 thousandths of its carbon, rounded down, and doesn't decay."
abbrev pub inert_activity : ℕ
inert_activity = 2

-- What is left of a pool's modern grams after a month: 999,989,629 billionths, rounded down.
abbrev pub month_older : ℕ → ℕ
month_older modern = share modern 999989629 1000000000

-- The radioactive loss of a month, with which it begins, in the four active pools.
unfoldable pub aged : List Grams → List Grams
aged modern =
    grams (month_older (grams_at modern 0))
    ∷ grams (month_older (grams_at modern 1))
    ∷ grams (month_older (grams_at modern 2))
    ∷ grams (month_older (grams_at modern 3))
    ∷ []
