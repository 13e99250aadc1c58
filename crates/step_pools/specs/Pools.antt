-- Four pools, or their four losses, are a list of grams in the order DPM, RPM, BIO, HUM: indices 0,
-- 1, 2, 3.
use Rattle.std.specs.Prelude.{ℕ, ◌+◌, ◌*◌, ◌/◌, List, get_or}
use Rattle.number_units.specs.declared.Grams.{Grams}

-- `part` of the `whole` equal parts of x, rounded down.
unfoldable pub share : ℕ → ℕ → ℕ → ℕ
share x part whole = x * part / whole

-- n grams, as a value of that type.
abbrev pub grams : ℕ → Grams
grams n = record { 0 = n }

-- The number of grams at index i of a list.
abbrev pub grams_at : List Grams → ℕ → ℕ
grams_at list i = (get_or list i (grams 0)).0

-- The four, added.
unfoldable pub total : List Grams → ℕ
total four = grams_at four 0 + grams_at four 1 + grams_at four 2 + grams_at four 3
