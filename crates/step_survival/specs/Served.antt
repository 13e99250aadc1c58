-- Change 2026-03 of document 02: at most 40 terms serve any w.
use Rattle.std.specs.Prelude.{◌≡◌, ℕ, ◌*◌, ◌%◌, ◌^◌, ◌≤◌}
use Rattle.number_exact.specs.Exponential.{AtMostFrom}
use Rattle.step_survival.specs.Series.{term}
use Rattle.step_survival.specs.Survival.{parts, survival_of, terms_of}

-- At most 40 terms serve w = a × k / b: so many are summed, the next one is 0, so that the limit of
-- 40 cuts nothing off, and the survival number is at most 1 from its value.
pub record Served (a b k : ℕ) : Type 0 where
  pub at_most40 : terms_of a b k ≤ 40
  pub next_is_zero : term (parts a b k % 2 ^ 32) (terms_of a b k) ≡ 0
  pub close : AtMostFrom 1 (survival_of a b k) 1000000000 (a * k) b

-- Any w that the program can meet: in months up to 6.97, and in the ages of change 2026-04, which
-- are whole years up to 60,000 with w = y / 8035, up to 7.4673.
pub record EveryW : Type 0 where
  pub months : (n k : ℕ) → n ≤ 8363900000 → k ≤ 1000 → Served n 1200000000000 k
  pub ages : (y : ℕ) → y ≤ 60000 → Served y 8035 1
