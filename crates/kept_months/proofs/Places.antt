-- Laws of the places: a kept state is read back from the place of its months, those of the months before it stay, but for the one whose
-- place it takes, and the latest is read from the place of one month less.
-- Assumes nothing.
use mathlib.Core.Path.{◌≡◌, ◌∙◌, ap}
use mathlib.Core.List.{List}
use Prim.Native.Nat.{ℕ, ◌+◌, ◌-◌, ◌*◌, ◌≤◌, ◌<◌}
use native.Mathlib.Omega.{arith}
use lib.ListN.{length}
use Rattle.month_state.specs.declared.State.{State}
use Rattle.month_state.specs.State.{kept_limit, kept_aside, with_kept}
use Rattle.month_layouts.specs.Layouts.{kept_width, memory_width, state_from}
use Rattle.month_layouts.proofs.Layouts.{Four, put_back, put_apart}
use Rattle.kept_months.specs.Kept.{place_of, keep, latest}

-- The state at the place of so many months, with none kept beside it.
abbrev pub read_at : List ℕ → ℕ → State
read_at memory months = state_from memory (kept_width * place_of months) 0

-- ---- keeping

room : (months : ℕ) → kept_width * place_of months + kept_width ≤ memory_width
room months = omega arith

pub keep_there : (s : State) (memory : List ℕ) → Four s → length memory ≡ memory_width
    → read_at (keep s memory) s.months ≡ kept_aside s
unfolding keep
keep_there s memory four long = put_back memory (kept_width * place_of s.months) s 0 four (omega (arith, room s.months))

-- Two places fewer months from one another than there are places have no number in common.
apart : (months gap c d : ℕ) → gap < kept_limit - 1 → c < kept_width → d < kept_width
    → kept_width * place_of months + c ≡ kept_width * place_of (months + 1 + gap) + d → ⊥
apart months gap c d h hc hd e = omega arith

pub keep_others : (s : State) (memory : List ℕ) (months gap : ℕ) → s.months ≡ months + 1 + gap → gap < kept_limit - 1
    → read_at (keep s memory) months ≡ read_at memory months
unfolding keep
keep_others s memory months gap is h =
    put_apart memory (kept_width * place_of s.months) s (kept_width * place_of months) 0
    (λ c d hc hd e. apart months gap c d h hc hd (e ∙ ap (λ (m : ℕ). kept_width * place_of m + d) is))

-- ---- taking back

place_again : (months : ℕ) → place_of (months + 1 + (kept_limit - 1)) ≡ place_of months
place_again months = omega arith

pub latest_read : (s : State) (memory : List ℕ) (months : ℕ) → s.months ≡ months + 1
    → latest s memory ≡ with_kept (s.kept - 1) (read_at memory months)
unfolding latest state_from
latest_read s memory months is =
    ap (λ (place : ℕ). state_from memory (kept_width * place) (s.kept - 1))
    (ap (λ (m : ℕ). place_of (m + (kept_limit - 1))) is ∙ place_again months)
