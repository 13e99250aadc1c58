-- Tests that are computed on numerals and carried to facts: of bounds on e^(-w) by one sum each, and of every entry of a table.
-- Assumes nothing.
use mathlib.Core.Path.{◌≡◌, sym, ◌∙◌, subst}
use mathlib.Core.Bool.{Bool, true, false, ◌&&◌}
use mathlib.Core.List.{List, [], ◌∷◌}
use Prim.Native.Nat.{ℕ, zero, suc, ◌+◌, ◌*◌, ◌≤◌, ◌<◌}
use native.Mathlib.Nat.{add-zero, zero-add, add-suc, suc-add, le_of_suc-le-suc, not-suc-le-zero}
use lib.Dec.{T, leb, leb→le}
use lib.ListN.{length, get_or}
use Rattle.number_exact.specs.Exponential.{agreeing, opposing, denominator, ends_on_plus, AtOrBelow, AtOrAbove}
use Rattle.number_exact.proofs.Laws.{below_by_sum, above_by_sum}

-- x / y is at or below the sum to term l, which ends on a minus term
unfoldable pub below_sum : ℕ → ℕ → ℕ → ℕ → ℕ → Bool
below_sum x y a b l = leb (x * denominator b l + y * agreeing a b l) (y * opposing a b l)

-- x / y is at or above the sum to term l, which ends on a plus term
unfoldable pub above_sum : ℕ → ℕ → ℕ → ℕ → ℕ → Bool
above_sum x y a b l = leb (y * agreeing a b l) (x * denominator b l + y * opposing a b l)

pub below_by_test : (x y a b l : ℕ) → 0 < b → ends_on_plus l ≡ false → T (below_sum x y a b l) → AtOrBelow x y a b
unfolding below_sum
below_by_test x y a b l pos e t =
    below_by_sum x y a b l pos e (leb→le (x * denominator b l + y * agreeing a b l) (y * opposing a b l) t)

pub above_by_test : (x y a b l : ℕ) → 0 < b → ends_on_plus l ≡ true → T (above_sum x y a b l) → AtOrAbove x y a b
unfolding above_sum
above_by_test x y a b l pos e t =
    above_by_sum x y a b l pos e (leb→le (y * agreeing a b l) (x * denominator b l + y * opposing a b l) t)

pub and_left : (p q : Bool) → T (p && q) → T p
and_left true q t = tt
and_left false q t = t

pub and_right : (p q : Bool) → T (p && q) → T q
and_right true q t = t
and_right false q t = absurd t

-- each entry passes a test of its place, counted from i, and its number
abbrev pub all_pass : (ℕ → ℕ → Bool) → ℕ → List ℕ → Bool
all_pass test i [] = true
all_pass test i (x ∷ xs) = test i x && all_pass test (suc i) xs

entry_from :
    (test : ℕ → ℕ → Bool) (xs : List ℕ) (i : ℕ) → T (all_pass test i xs) → (k : ℕ) → k < length xs → T (test (i + k) (get_or xs k 0))
entry_from test [] i t k h = absurd (not-suc-le-zero h)
entry_from test (x ∷ xs) i t zero h = subst (λ n. T (test n x)) (sym (add-zero i)) (and_left (test i x) (all_pass test (suc i) xs) t)
entry_from test (x ∷ xs) i t (suc k) h =
    subst (λ n. T (test n (get_or xs k 0))) (suc-add i k ∙ sym (add-suc i k))
    (entry_from test xs (suc i) (and_right (test i x) (all_pass test (suc i) xs) t) k (le_of_suc-le-suc h))

-- a test that the whole table passes, at one entry
pub entry : (test : ℕ → ℕ → Bool) (xs : List ℕ) → T (all_pass test 0 xs) → (k : ℕ) → k < length xs → T (test k (get_or xs k 0))
entry test xs t k h = subst (λ n. T (test n (get_or xs k 0))) (zero-add k) (entry_from test xs 0 t k h)

-- a bound on every entry
abbrev pub at_most : ℕ → ℕ → ℕ → Bool
at_most top i x = leb x top

pub entry_most : (top : ℕ) (xs : List ℕ) → T (all_pass (at_most top) 0 xs) → (k : ℕ) → k < length xs → get_or xs k 0 ≤ top
entry_most top xs t k h = leb→le (get_or xs k 0) top (entry (at_most top) xs t k h)
