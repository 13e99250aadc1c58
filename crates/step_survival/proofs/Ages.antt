-- The survival numbers of ages: what step 4's laws say of them, and that they never rise with the age. Each is at most 1 from its
-- value; from a year to the next the value falls by more than a part in 8,036, and it never is below 1/6561, so that it falls by
-- more than 18 and the numbers with it.
-- Assumes nothing.
use mathlib.Core.Path.{◌≡◌, refl, subst}
use Prim.Native.Nat.{ℕ, zero, suc, ◌+◌, ◌-◌, ◌*◌, ◌≤◌}
use native.Mathlib.Nat.{mul-one, add-zero, add-suc}
use native.Mathlib.Numerals.{add-one}
use native.Mathlib.Omega.{arith}
use lib.Dec.{lit<, lit≤}
use Rattle.number_exact.specs.Exponential.{agreeing, opposing, denominator, AtOrBelow, AtOrAbove, AtMostFrom}
use Rattle.number_exact.proofs.Laws.{below_by_sum, above_by_sum, below_product, above_product}
use Rattle.number_exact.proofs.Order.{below-above}
use Rattle.step_survival.specs.Ages.{age_limit, age_survival, Ages}
use Rattle.step_survival.proofs.Laws.{close-one, in_range_lem, at_zero_lem}

close : (y : ℕ) → y ≤ age_limit → AtMostFrom 1 (age_survival y) 1000000000 y 8035
unfolding age_survival
close y h = rw (mul-one y) at (close-one y 8035 1 (lit< tt) (lit≤ tt) (omega (arith, h)))

-- ---- bounds of e^(-1/8035), e^(-8) and of any e^(-v)

year_above : AtOrAbove 8035 8036 1 8035
unfolding agreeing opposing denominator
year_above = above_by_sum 8035 8036 1 8035 2 (lit< tt) refl (lit≤ tt)

one_below : AtOrBelow 1 3 8035 8035
unfolding agreeing opposing denominator
one_below = below_by_sum 1 3 8035 8035 3 (lit< tt) refl (lit≤ tt)

eight_below : AtOrBelow 1 6561 64280 8035
eight_below =
    let two : AtOrBelow 1 9 16070 8035 = below_product (lit< tt) (lit< tt) (lit< tt) one_below one_below in
    let four : AtOrBelow 1 81 32140 8035 = below_product (lit< tt) (lit< tt) (lit< tt) two two in
    below_product (lit< tt) (lit< tt) (lit< tt) four four

any_above : (v : ℕ) → AtOrAbove 1 1 v 8035
unfolding agreeing opposing denominator
any_above v = above_by_sum 1 1 v 8035 0 (lit< tt) refl (omega arith)

-- ---- they never rise

-- The number of an age is at least 152,414.
least : (y : ℕ) → y ≤ age_limit → 152415 ≤ age_survival y + 1
least y h =
    let further : AtOrAbove ((age_survival y + 1) * 1) (1000000000 * 1) (y + (64280 - y)) 8035 =
    above_product (lit< tt) (lit< tt) (lit< tt) (close y h).above (any_above (64280 - y)) in
    let whole : y + (64280 - y) ≡ 64280 = omega (arith, h) in
    let le = below-above (lit< tt) eight_below (subst (λ (v : ℕ). AtOrAbove ((age_survival y + 1) * 1) (1000000000 * 1) v 8035) whole further) in
    omega (arith, le)

-- From one year to the next.
next : (y : ℕ) → suc y ≤ age_limit → age_survival (suc y) ≤ age_survival y
next y h =
    let before : y ≤ age_limit = omega arith in
    let older : AtOrAbove ((age_survival y + 1) * 8035) (1000000000 * 8036) (y + 1) 8035 =
    above_product (lit< tt) (lit< tt) (lit< tt) (close y before).above year_above in
    let le =
    below-above (lit< tt) (close (suc y) h).below
    (subst (λ (v : ℕ). AtOrAbove ((age_survival y + 1) * 8035) (1000000000 * 8036) v 8035) (add-one y) older) in
    omega (arith, le, least y before)

falls : (y d : ℕ) → y + d ≤ age_limit → age_survival (y + d) ≤ age_survival y
falls y zero h = rw (add-zero y) (omega arith)
falls y (suc d) h =
    rw (add-suc y d) (omega (arith, next (y + d) (omega (arith, h)), falls y d (omega (arith, h))))

never_rises_lem : (y z : ℕ) → y ≤ z → z ≤ age_limit → age_survival z ≤ age_survival y
never_rises_lem y z le h =
    let whole : y + (z - y) ≡ z = omega (arith, le) in
    subst (λ (t : ℕ). age_survival t ≤ age_survival y) whole (falls y (z - y) (omega (arith, le, h)))

pub ages : Ages
unfolding age_survival
ages =
    record {
      close = close;
      in_range = λ y h. in_range_lem y 8035 1 (lit< tt) (lit≤ tt) (omega (arith, h));
      at_zero = at_zero_lem 0 8035 1 refl;
      never_rises = never_rises_lem;
    }
