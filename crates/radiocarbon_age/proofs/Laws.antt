-- Laws of ages: the definition, which tries one age after another, gives the smallest that reaches it, and "older" where none does; and what
-- each answer says.
-- Assumes nothing.
use mathlib.Core.Path.{◌≡◌, refl, sym}
use mathlib.Core.Bool.{Bool, true, false, cond}
use Prim.Native.Nat.{ℕ, zero, suc, ◌+◌, ◌*◌, ◌≤◌, ◌<◌}
use native.Mathlib.Nat.{mul-le-mul_right}
use native.Mathlib.Decide.{dec_le}
use native.Mathlib.Omega.{arith}
use borrow.Author.Tests.{leb-true, leb-false, ltb-true, ltb-false, le-leb, lt-leb, lt-ltb, le-ltb}
use lib.Dec.{ltb}
use Rattle.step_survival.specs.Ages.{age_limit, age_survival}
use Rattle.step_survival.proofs.Ages.{ages}
use Rattle.radiocarbon_age.specs.declared.Age.{Age}
use Rattle.radiocarbon_age.specs.declared.Age.TheVariants.{Years, Older, Newer}
use Rattle.radiocarbon_age.specs.Age.{reaches, first_age, age_of, Smallest, NoneDoes, Means}

module _ (modern carbon : ℕ) where
  -- An age that does not reach it: no smaller one does either.
  pub no_smaller_lem :
      (y : ℕ) → y ≤ age_limit → reaches modern carbon y ≡ false → (z : ℕ) → z ≤ y
      → 1000000000 * modern < age_survival z * carbon
  no_smaller_lem y h not z le =
      omega (
        arith,
        leb-false (age_survival y * carbon) (1000000000 * modern) not,
        mul-le-mul_right carbon (ages.never_rises z y le h),
      )

  -- ---- the search by halves

  -- `high` reaches it, and none below `low` does.
  pub record Searching (low high : ℕ) : Type 0 where
    pub order : low ≤ high
    pub within : high ≤ age_limit
    pub reaches_it : reaches modern carbon high ≡ true
    pub none : (z : ℕ) → z < low → 1000000000 * modern < age_survival z * carbon

  pub upper_half :
      {low high : ℕ} (middle : ℕ) → Searching low high → low ≤ middle → middle < high → reaches modern carbon middle ≡ false
      → Searching (middle + 1) high
  upper_half middle h from to not =
      record {
        order = omega arith;
        within = h.within;
        reaches_it = h.reaches_it;
        none = λ z lt. no_smaller_lem middle (omega (arith, h.within)) not z (omega arith);
      }

  -- ---- trying one age after another

  first_found :
      (left z y : ℕ) → z ≤ y → y < z + left → reaches modern carbon y ≡ true
      → ((x : ℕ) → x < y → reaches modern carbon x ≡ false) → first_age left modern carbon z ≡ Years y
  unfolding first_age
  first_found zero z y low high found not = absurd (omega arith)
  first_found (suc left) z y low high found not = elim (dec_le y z) [
    | yes le ↦ let is : z ≡ y = omega arith in rw (is, found)
    | no lt ↦ rw (not z (omega arith)) (first_found left (suc z) y (omega arith) (omega arith) found not)
  ]

  none_found :
      (left z : ℕ) → ((x : ℕ) → x < z + left → reaches modern carbon x ≡ false) → first_age left modern carbon z ≡ Older
  unfolding first_age
  none_found zero z not = refl
  none_found (suc left) z not = rw (not z (omega arith)) (none_found left (suc z) (λ x h. not x (omega arith)))

  -- ---- the answers

  pub years_are : (y : ℕ) → Smallest modern carbon y → age_of modern carbon ≡ Years y
  unfolding age_of
  years_are y h =
      rw (le-ltb carbon modern h.not_newer)
      (first_found (age_limit + 1) 0 y (omega arith) (omega (arith, h.within)) (le-leb _ _ h.reaches_it)
      (λ x lt. lt-leb _ _ (h.no_smaller x lt)))

  pub older_are : NoneDoes modern carbon → age_of modern carbon ≡ Older
  unfolding age_of
  older_are h =
      rw (le-ltb carbon modern h.not_newer)
      (none_found (age_limit + 1) 0 (λ x lt. lt-leb _ _ (h.none x (omega arith))))

  pub newer_are : carbon < modern → age_of modern carbon ≡ Newer
  unfolding age_of
  newer_are h = rw (lt-ltb carbon modern h)

  -- ---- what each says

  no_age : {age : Age} → age ≡ Older → NoneDoes modern carbon → Means modern carbon age
  no_age is h =
      record {
        years = λ y e. absurd (let z : ◌≡◌ {A = ℕ} 0 1 = cc in omega arith);
        older = λ e. h;
        newer = λ e. absurd (let z : ◌≡◌ {A = ℕ} 0 1 = cc in omega arith);
      }

  an_age : {age : Age} (y : ℕ) → age ≡ Years y → Smallest modern carbon y → Means modern carbon age
  an_age y is h =
      record {
        years = λ z e. let same : y ≡ z = cc in rw (sym same) h;
        older = λ e. absurd (let z : ◌≡◌ {A = ℕ} 0 1 = cc in omega arith);
        newer = λ e. absurd (let z : ◌≡◌ {A = ℕ} 0 1 = cc in omega arith);
      }

  -- From an age on below which none reaches it.
  first_means :
      (left z : ℕ) → modern ≤ carbon → z + left ≡ age_limit + 1
      → ((x : ℕ) → x < z → 1000000000 * modern < age_survival x * carbon) → Means modern carbon (first_age left modern carbon z)
  unfolding first_age
  first_means zero z old sum none =
      no_age refl (record { not_newer = old; none = λ x le. none x (omega (arith, sum)) })
  first_means (suc left) z old sum none =
      by_test (reaches modern carbon z) refl (λ below. first_means left (suc z) old (omega (arith, sum)) below)
    where
      by_test :
          (test : Bool) → reaches modern carbon z ≡ test
          → (((x : ℕ) → x < suc z → 1000000000 * modern < age_survival x * carbon)
          → Means modern carbon (first_age left modern carbon (suc z)))
          → Means modern carbon (cond test (Years z) (first_age left modern carbon (suc z)))
      by_test true is later =
          an_age z refl
          (record {
            not_newer = old;
            within = omega (arith, sum);
            reaches_it = leb-true (age_survival z * carbon) (1000000000 * modern) is;
            no_smaller = none;
          })
      by_test false is later = later below
        where
          below : (x : ℕ) → x < suc z → 1000000000 * modern < age_survival x * carbon
          below x lt = elim (dec_le z x) [
            | yes le ↦ let same : x ≡ z = omega arith in
                rw same (leb-false (age_survival z * carbon) (1000000000 * modern) is)
            | no gt ↦ none x (omega arith)
          ]

  pub age_means : Means modern carbon (age_of modern carbon)
  unfolding age_of
  age_means = by_test (ltb carbon modern) refl
    where
      by_test :
          (test : Bool) → ltb carbon modern ≡ test
          → Means modern carbon (cond test Newer (first_age (age_limit + 1) modern carbon 0))
      by_test true is =
          record {
            years = λ y e. absurd (let z : ◌≡◌ {A = ℕ} 0 1 = cc in omega arith);
            older = λ e. absurd (let z : ◌≡◌ {A = ℕ} 0 1 = cc in omega arith);
            newer = λ e. ltb-true carbon modern is;
          }
      by_test false is =
          first_means (age_limit + 1) 0 (ltb-false carbon modern is) refl (λ x lt. absurd (omega arith))
