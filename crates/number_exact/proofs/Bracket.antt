-- A fraction that brackets e^(-a/b) up to an index: no sum up to there has it on the wrong side.
-- Such fractions multiply (the addition law), one is there for 1/b, so one is there for every a / b. Assumes nothing.
use mathlib.Core.Path.{◌≡◌, refl, sym, ◌∙◌, ap, ap₂}
use mathlib.Core.Bool.{Bool, true, false, not}
use Prim.Native.Nat.{ℕ, zero, suc, ◌+◌, ◌-◌, ◌*◌, ◌^◌, ◌≤◌, ◌<◌}
use native.Mathlib.Nat.{pow-suc, pow-zero, zero-add, mul-pos, le_trans, mul-le-mul_left, mul-le-mul_right, add-zero, add-suc, suc-add, sub-add_cancel}
use native.Mathlib.Nat.{add-sub_of_le}
use native.Mathlib.Numerals.{add-one}
use native.Mathlib.Omega.{arith}
use Rattle.number_exact.specs.Exponential.{agreeing, opposing, denominator, ends_on_plus}
use Rattle.number_exact.proofs.Mean.{mean, mean-add, mean_scale, mean_mono}
use Rattle.number_exact.proofs.Addition.{addition}

not-true : (x : Bool) → not x ≡ true → x ≡ false
not-true true e = sym e
not-true false e = refl

not-false : (x : Bool) → not x ≡ false → x ≡ true
not-false true e = refl
not-false false e = sym e

-- at w = 0 every term but the first is 0: one part is the whole denominator, the other is 0
pub zero-parts : (b k : ℕ) → agreeing 0 b k + opposing 0 b k ≡ denominator b k
unfolding agreeing opposing denominator
zero-parts b zero = refl
zero-parts b (suc k) = omega (arith, ap (λ t. t * (b * suc k)) (zero-parts b k), pow-suc 0 k)

mutual
  unfolding agreeing opposing

  pub plus_end : (b k : ℕ) → ends_on_plus k ≡ true → opposing 0 b k ≡ 0
  plus_end b zero e = refl
  plus_end b (suc k) e = ap (λ t. t * (b * suc k)) (minus_end b k (not-true (ends_on_plus k) e)) ∙ omega arith

  pub minus_end : (b k : ℕ) → ends_on_plus k ≡ false → agreeing 0 b k ≡ 0
  minus_end b zero e = sym (ap (λ x. elim x as (λ y. ℕ) [ true ↦ 0 | false ↦ 1 ]) e)
  minus_end b (suc k) e =
      omega (arith, ap (λ t. t * (b * suc k)) (plus_end b k (not-false (ends_on_plus k) e)), pow-suc 0 k)

pub denominator_pos : (b k : ℕ) → 0 < b → 0 < denominator b k
unfolding denominator
denominator_pos b zero h = omega arith
denominator_pos b (suc k) h = mul-pos (denominator_pos b k h) (mul-pos h (omega arith))

-- p / q has every sum for a / b up to index `top` on its right side: at or above it where the sum ends on a plus term, else at or below it
pub record Brackets (top p q a b : ℕ) : Type 0 where
  pub is_fraction : 0 < q
  pub at : (i : ℕ) → i ≤ top → q * opposing a b i + p * agreeing 0 b i ≤ q * agreeing a b i + p * opposing 0 b i

-- a bracket of a / b, carried to v more: the mean of its inequalities
carried :
    (top p q a b v i : ℕ) → i ≤ top → Brackets top p q a b
    → q * opposing (a + v) b i + p * agreeing v b i ≤ q * agreeing (a + v) b i + p * opposing v b i
carried top p q a b v i le h =
    let f : ℕ → ℕ = λ j. q * opposing a b j + p * agreeing 0 b j in
    let g : ℕ → ℕ = λ j. q * agreeing a b j + p * opposing 0 b j in
    let means : mean v f i ≤ mean v g i = mean_mono v f g i (λ j m. h.at j (le_trans m le)) in
    let here = addition a b v i in
    let start = addition 0 b v i in
    let v-is : 0 + v ≡ v = zero-add v in
    let agree : agreeing v b i ≡ mean v (agreeing 0 b) i = ap (λ t. agreeing t b i) (sym v-is) ∙ start.0 in
    let oppose : opposing v b i ≡ mean v (opposing 0 b) i = ap (λ t. opposing t b i) (sym v-is) ∙ start.1 in
    let f-is : mean v f i ≡ q * mean v (opposing a b) i + p * mean v (agreeing 0 b) i =
    mean-add v (λ j. q * opposing a b j) (λ j. p * agreeing 0 b j) i
    ∙ ap₂ (λ x y. x + y) (mean_scale v q (opposing a b) i) (mean_scale v p (agreeing 0 b) i) in
    let g-is : mean v g i ≡ q * mean v (agreeing a b) i + p * mean v (opposing 0 b) i =
    mean-add v (λ j. q * agreeing a b j) (λ j. p * opposing 0 b j) i
    ∙ ap₂ (λ x y. x + y) (mean_scale v q (agreeing a b) i) (mean_scale v p (opposing 0 b) i) in
    omega
    (arith, means, f-is, g-is, ap (λ t. q * t) here.0, ap (λ t. q * t) here.1, ap (λ t. p * t) agree, ap (λ t. p * t) oppose)

product_step :
    (p q p' q' o a o' a' z y : ℕ) → q * o + p * a' ≤ q * a + p * o' → q' * o' + p' * z ≤ q' * a' + p' * y
    → q * q' * o + p * p' * z ≤ q * q' * a + p * p' * y
product_step p q p' q' o a o' a' z y first second = omega (arith, mul-le-mul_left q' first, mul-le-mul_left p second)

-- brackets multiply
pub product :
    (top a b v : ℕ) {p q p' q' : ℕ} → Brackets top p q a b → Brackets top p' q' v b → Brackets top (p * p') (q * q') (a + v) b
product top a b v {p} {q} {p'} {q'} h h' =
    record {
      is_fraction = mul-pos h.is_fraction h'.is_fraction;
      at = λ i le.
          product_step p q p' q' (opposing (a + v) b i) (agreeing (a + v) b i) (opposing v b i) (agreeing v b i) (agreeing 0 b i) (opposing 0 b i)
          (carried top p q a b v i le h) (h'.at i le);
    }

-- What is left after the sum to term i of e^(-1/b), j terms further on: tail_num / tail_den of the term i, of 0 to 1.
tail_den : ℕ → ℕ → ℕ → ℕ
tail_den b i zero = 1
tail_den b i (suc j) = b * suc i * tail_den b (suc i) j

tail_num : ℕ → ℕ → ℕ → ℕ
tail_num b i zero = 0
tail_num b i (suc j) = tail_den b (suc i) j - tail_num b (suc i) j

tail_fits : (b : ℕ) → 0 < b → (j i : ℕ) → tail_num b i j ≤ tail_den b i j
unfolding tail_num tail_den
tail_fits b pos zero i = omega arith
tail_fits b pos (suc j) i =
    let one : 0 < b * suc i = mul-pos pos (omega arith) in
    omega (arith, tail_fits b pos j (suc i), mul-le-mul_right (tail_den b (suc i) j) one)

tail_whole : (b : ℕ) (j i : ℕ) → denominator b i * tail_den b i j ≡ denominator b (i + j)
unfolding tail_den denominator
tail_whole b zero i = rw add-zero (omega arith)
tail_whole b (suc j) i = rw add-suc (omega (arith, tail_whole b j (suc i), ap (denominator b) (suc-add i j)))

tail_step :
    (q p o a z y n n' d c t : ℕ) → q * a + p * y ≡ q * o + p * z + n * d → n + n' ≡ t → d * (c * t) ≡ q
    → q * (o * c + 1) + p * (z * c) ≡ q * (a * c) + p * (y * c) + n' * (d * c)
tail_step q p o a z y n n' d c t first sum whole =
    omega (arith, ap (λ x. c * x) first, ap (λ x. d * c * x) sum, whole)

one-pow : (n : ℕ) → 1 ^ n ≡ 1
one-pow zero = pow-zero 1
one-pow (suc n) = omega (arith, pow-suc 1 n, one-pow n)

module _ (b top p : ℕ) (pos : 0 < b) (p-is : p + tail_num b 0 top ≡ denominator b top) where
  -- the distance of p / (b^top × top!) from the sum to term i is what is left there
  tail_left :
      (i j : ℕ) → i + j ≡ top
      → denominator b top * agreeing 1 b i + p * opposing 0 b i
      ≡ denominator b top * opposing 1 b i + p * agreeing 0 b i + tail_num b i j * denominator b i
  unfolding agreeing opposing denominator tail_num tail_den
  tail_left zero j sum = omega (arith, p-is, ap (tail_num b 0) (sym (zero-add j) ∙ sum))
  tail_left (suc i) j sum =
      let before = tail_left i (suc j) (add-suc i j ∙ sym (suc-add i j) ∙ sum) in
      let nums : tail_num b i (suc j) + tail_num b (suc i) j ≡ tail_den b (suc i) j = sub-add_cancel (tail_fits b pos j (suc i)) in
      let whole : denominator b i * (b * suc i * tail_den b (suc i) j) ≡ denominator b top =
      tail_whole b (suc j) i ∙ ap (denominator b) (add-suc i j ∙ sym (suc-add i j) ∙ sum) in
      omega (
        arith,
        tail_step (denominator b top) p (opposing 1 b i) (agreeing 1 b i) (agreeing 0 b i) (opposing 0 b i) (tail_num b i (suc j))
            (tail_num b (suc i) j) (denominator b i) (b * suc i) (tail_den b (suc i) j) before nums whole,
        ap (λ t. denominator b top * t) (one-pow (suc i)),
        ap (λ t. p * t) (pow-suc 0 i),
      )

  bracket_one : Brackets top p (denominator b top) 1 b
  bracket_one =
      record {
        is_fraction = denominator_pos b top pos;
        at = λ i le. omega (arith, tail_left i (top - i) (add-sub_of_le le));
      }

-- a fraction that brackets e^(-a/b) up to index `top`
pub record Bracketed (top a b : ℕ) : Type 0 where
  pub num : ℕ
  pub den : ℕ
  pub brackets : Brackets top num den a b

at_one : (top b : ℕ) → 0 < b → Bracketed top 1 b
unfolding denominator tail_den
at_one top b pos =
    record {
      num = denominator b top - tail_num b 0 top;
      den = denominator b top;
      brackets =
          bracket_one b top (denominator b top - tail_num b 0 top) pos
          (sub-add_cancel (omega (arith, tail_fits b pos top 0, tail_whole b top 0, ap (denominator b) (zero-add top))));
    }

-- one is there for every fraction
pub bracketed : (top b : ℕ) → 0 < b → (a : ℕ) → Bracketed top a b
bracketed top b pos zero =
    record {
      num = 1;
      den = 1;
      brackets = record { is_fraction = omega arith; at = λ i le. omega arith };
    }
bracketed top b pos (suc a) =
    let r = bracketed top b pos a in
    let s = at_one top b pos in
    record {
      num = r.num * s.num;
      den = r.den * s.den;
      brackets = rw (add-one a) at (product top a b 1 r.brackets s.brackets);
    }
