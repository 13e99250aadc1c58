-- Laws of shares and of lists of four grams.
-- Assumes nothing.
use Prim.Native.Nat.{ℕ, ◌+◌, ◌*◌, ◌/◌, ◌%◌, ◌≤◌, ◌<◌}
use mathlib.Core.Path.{◌≡◌, sym, ap, ◌∙◌}
use mathlib.Core.List.{List, [], ◌∷◌}
use native.Mathlib.Nat.{div-mul-le_self, lt-div-mul-add, div-le_of_le-mul, mul-div_cancel, mul-add-div_right, div-add-mod', mul-le-mul_left}
use native.Mathlib.Omega.{arith}
use lib.ListN.{length, get_or}
use Rattle.number_units.specs.declared.Grams.{Grams}
use Rattle.step_pools.specs.Pools.{share, grams, grams_at}

-- Lists of four grams are equal where their numbers are.
pub four_grams :
    {a a' b b' c c' d d' : ℕ} → a ≡ a' → b ≡ b' → c ≡ c' → d ≡ d'
    → grams a ∷ grams b ∷ grams c ∷ grams d ∷ [] ≡ grams a' ∷ grams b' ∷ grams c' ∷ grams d' ∷ []
four_grams p q r s = λ i. grams (p i) ∷ grams (q i) ∷ grams (r i) ∷ grams (s i) ∷ []

-- A list of four is its elements, ..
pub is_four :
    {A : Type 0} (other : A) (list : List A) {a b c d : A} → length list ≡ 4
    → get_or list 0 other ≡ a → get_or list 1 other ≡ b → get_or list 2 other ≡ c → get_or list 3 other ≡ d
    → list ≡ a ∷ b ∷ c ∷ d ∷ []
is_four other [] long p q r s = absurd (omega (arith, long))
is_four other (w ∷ []) long p q r s = absurd (omega (arith, long))
is_four other (w ∷ x ∷ []) long p q r s = absurd (omega (arith, long))
is_four other (w ∷ x ∷ y ∷ []) long p q r s = absurd (omega (arith, long))
is_four other (w ∷ x ∷ y ∷ z ∷ []) long p q r s = λ i. p i ∷ q i ∷ r i ∷ s i ∷ []
is_four other (w ∷ x ∷ y ∷ z ∷ v ∷ rest) long p q r s = absurd (omega (arith, long))

-- .. and one of grams its numbers.
pub is_four_grams :
    (list : List Grams) {a b c d : ℕ} → length list ≡ 4
    → grams_at list 0 ≡ a → grams_at list 1 ≡ b → grams_at list 2 ≡ c → grams_at list 3 ≡ d
    → list ≡ grams a ∷ grams b ∷ grams c ∷ grams d ∷ []
is_four_grams list long p q r s =
    is_four (grams 0) list long (λ i. grams (p i)) (λ i. grams (q i)) (λ i. grams (r i)) (λ i. grams (s i))

-- A share is the floor of x * part / whole: its product with the whole does not pass x * part, ..
pub share_floor : (x part whole : ℕ) → share x part whole * whole ≤ x * part
unfolding share
share_floor x part whole = div-mul-le_self (x * part) whole

-- .. and that of the next number does.
pub share_next : (x part whole : ℕ) → 0 < whole → x * part < (share x part whole + 1) * whole
unfolding share
share_next x part whole pos = omega (arith, lt-div-mul-add {a = x * part} {b = whole} pos)

-- A share of at most the whole is at most x.
pub share-le : (x : ℕ) {part whole : ℕ} → part ≤ whole → share x part whole ≤ x
unfolding share
share-le x {part} {whole} h = div-le_of_le-mul whole (omega (arith, mul-le-mul_left x h))

-- All parts are all of x.
pub share-whole : (x : ℕ) {whole : ℕ} → 0 < whole → share x whole whole ≡ x
unfolding share
share-whole x pos = mul-div_cancel x pos

-- The share of the quotient, which is whole, and that of the remainder, rounded down, make the share of x.
pub share-parts : (x part : ℕ) {whole : ℕ} → 0 < whole → x / whole * part + x % whole * part / whole ≡ share x part whole
unfolding share
share-parts x part {whole} pos =
    let product : x / whole * part * whole + x % whole * part ≡ x * part =
    omega (arith, ap (λ (t : ℕ). t * part) (div-add-mod' x whole)) in
    sym (mul-add-div_right pos (x / whole * part) (x % whole * part)) ∙ ap (λ (t : ℕ). t / whole) product
