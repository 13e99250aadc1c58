-- Up to the first member that stops none does, and a list begins with these.
-- Assumes nothing.
use mathlib.Core.Path.{◌≡◌, refl, ap}
use mathlib.Core.Bool.{Bool, true, false, not, ◌&&◌, cond}
use mathlib.Core.List.{List, [], ◌∷◌, ◌++◌}
use Prim.Native.Nat.{ℕ}
use native.Mathlib.Omega.{arith}
use Rattle.radiocarbon_laws.specs.Along.{up_to, none_stops, Begins}

-- The first doesn't stop, and neither do those after it.
pub both : (a b : Bool) → (not a && b) ≡ true → (a ≡ false) × (b ≡ true)
both true b h = absurd (let z : ◌≡◌ {A = ℕ} 0 1 = cc in omega arith)
both false b h = (refl, h)

pub both_back : {a b : Bool} → a ≡ false → b ≡ true → (not a && b) ≡ true
both_back h h' = rw (h, h')

-- What is left of a list.
abbrev rest_if : {C : Type 0} → Bool → C → List C → List C → List C
rest_if true c list later = c ∷ list
rest_if false c list later = later

module _ {S C : Type 0} (after : S → C → S) (stops : S → C → Bool) where
  rest_of : S → List C → List C
  rest_of s [] = []
  rest_of s (c ∷ list) = rest_if (stops s c) c list (rest_of (after s c) list)

  none_up_to : (s : S) (list : List C) → none_stops after stops s (up_to after stops s list) ≡ true
  unfolding none_stops up_to
  none_up_to s [] = refl
  none_up_to s (c ∷ list) = by_test (stops s c) refl (none_up_to (after s c) list)
    where
      by_test :
          (test : Bool) → stops s c ≡ test → none_stops after stops (after s c) (up_to after stops (after s c) list) ≡ true
          → none_stops after stops s (cond test [] (c ∷ up_to after stops (after s c) list)) ≡ true
      by_test true is later = refl
      by_test false is later = both_back is later

  begins_with : (s : S) (list : List C) → list ≡ up_to after stops s list ++ rest_of s list
  unfolding up_to rest_of
  begins_with s [] = refl
  begins_with s (c ∷ list) = by_test (stops s c) (begins_with (after s c) list)
    where
      by_test :
          (test : Bool) → list ≡ up_to after stops (after s c) list ++ rest_of (after s c) list
          → c ∷ list ≡ cond test [] (c ∷ up_to after stops (after s c) list) ++ rest_if test c list (rest_of (after s c) list)
      by_test true later = refl
      by_test false later = ap (λ (l : List C). c ∷ l) later

  pub begins : (s : S) (list : List C) → Begins after stops s list
  begins s list = record { rest = rest_of s list; whole = begins_with s list; none = none_up_to s list }
