-- A list whose members each begin from what the one before left: single month calls on a state, or
-- calls and takings-back on a field.
use Rattle.std.specs.Prelude.{◌≡◌, Bool, true, not, cond, ◌&&◌, List, [], ◌∷◌, ◌++◌}

-- What each answers.
module _ {S C A : Type 0} (after : S → C → S) (answer : S → C → A) where
  unfoldable pub answers_along : S → List C → List A
  answers_along s [] = []
  answers_along s (c ∷ later) = answer s c ∷ answers_along (after s c) later

module _ {S C : Type 0} (after : S → C → S) (stops : S → C → Bool) where
  -- Those up to the first that stops, which is left out.
  unfoldable pub up_to : S → List C → List C
  up_to s [] = []
  up_to s (c ∷ later) = cond (stops s c) [] (c ∷ up_to (after s c) later)

  -- None of them stops.
  unfoldable pub none_stops : S → List C → Bool
  none_stops s [] = true
  none_stops s (c ∷ later) = not (stops s c) && none_stops (after s c) later

  -- A list begins with those up to there, and of these none stops.
  pub record Begins (s : S) (list : List C) : Type 0 where
    pub rest : List C
    pub whole : list ≡ up_to s list ++ rest
    pub none : none_stops s (up_to s list) ≡ true
