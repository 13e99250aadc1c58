-- The kinds of what grows, and their numbers.
use Rattle.std.specs.Prelude.{◌≡◌, ℕ, ◌<◌, ◌⊎◌, Result, MatchResult}
use Rattle.step_additions.specs.declared.Kind.{Kind}
use Rattle.step_additions.specs.declared.Kind.TheVariants.{Crops, Scrub, Woodland}
use Rattle.step_additions.specs.declared.NoKind.{NoKind}

-- Document 01's number of a kind.
abbrev pub kind_number : Kind → ℕ
kind_number Crops = 1
kind_number Scrub = 2
kind_number Woodland = 3

-- What is read of a number: the kind that has it, or that none has.
abbrev pub HasNumber : ℕ → Result Kind NoKind → Type 0
HasNumber number read =
    MatchResult read (λ kind. kind_number kind ≡ number) (λ none. (number < 1) ⊎ (3 < number))
