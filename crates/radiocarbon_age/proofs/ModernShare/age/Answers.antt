-- `radiocarbon_age::ModernShare::age` meets its contract: the largest age that is tried decides whether there is one, and the search finds it.
-- Assumes nothing.
use mathlib.Core.Path.{◌≡◌, sym, ◌∙◌}
use mathlib.Core.Bool.{false}
use Prim.Native.Nat.{ℕ, ◌≤◌}
use lib.Dec.{lit≤}
use Rattle.step_survival.specs.Ages.{age_limit}
use Rattle.radiocarbon_age.specs.Age.{reaches, age_of, NoneDoes, Means}
use Rattle.radiocarbon_age.specs.declared.Age.{Age}
use Rattle.radiocarbon_age.proofs.Laws.{no_smaller_lem, years_are, older_are, newer_are, age_means}
use Rattle.radiocarbon_age.proofs.ModernShare.age.Goals as goal

-- Where the largest age does not reach it none does.
none_reaches : (modern carbon : ℕ) → modern ≤ carbon → reaches modern carbon age_limit ≡ false → NoneDoes modern carbon
none_reaches modern carbon old not =
    record { not_newer = old; none = λ z le. no_smaller_lem modern carbon age_limit (lit≤ tt) not z le }

-- An answer that is the definition's says what the definition's does.
with_means : (modern carbon : ℕ) {age : Age} → age ≡ age_of modern carbon → (age ≡ age_of modern carbon) × Means modern carbon age
with_means modern carbon is = (is, rw is (age_means modern carbon))

pub returns-then-self : goal.returns-then-self
returns-then-self c =
    let a = c.args.self in
    with_means a.modern a.carbon (sym (newer_are a.modern a.carbon c.if-self.true))

pub returns-then-reaches : goal.returns-then-reaches
returns-then-reaches c =
    let a = c.args.self in
    with_means a.modern a.carbon (sym (years_are a.modern a.carbon _ c.smallest.ensures))

pub returns : goal.returns
returns c =
    let a = c.args.self in
    let none = none_reaches a.modern a.carbon c.if-self.false (sym c.reaches.ensures ∙ c.if-reaches.false) in
    with_means a.modern a.carbon (sym (older_are a.modern a.carbon none))
