-- The one law of refusals, over any list of what is asked: a refusal is given exactly where its condition holds and none before it
-- in the list does, and nothing is found exactly where none applies. With it, how lists are joined and placed.
-- Assumes nothing.
use Rattle.std.specs.Prelude.{Result, Ok, Err, IsErrAnd, MatchResult, is_ok}
use Rattle.std.specs.Result.{result_unwrap_or}
use mathlib.Core.Path.{◌≡◌, refl, sym, ◌∙◌, ap, subst}
use mathlib.Core.Bool.{Bool, true, false, true≢false, not, ◌||◌, ◌&&◌}
use mathlib.Core.List.{List, [], ◌∷◌, ◌++◌}
use Prim.Native.Nat.{ℕ, ◌+◌}
use native.Mathlib.Omega.{arith}
use Rattle.month_refusals.specs.Asked.{Check, check_number, number_and_place, Asked, given, first_of, Finds, Placed, at, Found, nothing, refused}
use Rattle.month_refusals.specs.Asked.{found_if, found, First, here, after, NoneApplies, none, more, Exactly}
use Rattle.month_refusals.specs.declared.Refusal.{Refusal}

-- ---- what is left by `?`

-- It is the refusal, or what that becomes.
pub left_by : {Given R : Type 0} (answer : Result Given R) {r : R} → IsErrAnd answer (λ other. other ≡ r) → answer ≡ Err r
left_by (Ok given) h = absurd h
left_by (Err other) h = ap Err h

-- What `map_err` gives of an answer: where it gives a value, the answer had it; ..
pub value_kept :
    {Given R R' : Type 0} (answer : Result Given R) (Made : R → R' → Type 0) {mapped : Result Given R'} {x : Given}
    → MatchResult answer (λ y. mapped ≡ Ok y) (λ r. IsErrAnd mapped (Made r)) → mapped ≡ Ok x → answer ≡ Ok x
value_kept (Ok y) Made made is = ap (λ g. Ok (result_unwrap_or g y)) (sym made ∙ is)
value_kept (Err r) Made made is = absurd (subst (λ g. IsErrAnd g (Made r)) is made)

-- .. and where it refuses, the answer was refused, and the refusal is made of the answer's.
pub refusal_made :
    {Given R R' : Type 0} (answer : Result Given R) (Made : R → R' → Type 0) {mapped : Result Given R'} {r' : R'}
    → MatchResult answer (λ y. mapped ≡ Ok y) (λ r. IsErrAnd mapped (Made r)) → mapped ≡ Err r' → (r : R) × (answer ≡ Err r) × Made r r'
refusal_made (Ok y) Made made is = absurd (true≢false (ap is_ok (sym made ∙ is)))
refusal_made (Err r) Made made is = (r, refl, subst (λ g. IsErrAnd g (Made r)) is made)

-- ---- places

-- What one part of a call finds, then the next.
abbrev pub or_else : Found → Found → Found
or_else nothing later = later
or_else (refused r place) later = refused r place

-- The same refusal, at a place so much later.
abbrev pub found_later : ℕ → Found → Found
found_later places nothing = nothing
found_later places (refused r place) = refused r (places + place)

-- What a check finds, at a place.
abbrev pub found_at : ℕ → Check → Found
found_at place (Ok _) = nothing
found_at place (Err r) = refused r place

if_else : (test : Bool) (r : Refusal) (place : ℕ) (x y : Found) → found_if test r place (or_else x y) ≡ or_else (found_if test r place x) y
if_else true r place x y = refl
if_else false r place x y = refl

pub found-append : (a b : List Placed) → found (a ++ b) ≡ or_else (found a) (found b)
unfolding found
found-append [] b = refl
found-append (x ∷ a) b =
    ap (found_if x.asked.applies x.asked.refusal x.place) (found-append a b)
    ∙ if_else x.asked.applies x.asked.refusal x.place (found a) (found b)

given-at : (test : Bool) (r : Refusal) (place : ℕ) (x : Check) → found_if test r place (found_at place x) ≡ found_at place (given test r x)
given-at true r place x = refl
given-at false r place x = refl

pub found-at : (place : ℕ) (asked : List Asked) → found (at place asked) ≡ found_at place (first_of asked)
unfolding found at first_of
found-at place [] = refl
found-at place (x ∷ later) =
    ap (found_if x.applies x.refusal place) (found-at place later) ∙ given-at x.applies x.refusal place (first_of later)

-- What is asked at a place, and then the rest.
pub found_then : (place : ℕ) (asked : List Asked) (rest : List Placed) → found (at place asked ++ rest) ≡ or_else (found_at place (first_of asked)) (found rest)
found_then place asked rest = found-append (at place asked) rest ∙ rw (found-at place asked)

-- ---- a check

-- What a check finds is what its list finds, and so is its number.
number-told : (check : Check) → check_number check ≡ (number_and_place (found_at 0 check)).number
number-told (Ok _) = refl
number-told (Err r) = refl

pub finds : {check : Check} (asked : List Asked) → check ≡ first_of asked → Finds asked check
finds {check} asked e =
    record {
      first = e;
      number = number-told check ∙ ap (λ (c : Check). (number_and_place (found_at 0 c)).number) e ∙ ap (λ (f : Found). (number_and_place f).number) (sym (found-at 0 asked));
    }

-- The first of a list applies, or it doesn't and the later ones are asked.
pub asked-true : {x : Asked} {later : List Asked} → x.applies ≡ true → Finds (x ∷ later) (Err x.refusal)
unfolding first_of
asked-true {x} {later} h = finds (x ∷ later) (rw h)

pub asked-false : {x : Asked} {later : List Asked} {check : Check} → x.applies ≡ false → Finds later check → Finds (x ∷ later) check
unfolding first_of
asked-false {x} {later} h rest = finds (x ∷ later) (rw h rest.first)

pub none_left : Finds [] (Ok tt)
unfolding first_of
none_left = finds [] refl

-- What the checks of one part find, then those of the next.
abbrev pub followed_by : Check → Check → Check
followed_by (Ok _) later = later
followed_by (Err refusal) later = Err refusal

given_followed : (test : Bool) (r : Refusal) (x y : Check) → given test r (followed_by x y) ≡ followed_by (given test r x) y
given_followed true r x y = refl
given_followed false r x y = refl

pub first-append : (a b : List Asked) → first_of (a ++ b) ≡ followed_by (first_of a) (first_of b)
unfolding first_of
first-append [] b = refl
first-append (x ∷ a) b = ap (given x.applies x.refusal) (first-append a b) ∙ given_followed x.applies x.refusal (first_of a) (first_of b)

-- One part passes and the next is asked, or its refusal is the whole's.
pub then_asked : (a : List Asked) {b : List Asked} {check : Check} → first_of a ≡ Ok tt → Finds b check → Finds (a ++ b) check
then_asked a {b} pass rest = finds (a ++ b) (rest.first ∙ sym (rw pass at (first-append a b)))

pub then_refused : (a b : List Asked) {r : Refusal} → first_of a ≡ Err r → Finds (a ++ b) (Err r)
then_refused a b refuses = finds (a ++ b) (sym (rw refuses at (first-append a b)))

-- The same of what the checks of both return.
pub part_passes : (a b : List Asked) {part whole : Check} → Finds a part → part ≡ Ok tt → Finds b whole → Finds (a ++ b) whole
part_passes a b of_part pass rest = then_asked a (sym of_part.first ∙ pass) rest

pub part_refuses : (a b : List Asked) {part whole : Check} {r : Refusal} → Finds a part → part ≡ Err r → whole ≡ Err r → Finds (a ++ b) whole
part_refuses a b of_part refuses is = rw is (then_refused a b (sym of_part.first ∙ refuses))

-- A list passes exactly where each part of it does.
pub given-passes : (test : Bool) (r : Refusal) (later : Check) → given test r later ≡ Ok tt → (test ≡ false) × (later ≡ Ok tt)
given-passes true r later h = absurd (let z : ◌≡◌ {A = ℕ} 0 1 = cc in omega arith)
given-passes false r later h = (refl, h)

pub passes-one : (x : Asked) (later : List Asked) → first_of (x ∷ later) ≡ Ok tt → (x.applies ≡ false) × (first_of later ≡ Ok tt)
unfolding first_of
passes-one x later h = given-passes x.applies x.refusal (first_of later) h

pub one_passes : (r : Refusal) {test : Bool} {later : Check} → test ≡ false → later ≡ Ok tt → given test r later ≡ Ok tt
one_passes r h rest = rw h rest

followed_passes : (x later : Check) → followed_by x later ≡ Ok tt → (x ≡ Ok tt) × (later ≡ Ok tt)
followed_passes (Ok _) later h = (refl, h)
followed_passes (Err r) later h = absurd (let z : ◌≡◌ {A = ℕ} 0 1 = cc in omega arith)

pub passes-parts : (a b : List Asked) → first_of (a ++ b) ≡ Ok tt → (first_of a ≡ Ok tt) × (first_of b ≡ Ok tt)
passes-parts a b h = followed_passes (first_of a) (first_of b) (sym (first-append a b) ∙ h)

pub parts_pass : (a b : List Asked) → first_of a ≡ Ok tt → first_of b ≡ Ok tt → first_of (a ++ b) ≡ Ok tt
parts_pass a b ha hb = rw ha at (first-append a b) ∙ hb

-- All that is asked and may apply are a call's own refusals.
abbrev pub all_own : (Refusal → Bool) → List Asked → Bool
all_own own [] = true
all_own own (x ∷ later) = (own x.refusal || not x.applies) && all_own own later

both_true : (a b : Bool) → (a && b) ≡ true → (a ≡ true) × (b ≡ true)
both_true true b h = (refl, h)
both_true false b h = absurd (let z : ◌≡◌ {A = ℕ} 0 1 = cc in omega arith)

own_applies : (own : Bool) → (own || false) ≡ true → own ≡ true
own_applies true h = refl
own_applies false h = h

-- A check finds one of them.
pub finds_own : (own : Refusal → Bool) (asked : List Asked) {r : Refusal} → all_own own asked ≡ true → first_of asked ≡ Err r → own r ≡ true
unfolding first_of
finds_own own [] all h = absurd (let z : ◌≡◌ {A = ℕ} 0 1 = cc in omega arith)
finds_own own (x ∷ later) all h =
    let both = both_true _ _ all in
    by_test x.applies x.refusal (first_of later) both.0 (finds_own own later both.1) h
  where
    by_test : {r : Refusal} (test : Bool) (reason : Refusal) (rest : Check) → (own reason || not test) ≡ true
        → (rest ≡ Err r → own r ≡ true) → given test reason rest ≡ Err r → own r ≡ true
    by_test {r} true reason rest is later h = let same : reason ≡ r = cc in rw (sym same) (own_applies (own reason) is)
    by_test false reason rest is later h = later h

-- ---- exactly

first_by :
    {r : Refusal} {p : ℕ} {later : List Placed} (x : Placed) (test : Bool) → x.asked.applies ≡ test
    → found_if test x.asked.refusal x.place (found later) ≡ refused r p → (found later ≡ refused r p → First r p later)
    → First r p (x ∷ later)
first_by {r} {p} {later} x true is h rest =
    let same : x.asked.refusal ≡ r = cc in
    let there : x.place ≡ p = cc in
    rw (sym same, sym there) (here {x = x} {later = later} is)
first_by x false is h rest = after is (rest h)

found_first : (asked : List Placed) (r : Refusal) (p : ℕ) → found asked ≡ refused r p → First r p asked
unfolding found
found_first [] r p h = absurd (let z : ◌≡◌ {A = ℕ} 0 1 = cc in omega arith)
found_first (x ∷ later) r p h = first_by {later = later} x x.asked.applies refl h (found_first later r p)

first_found : {asked : List Placed} {r : Refusal} {p : ℕ} → First r p asked → found asked ≡ refused r p
unfolding found
first_found (here is) = rw is
first_found (after is rest) = rw is (first_found rest)

none_by :
    {later : List Placed} (x : Placed) (test : Bool) → x.asked.applies ≡ test
    → found_if test x.asked.refusal x.place (found later) ≡ nothing → (found later ≡ nothing → NoneApplies later)
    → NoneApplies (x ∷ later)
none_by x true is h rest = absurd (let z : ◌≡◌ {A = ℕ} 0 1 = cc in omega arith)
none_by x false is h rest = more is (rest h)

found_none : (asked : List Placed) → found asked ≡ nothing → NoneApplies asked
unfolding found
found_none [] h = none
found_none (x ∷ later) h = none_by {later = later} x x.asked.applies refl h (found_none later)

none_found : {asked : List Placed} → NoneApplies asked → found asked ≡ nothing
unfolding found
none_found none = refl
none_found (more is rest) = rw is (none_found rest)

-- Whatever finds what the list finds gives each refusal exactly where it is the first that applies.
pub exactly : {asked : List Placed} {answer : Found} → answer ≡ found asked → Exactly asked answer
exactly {asked} e =
    record {
      given_first = λ r p h. found_first asked r p (sym e ∙ h);
      first_given = λ r p h. e ∙ first_found h;
      accepted_none = λ h. found_none asked (sym e ∙ h);
      none_accepted = λ h. e ∙ none_found h;
    }
