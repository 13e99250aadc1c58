-- Refusals in checking order: what a call asks is a list, and the first that applies is the one
-- that it gives. The order is the place in the list, never the number.
use Rattle.std.specs.Prelude.{◌≡◌, Bool, true, false, cond, List, [], ◌∷◌, Result, Ok, Err, ℕ, eqb}
use Rattle.month_refusals.specs.declared.NumberAndPlace.{NumberAndPlace}
use Rattle.month_refusals.specs.declared.RefusedAt.{RefusedAt}
use Rattle.month_refusals.specs.declared.Refusal.{Refusal}
use Rattle.month_refusals.specs.declared.Refusal.TheVariants.{Length, Form, Rows, Clay, Depth, Kind}
use Rattle.month_refusals.specs.declared.Refusal.TheVariants.{Carbon, Room, Years, Bounds, Turn}
use Rattle.month_refusals.specs.declared.Refusal.TheVariants.{MonthLimit, Temperature, Water, Cover}
use Rattle.month_refusals.specs.declared.Refusal.TheVariants.{Additions, Ceiling, TableForm, Source}
use Rattle.month_refusals.specs.declared.Refusal.TheVariants.{NoneKept, Activity, NoCarbon}

-- ---- numbers

-- The number of each refusal: document 01's, and from 18 on those of document 02.
abbrev pub refusal_number : Refusal → ℕ
refusal_number Length = 1
refusal_number Form = 2
refusal_number Rows = 3
refusal_number Clay = 4
refusal_number Depth = 5
refusal_number Kind = 6
refusal_number Carbon = 7
refusal_number Room = 8
refusal_number Years = 9
refusal_number Bounds = 10
refusal_number Turn = 11
refusal_number MonthLimit = 12
refusal_number Temperature = 13
refusal_number Water = 14
refusal_number Cover = 15
refusal_number Additions = 16
refusal_number Ceiling = 17
refusal_number TableForm = 18
refusal_number Source = 19
refusal_number NoneKept = 20
refusal_number Activity = 21
refusal_number NoCarbon = 22

-- What a check finds: nothing, or the first refusal that applies.
abbrev pub Check : Type 0
Check = Result Unit Refusal

-- The number of what a check finds, 0 where it finds nothing.
abbrev pub check_number : Check → ℕ
check_number (Ok _) = 0
check_number (Err refusal) = refusal_number refusal

-- ---- what is asked

-- A refusal, and whether its condition holds.
pub record Asked : Type 0 where
  pub refusal : Refusal
  pub applies : Bool

infix 70 ◌if◌
abbrev pub ◌if◌ : Refusal → Bool → Asked
refusal if applies = record { refusal = refusal; applies = applies }

-- Refused where the test is true, else what the later checks find.
abbrev pub given : Bool → Refusal → Check → Check
given true refusal later = Err refusal
given false refusal later = later

-- The first that applies.
unfoldable pub first_of : List Asked → Check
first_of [] = Ok tt
first_of (asked ∷ later) = given asked.applies asked.refusal (first_of later)

-- Document 01's list of refusals in checking order, with document 02's: 18 before a table line's 13
-- and 14, 19 "after 14" (2026-01), 20 "before any other check" (2026-02), 21 "after 16", and 22,
-- which a report asks last (2026-04). Each call asks its part of it.
abbrev pub checking_order : List Refusal
checking_order =
    NoneKept ∷ Length ∷ Form ∷ Rows ∷ Clay ∷ Depth ∷ Kind ∷ Carbon ∷ Room ∷ Years ∷ Bounds ∷ Turn
    ∷ MonthLimit ∷ TableForm ∷ Temperature ∷ Water ∷ Source ∷ Cover ∷ Additions ∷ Activity ∷ Ceiling
    ∷ NoCarbon ∷ []

-- What is asked is part of an order: its refusals stand in the order one after another, some left
-- out.
unfoldable pub part_of : List Refusal → List Asked → Bool
part_of order [] = true
part_of [] (x ∷ asked) = false
part_of (refusal ∷ order) (x ∷ asked) =
    cond (eqb (refusal_number refusal) (refusal_number x.refusal)) (part_of order asked)
    (part_of order (x ∷ asked))

-- ---- places

-- What is asked at a place: a line of a book or a table, a month of a list or a spin-up counted
-- from its first, or 0 for a fault outside these or in a single month call.
pub record Placed : Type 0 where
  pub asked : Asked
  pub place : ℕ

-- All these at one place.
unfoldable pub at : ℕ → List Asked → List Placed
at place [] = []
at place (asked ∷ later) = record { asked = asked; place = place } ∷ at place later

-- What a call finds: nothing, or a refusal at a place.
pub data Found : Type 0 where
  nothing : Found
  refused : Refusal → ℕ → Found

abbrev pub found_if : Bool → Refusal → ℕ → Found → Found
found_if true refusal place later = refused refusal place
found_if false refusal place later = later

-- The first that applies, with its place.
unfoldable pub found : List Placed → Found
found [] = nothing
found (x ∷ later) = found_if x.asked.applies x.asked.refusal x.place (found later)

-- "A refusal returns its number and place": both 0 where nothing is refused.
abbrev pub number_and_place : Found → NumberAndPlace
number_and_place nothing = record { number = 0; place = 0 }
number_and_place (refused refusal place) = record { number = refusal_number refusal; place = place }

-- The number and place of the first that applies.
abbrev pub told : List Placed → NumberAndPlace
told asked = number_and_place (found asked)

-- A refusal on a line, or at a place.
infix 70 ◌on◌
abbrev pub ◌on◌ : Refusal → ℕ → RefusedAt
refusal on place = record { refusal = refusal; place = place }

-- What an answer says is found: nothing, or its refusal at its place.
abbrev pub placed_found : {Given : Type 0} → Result Given RefusedAt → Found
placed_found (Ok given) = nothing
placed_found (Err e) = refused e.refusal e.place

-- The same of an answer that has no place: its refusal has the place 0.
abbrev pub answer_found : {Given : Type 0} → Result Given Refusal → Found
answer_found (Ok given) = nothing
answer_found (Err refusal) = refused refusal 0

-- The papers' number and place of an answer.
abbrev pub placed_told : {Given : Type 0} → Result Given RefusedAt → NumberAndPlace
placed_told answer = number_and_place (placed_found answer)

abbrev pub answer_told : {Given : Type 0} → Result Given Refusal → NumberAndPlace
answer_told answer = number_and_place (answer_found answer)

-- What a check promises: the first that applies, and the papers' number of it.
pub record Finds (asked : List Asked) (check : Check) : Type 0 where
  pub first : check ≡ first_of asked
  pub number : check_number check ≡ (told (at 0 asked)).number

-- ---- each number has its condition and is given on no other

-- A refusal is the first of a list that applies: its condition holds, and none before it in the
-- list does.
pub data First : Refusal → ℕ → List Placed → Type 0 where
  here : {x : Placed} {later : List Placed}
      → x.asked.applies ≡ true → First x.asked.refusal x.place (x ∷ later)
  after :
      {refusal : Refusal} {place : ℕ} {x : Placed} {later : List Placed} → x.asked.applies ≡ false
      → First refusal place later → First refusal place (x ∷ later)

-- None of a list applies.
pub data NoneApplies : List Placed → Type 0 where
  none : NoneApplies []
  more : {x : Placed} {later : List Placed}
      → x.asked.applies ≡ false → NoneApplies later → NoneApplies (x ∷ later)

-- What is found is the first that applies, and nothing is found where none does; both ways.
pub record Exactly (asked : List Placed) (answer : Found) : Type 0 where
  pub given_first : (refusal : Refusal) (place : ℕ)
      → answer ≡ refused refusal place → First refusal place asked
  pub first_given : (refusal : Refusal) (place : ℕ)
      → First refusal place asked → answer ≡ refused refusal place
  pub accepted_none : answer ≡ nothing → NoneApplies asked
  pub none_accepted : NoneApplies asked → answer ≡ nothing
