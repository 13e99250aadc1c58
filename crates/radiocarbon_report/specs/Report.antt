-- The radiocarbon report on a state, change 2026-04 of document 02: "Report for a pool or for all
-- five: delta in hundredths", "and the smallest whole age".
use Rattle.std.specs.Prelude.{Result, Ok, Err, ◌≡◌, List, [], ◌∷◌, ◌++◌, ℕ, ◌+◌, ◌*◌, ◌/◌, eqb, ℤ}
use Rattle.std.specs.Prelude.{pos, ◌-ℤ◌}
use Rattle.month_refusals.specs.declared.Refusal.{Refusal}
use Rattle.radiocarbon_report.specs.declared.Radiocarbon.{Radiocarbon}
use Rattle.number_units.specs.declared.Grams.{Grams}
use Rattle.step_pools.specs.Pools.{grams_at, total}
use Rattle.step_modern.specs.Modern.{modern_grams, inert_activity}
use Rattle.month_state.specs.declared.State.{State}
use Rattle.month_refusals.specs.Asked.{Check, Asked, ◌if◌, first_of}
use Rattle.month_refusals.specs.declared.Refusal.TheVariants.{NoCarbon}
use Rattle.month_refusals.specs.Refusals.{state_asked}
use Rattle.radiocarbon_age.specs.Age.{age_of, Means}
use Rattle.radiocarbon_report.specs.declared.Subject.{Subject}
use Rattle.radiocarbon_report.specs.declared.Subject.TheVariants.{Dpm, Rpm, Bio, Hum, Iom, AllFive}

-- A report's answer: delta with the age, or why it is refused.
abbrev pub ReportAnswer : Type 0
ReportAnswer = Result Radiocarbon Refusal

-- ---- what is reported on

-- Of the grams of four active pools and of IOM, those of a pool, or of all five.
abbrev pub grams_of : Subject → List Grams → ℕ → ℕ
grams_of Dpm pools iom = grams_at pools 0
grams_of Rpm pools iom = grams_at pools 1
grams_of Bio pools iom = grams_at pools 2
grams_of Hum pools iom = grams_at pools 3
grams_of Iom pools iom = iom
grams_of AllFive pools iom = total pools + iom

-- The carbon of a pool, or of all five.
abbrev pub carbon_of : Subject → State → ℕ
carbon_of subject s = grams_of subject s.soil.pools s.soil.iom.0

-- The modern grams of IOM follow from its carbon.
abbrev pub inert_modern : State → ℕ
inert_modern s = modern_grams s.soil.iom.0 inert_activity

-- The modern grams of a pool, or of all five: "weigh activity, never ages".
abbrev pub modern_of : Subject → State → ℕ
modern_of subject s = grams_of subject s.modern (inert_modern s)

-- ---- the report

-- Delta in hundredths: 100,000 × modern / carbon rounded down, less 100,000. A signed number.
unfoldable pub delta : ℕ → ℕ → ℤ
delta modern carbon = pos (100000 * modern / carbon) -ℤ pos 100000

-- 4 to 7 and 10 of the lent state, then 22: "a report on a pool, or on all five, with no carbon".
unfoldable pub report_asked : State → Subject → List Asked
report_asked s subject = state_asked s ++ ((NoCarbon if eqb (carbon_of subject s) 0) ∷ [])

-- Delta and the age of so many modern grams in so much carbon. Delta stands beside "older" and
-- "newer" too.
abbrev pub report_on : ℕ → ℕ → ReportAnswer
report_on modern carbon = Ok (record { delta = delta modern carbon; age = age_of modern carbon })

abbrev pub report_checked : Check → ReportAnswer → ReportAnswer
report_checked (Ok _) given = given
report_checked (Err refusal) given = Err refusal

unfoldable pub report : State → Subject → ReportAnswer
report s subject =
    report_checked (first_of (report_asked s subject))
    (report_on (modern_of subject s) (carbon_of subject s))

-- What the age of a report says: of the ages that are tried it is the one that does it, and no
-- smaller one does.
pub record AgeMeans (s : State) (subject : Subject) (answer : ReportAnswer) : Type 0 where
  pub age : (given : Radiocarbon) → answer ≡ Ok given
      → Means (modern_of subject s) (carbon_of subject s) given.age
