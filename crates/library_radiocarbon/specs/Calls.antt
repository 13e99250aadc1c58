-- What rothc_radiocarbon and rothc_age_survival return and leave in lent memory. A state is lent as
-- a field: the current one, and after it the memory of the kept ones. It is read and stays.
use Rattle.std.specs.Prelude.{Option, Some, None, Ok, Err, cond, ◌&&◌, List, [], ◌∷◌, ℕ, leb, eqb}
use Rattle.std.specs.Prelude.{ℤ, pos}
use Rattle.month_layouts.specs.Layouts.{field_width, state_of}
use Rattle.step_survival.specs.Ages.{age_limit, age_survival}
use Rattle.radiocarbon_age.specs.declared.Age.{Age}
use Rattle.radiocarbon_age.specs.declared.Age.TheVariants.{Years, Older, Newer}
use Rattle.radiocarbon_report.specs.declared.Subject.{Subject}
use Rattle.radiocarbon_report.specs.declared.Subject.TheVariants.{Dpm, Rpm, Bio, Hum, Iom, AllFive}
use Rattle.radiocarbon_report.specs.Report.{ReportAnswer, report}
use Rattle.month_refusals.specs.Asked.{answer_told}
use Rattle.library_month.specs.Calls.{shape, has}
use Rattle.library_survival.specs.Calls.{no_survival}

-- ---- rothc_radiocarbon

-- How many numbers a report has.
abbrev pub report_width : ℕ
report_width = 3

-- What is asked for: 0 DPM, 1 RPM, 2 BIO, 3 HUM, 4 IOM, 5 all five, and nothing by any other
-- number. (`cond` gives the first where the test is true.)
abbrev pub subject_of : ℕ → Option Subject
subject_of pool =
    cond (eqb pool 0) (Some Dpm)
    (cond (eqb pool 1) (Some Rpm)
    (cond (eqb pool 2) (Some Bio)
    (cond (eqb pool 3) (Some Hum)
    (cond (eqb pool 4) (Some Iom)
    (cond (eqb pool 5) (Some AllFive) None)))))

pub record ReportLeft : Type 0 where
  pub number : ℕ
  pub report : List ℤ

-- Delta, whether there is an age (0), none up to 60,000 (1) or more modern grams than grams (2),
-- and the age, which is 0 where there is none.
abbrev pub report_numbers : ℤ → Age → List ℤ
report_numbers delta (Years y) = delta ∷ pos 0 ∷ pos y ∷ []
report_numbers delta Older = delta ∷ pos 1 ∷ pos 0 ∷ []
report_numbers delta Newer = delta ∷ pos 2 ∷ pos 0 ∷ []

-- A refusal leaves the lent report.
abbrev pub of_report : ReportAnswer → List ℤ → List ℤ
of_report (Ok given) lent = report_numbers given.delta given.age
of_report (Err refusal) lent = lent

abbrev pub after_report : ReportAnswer → List ℤ → ReportLeft
after_report answer lent =
    record { number = (answer_told answer).number; report = of_report answer lent }

-- A wrong length, or a number that asks for nothing, is refused by 100.
abbrev pub wrong_shape : List ℤ → ReportLeft
wrong_shape lent = record { number = shape; report = lent }

abbrev pub reported : List ℕ → Option Subject → List ℤ → ReportLeft
reported state (Some subject) lent = after_report (report (state_of state) subject) lent
reported state None lent = wrong_shape lent

unfoldable pub rothc_radiocarbon : List ℕ → ℕ → List ℤ → ReportLeft
rothc_radiocarbon state pool lent =
    cond (has state field_width && has lent report_width)
    (reported state (subject_of pool) lent) (wrong_shape lent)

-- ---- rothc_age_survival

-- The survival number of an age, which is at most 60,000 years.
unfoldable pub rothc_age_survival : ℕ → ℕ
rothc_age_survival years = cond (leb years age_limit) (age_survival years) no_survival
