-- Laws of the report: which refusal is given, in the papers' order, and that the carbon and the modern grams of an accepted state fit.
-- Assumes nothing.
use Rattle.std.specs.Prelude.{Ok, Err}
use mathlib.Core.Path.{◌≡◌, refl, sym, ◌∙◌, ap}
use mathlib.Core.Bool.{true}
use mathlib.Core.List.{[], ◌∷◌}
use Prim.Native.Nat.{ℕ, ◌≤◌, ◌^◌}
use native.Mathlib.Omega.{arith}
use borrow.Author.Tests.{ne_eqb}
use lib.Dec.{eqb, lit≤}
use Rattle.step_pools.specs.Pools.{total}
use Rattle.step_modern.specs.Modern.{inert_activity}
use Rattle.step_modern.proofs.Laws.{modern-most}
use Rattle.month_state.specs.declared.State.{State}
use Rattle.month_refusals.specs.Asked.{Check, ◌if◌, given, at, found, told, number_and_place, first_of, Exactly, checking_order, part_of}
use Rattle.month_refusals.specs.Asked.{answer_found, answer_told}
use Rattle.month_refusals.specs.declared.Refusal.{Refusal}
use Rattle.month_refusals.specs.declared.Refusal.TheVariants.{NoCarbon}
use Rattle.month_refusals.specs.Refusals.{soil_asked, bounds_asked, state_asked, state_check}
use Rattle.month_refusals.proofs.First.{found_at, found-at, exactly, followed_by, first-append}
use Rattle.month_refusals.proofs.Accepted.{Sound, sound-state}
use Rattle.radiocarbon_age.specs.Age.{age_of}
use Rattle.radiocarbon_age.proofs.Laws.{age_means}
use Rattle.radiocarbon_report.specs.declared.Subject.{Subject}
use Rattle.radiocarbon_report.specs.declared.Subject.TheVariants.{Dpm, Rpm, Bio, Hum, Iom, AllFive}
use Rattle.radiocarbon_report.specs.Report.{ReportAnswer, carbon_of, modern_of, report_asked, report_on, report_checked, report, AgeMeans}

-- ---- which refusal is given

checked_found :
    (check : Check) (modern carbon : ℕ) → answer_found (report_checked check (report_on modern carbon)) ≡ found_at 0 check
checked_found (Ok _) modern carbon = refl
checked_found (Err refusal) modern carbon = refl

module _ (s : State) (subject : Subject) where
  report-found : answer_found (report s subject) ≡ found (at 0 (report_asked s subject))
  unfolding report
  report-found =
      checked_found (first_of (report_asked s subject)) (modern_of subject s) (carbon_of subject s)
      ∙ sym (found-at 0 (report_asked s subject))

  pub report-told : answer_told (report s subject) ≡ told (at 0 (report_asked s subject))
  report-told = ap number_and_place report-found

  pub report_exactly : Exactly (at 0 (report_asked s subject)) (answer_found (report s subject))
  report_exactly = exactly report-found

  pub report_in_order : part_of checking_order (report_asked s subject) ≡ true
  unfolding part_of report_asked state_asked soil_asked bounds_asked
  report_in_order = refl

  -- ---- the answers

  -- 22 is asked after what is asked of the state.
  asked_in_turn :
      first_of (report_asked s subject) ≡ followed_by (state_check s) (given (eqb (carbon_of subject s) 0) NoCarbon (Ok tt))
  unfolding report_asked first_of
  asked_in_turn = first-append (state_asked s) ((NoCarbon if eqb (carbon_of subject s) 0) ∷ [])

  pub state-refused : {refusal : Refusal} → state_check s ≡ Err refusal → report s subject ≡ Err refusal
  unfolding report
  state-refused h = rw (asked_in_turn, h)

  pub none-refused : state_check s ≡ Ok tt → carbon_of subject s ≡ 0 → report s subject ≡ Err NoCarbon
  unfolding report
  none-refused h none = rw (asked_in_turn, h, none)

  pub some_given :
      state_check s ≡ Ok tt → (carbon_of subject s ≡ 0 → ⊥)
      → report s subject ≡ report_on (modern_of subject s) (carbon_of subject s)
  unfolding report
  some_given h some = rw (asked_in_turn, h, ne_eqb (carbon_of subject s) 0 some)

  -- What the age of the answer says.
  checked_means : (check : Check) → AgeMeans s subject (report_checked check (report_on (modern_of subject s) (carbon_of subject s)))
  checked_means (Ok _) =
      record {
        age = λ given is.
            let same : age_of (modern_of subject s) (carbon_of subject s) ≡ given.age = cc in
            rw (sym same) (age_means (modern_of subject s) (carbon_of subject s));
      }
  checked_means (Err refusal) =
      record { age = λ given is. absurd (let z : ◌≡◌ {A = ℕ} 0 1 = cc in omega arith) }

  -- An answer that is the definition's keeps all the promises.
  pub promised :
      {r : ReportAnswer} → r ≡ report s subject
      → record {
        answer : r ≡ report s subject;
        told : answer_told r ≡ told (at 0 (report_asked s subject));
        exactly : Exactly (at 0 (report_asked s subject)) (answer_found r);
        order : part_of checking_order (report_asked s subject) ≡ true;
        age : AgeMeans s subject r;
      }
  unfolding report
  promised is =
      rw is
      (record {
        answer = refl;
        told = report-told;
        exactly = report_exactly;
        order = report_in_order;
        age = checked_means (first_of (report_asked s subject));
      })

-- ---- how much there is

-- Carbon is at most 2,000,000,000, ..
pub carbon-most : (s : State) (subject : Subject) → state_check s ≡ Ok tt → carbon_of subject s ≤ 2000000000
unfolding total
carbon-most s subject pass = by subject
  where
    sound : Sound s
    sound = sound-state s pass

    by : (subject : Subject) → carbon_of subject s ≤ 2000000000
    by Dpm = omega (arith, sound.soil.pools)
    by Rpm = omega (arith, sound.soil.pools)
    by Bio = omega (arith, sound.soil.pools)
    by Hum = omega (arith, sound.soil.pools)
    by Iom = omega (arith, sound.soil.iom)
    by AllFive = omega (arith, sound.soil.pools, sound.soil.iom)

-- .. and modern grams are at most 2^46.
pub modern_fits : (s : State) (subject : Subject) → state_check s ≡ Ok tt → modern_of subject s ≤ 2 ^ 46
unfolding total
modern_fits s subject pass = by subject
  where
    sound : Sound s
    sound = sound-state s pass

    by : (subject : Subject) → modern_of subject s ≤ 2 ^ 46
    by Dpm = omega (arith, sound.modern, sound.months)
    by Rpm = omega (arith, sound.modern, sound.months)
    by Bio = omega (arith, sound.modern, sound.months)
    by Hum = omega (arith, sound.modern, sound.months)
    by Iom = omega (arith, sound.soil.iom, modern-most s.soil.iom.0 {activity = inert_activity} (lit≤ tt))
    by AllFive =
        omega (
          arith,
          sound.modern,
          sound.months,
          sound.soil.iom,
          modern-most s.soil.iom.0 {activity = inert_activity} (lit≤ tt),
        )
