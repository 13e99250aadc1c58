-- `radiocarbon_report::report` meets its contract: 4 to 7 and 10, then 22, then delta and age of what the definitions name.
-- Assumes nothing.
use Rattle.std.proofs.Common.{◌≡◌, sym, ◌∙◌, ap, ℕ, Ok}
use native.Mathlib.Omega.{arith}
use lib.Dec.{lit≤}
use Rattle.step_modern.specs.Modern.{inert_activity}
use Rattle.step_modern.proofs.Laws.{modern-most}
use Rattle.month_refusals.specs.Refusals.{state_check}
use Rattle.month_refusals.proofs.First.{left_by}
use Rattle.month_refusals.proofs.Accepted.{sound-state}
use Rattle.radiocarbon_report.specs.Report.{grams_of, modern_of}
use Rattle.radiocarbon_report.proofs.Laws.{state-refused, none-refused, some_given, promised, carbon-most, modern_fits}
use Rattle.radiocarbon_report.proofs.report.Goals as goal
use Rattle.radiocarbon_report.proofs.report.Goals.{In_ok-check_state, After-grams_of-modern}

passes : (c : In_ok-check_state) → state_check c.args.s ≡ Ok tt
passes c = sym c.check_state.ensures.first ∙ c.in_ok-check_state.was

pub returns-in_err-check_state : goal.returns-in_err-check_state
returns-in_err-check_state c =
    let a = c.args in
    let refused = state-refused a.s a.subject (sym c.check_state.ensures.first ∙ c.in_err-check_state.was) in
    promised a.s a.subject (left_by c.from_residual.result c.from_residual.ensures.1 ∙ sym refused)

pub grams_of-carbon-requires : goal.grams_of-carbon-requires
grams_of-carbon-requires c =
    let sound = sound-state c.args.s (passes (goal.at.grams_of-carbon-requires c).In_ok-check_state) in
    omega (arith, sound.soil.pools, sound.soil.iom)

pub returns-then-carbon-eq0 : goal.returns-then-carbon-eq0
returns-then-carbon-eq0 c =
    let a = c.args in
    let pass = passes (goal.at.returns-then-carbon-eq0 c).In_ok-check_state in
    promised a.s a.subject (sym (none-refused a.s a.subject pass (sym c.grams_of-carbon.ensures ∙ c.if-carbon-eq0.true)))

pub modern_grams-inert-requires : goal.modern_grams-inert-requires
modern_grams-inert-requires c =
    ((sound-state c.args.s (passes (goal.at.modern_grams-inert-requires c).In_ok-check_state)).soil.iom, lit≤ tt)

pub grams_of-modern-requires : goal.grams_of-modern-requires
grams_of-modern-requires c =
    let sound = sound-state c.args.s (passes (goal.at.grams_of-modern-requires c).In_ok-check_state) in
    omega (
      arith,
      sound.modern,
      sound.months,
      sound.soil.iom,
      c.modern_grams-inert.ensures,
      modern-most c.args.s.soil.iom.0 {activity = inert_activity} (lit≤ tt),
    )

-- the modern grams are the definition's
modern-is : (c : After-grams_of-modern) → c.grams_of-modern.result.0 ≡ modern_of c.args.subject c.args.s
modern-is c =
    c.grams_of-modern.ensures
    ∙ ap (λ (inert : ℕ). grams_of c.args.subject c.args.s.modern inert) c.modern_grams-inert.ensures

pub report_on-requires : goal.report_on-requires
report_on-requires c =
    let a = c.args in
    let pass = passes (goal.at.report_on-requires c).In_ok-check_state in (
      omega (arith, modern-is (goal.at.report_on-requires c).After-grams_of-modern, modern_fits a.s a.subject pass),
      omega (arith, c.if-carbon-eq0.false),
    )

pub invariant_of-share : goal.invariant_of-share
invariant_of-share c =
    let a = c.args in
    let pass = passes (goal.at.invariant_of-share c).In_ok-check_state in
    record { within = omega (arith, c.grams_of-carbon.ensures, carbon-most a.s a.subject pass) }

pub returns : goal.returns
returns c =
    let a = c.args in
    let pass = passes (goal.at.returns c).In_ok-check_state in
    let some = some_given a.s a.subject pass (λ none. c.if-carbon-eq0.false (c.grams_of-carbon.ensures ∙ none)) in
    promised a.s a.subject (c.report_on.ensures ∙ rw (modern-is (goal.at.returns c).After-grams_of-modern, c.grams_of-carbon.ensures) (sym some))
