-- `book_run::soil_section` meets its contract: the soil's line is read, 4 to 7 are asked, and the weather follows with the new state.
-- Assumes nothing.
use mathlib.Core.Path.{◌≡◌, sym, ◌∙◌, ap}
use borrow.Author.Rules.{rules}
use Rattle.month_refusals.proofs.First.{left_by, value_kept, refusal_made}
use Rattle.month_state.specs.State.{new_state}
use Rattle.month_refusals.specs.declared.RefusedAt.{RefusedAt}
use Rattle.month_refusals.specs.Asked.{◌on◌}
use Rattle.month_refusals.specs.Refusals.{soil_check, state_check}
use Rattle.month_refusals.proofs.Accepted.{new_passes}
use Rattle.book_rows.proofs.Laws.{line_there, line_missing}
use Rattle.book_run.specs.Book.{soil_section}
use Rattle.book_run.proofs.Laws.{left_as}
use Rattle.book_run.proofs.soil_section.Goals as goal

pub returns-in_err-numbers : goal.returns-in_err-numbers
unfolding soil_section
returns-in_err-numbers c =
    let none = line_missing _ _ c.ok_or.ensures.value c.in_err-numbers.was in
    rw (left_by c.from_residual.result c.from_residual.ensures.1, sym c.soil_line.ensures ∙ none.0)
    (ap (λ (e : RefusedAt). left_as e c.args.rows.now) (sym none.1 ∙ c.on.ensures))

pub returns-in_err-map_err : goal.returns-in_err-map_err
unfolding soil_section
returns-in_err-map_err c =
    let there = sym c.soil_line.ensures ∙ line_there _ _ c.ok_or.ensures.value c.in_ok-numbers.was in
    let made = refusal_made _ _ c.map_err.ensures.cases c.in_err-map_err.was in
    let placed : c.in_err-map_err.field-0.0 ≡ made.0 on 2 = search (rules, made.2) in
    rw (
      left_by c.from_residual-in_err-map_err.result c.from_residual-in_err-map_err.ensures.1,
      there,
      sym (c.check_soil.ensures.first ∙ ap soil_check c.soil_of-soil.ensures) ∙ made.1,
    )
    (ap (λ (e : RefusedAt). left_as e c.args.rows.now) placed)

pub invariant_of-state : goal.invariant_of-state
invariant_of-state c =
    -- the soil passes, and so does its new state
    let passes =
    sym (c.check_soil.ensures.first ∙ ap soil_check c.soil_of-soil.ensures)
    ∙ value_kept _ _ c.map_err.ensures.cases c.in_ok-map_err.was in
    record { passes = ap state_check (c.new.ensures ∙ ap new_state c.soil_of-soil.ensures) ∙ new_passes _ passes }

pub returns : goal.returns
unfolding soil_section
returns c =
    rw (
      sym c.soil_line.ensures ∙ line_there _ _ c.ok_or.ensures.value c.in_ok-numbers.was,
      sym (c.check_soil.ensures.first ∙ ap soil_check c.soil_of-soil.ensures)
          ∙ value_kept _ _ c.map_err.ensures.cases c.in_ok-map_err.was,
    )
    (rw (c.new.ensures ∙ ap new_state c.soil_of-soil.ensures) at c.weather_head.ensures)
