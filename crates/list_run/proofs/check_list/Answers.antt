-- `list_run::check_list` meets its contract: 3, 4 to 7, then 8 and 10.
-- Assumes nothing.
use Rattle.std.proofs.Common.{sym, ◌∙◌}
use Rattle.month_refusals.proofs.First.{left_by}
use Rattle.list_run.proofs.Laws.{weather_refused, land_refused, soil_refused, room_refused, bounds_found}
use Rattle.list_run.proofs.check_list.Goals as goal
use Rattle.list_run.proofs.check_list.Goals.{then-rows_outside-via-then-rows_outside, then-rows_outside-via-else-rows_outside+then-rows_outside-2}

pub returns-then-rows_outside : goal.returns-then-rows_outside
returns-then-rows_outside c = elim c.then-rows_outside.branch [
  | then-rows_outside-via-then-rows_outside w ↦ weather_refused _ _ _ _ (sym c.rows_outside.ensures ∙ w.if-rows_outside.true)
  | then-rows_outside-via-else-rows_outside+then-rows_outside-2 w ↦
      land_refused _ _ _ _ (sym w.rows_outside-else-rows_outside.ensures ∙ w.if-rows_outside-2.true)
]

pub returns-in_err-check_soil : goal.returns-in_err-check_soil
returns-in_err-check_soil c =
    rw (left_by c.from_residual.result c.from_residual.ensures.1)
    (soil_refused _ _ _ _
    (sym c.rows_outside.ensures ∙ c.if-rows_outside.false)
    (sym c.rows_outside-else-rows_outside.ensures ∙ c.if-rows_outside-2.false)
    c.check_soil.ensures c.in_err-check_soil.was)

pub returns-then-room-land : goal.returns-then-room-land
returns-then-room-land c =
    room_refused _ _ _ _
    (sym c.rows_outside.ensures ∙ c.if-rows_outside.false)
    (sym c.rows_outside-else-rows_outside.ensures ∙ c.if-rows_outside-2.false)
    c.check_soil.ensures c.in_ok-check_soil.was c.if-room-land.true

pub returns : goal.returns
returns c =
    bounds_found _ _ _ _
    (sym c.rows_outside.ensures ∙ c.if-rows_outside.false)
    (sym c.rows_outside-else-rows_outside.ensures ∙ c.if-rows_outside-2.false)
    c.check_soil.ensures c.in_ok-check_soil.was c.if-room-land.false c.check_bounds.ensures
