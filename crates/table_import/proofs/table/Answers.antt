-- `table_import::table` meets its contract: 3 or 8 or a line that is refused leaves the output, and lines that are all read put
-- their numbers over its front.
-- Assumes nothing.
use Rattle.std.proofs.Common.{rules, ◌≡◌, sym, ◌∙◌}
use Rattle.month_refusals.specs.Asked.{◌on◌}
use Rattle.month_refusals.proofs.First.{left_by, value_kept, refusal_made}
use Rattle.table_import.specs.Table.{read_table}
use Rattle.table_import.proofs.Laws.{lines_refused, lines_put, room_enough, table_passes, table_refuses, left_told, left_exactly}
use Rattle.table_import.proofs.table.Goals as goal

pub returns-in_err-map_err : goal.returns-in_err-map_err
returns-in_err-map_err c =
    let a = c.args in
    let refused = refusal_made c.check_lines.result _ c.map_err.ensures.cases c.in_err-map_err.was in
    let put : c.in_err-map_err.field-0.0 ≡ refused.0 on 0 = search rules in
    let is = table_refuses a.s.now a.out.now _ c.line_count-lines.ensures c.check_lines.ensures refused.1 in
    rw (left_by c.from_residual.result c.from_residual.ensures.1, put)
    (record { left = is; told = left_told _ _ is; exactly = left_exactly _ _ is })

pub returns-in_err-read_rows : goal.returns-in_err-read_rows
unfolding read_table
returns-in_err-read_rows c =
    let a = c.args in
    let lines = c.line_count-lines.result in
    let left = c.from_residual-in_err-read_rows in
    let passed = value_kept c.check_lines.result _ c.map_err.ensures.cases c.in_ok-map_err.was in
    let is =
    lines_refused lines (read_table lines a.s.now).numbers a.out.now (sym c.read_rows.ensures.ends ∙ c.in_err-read_rows.was)
    ∙ table_passes a.s.now a.out.now lines c.line_count-lines.ensures c.check_lines.ensures passed in
    rw (left_by left.result left.ensures.1) (record { left = is; told = left_told _ _ is; exactly = left_exactly _ _ is })

pub returns : goal.returns
unfolding read_table
returns c =
    let a = c.args in
    let lines = c.line_count-lines.result in
    let passed = value_kept c.check_lines.result _ c.map_err.ensures.cases c.in_ok-map_err.was in
    let is =
    lines_put a.s.now lines c.read_rows.ensures.ends c.in_ok-read_rows.was _ a.out.now c.read_rows.ensures.numbers
    c.copy_from_slice.ensures.after (room_enough _ _ c.check_lines.ensures passed)
    ∙ table_passes a.s.now a.out.now lines c.line_count-lines.ensures c.check_lines.ensures passed in
    record { left = is; told = left_told _ _ is; exactly = left_exactly _ _ is }
