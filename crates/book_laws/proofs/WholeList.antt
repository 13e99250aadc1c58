-- A WHOLE LIST: a well-formed book is what step 7's list makes of its numbers with all its checks, since none of them refuses.
-- Assumes nothing.
use Rattle.std.specs.Prelude.{Ok}
use mathlib.Core.Path.{◌≡◌, sym, ◌∙◌, ap}
use mathlib.Core.Bool.{false}
use mathlib.Core.List.{List}
use Prim.Native.Nat.{ℕ, ◌*◌, ◌≤◌, ◌<◌}
use native.Mathlib.Nat.{mul-mod_right, mul-div_cancel_left}
use native.Mathlib.Omega.{arith}
use borrow.Author.Tests.{le-ltb}
use lib.Dec.{lit<}
use lib.ListN.{length}
use Rattle.month_state.specs.State.{new_state}
use Rattle.list_rows.specs.Rows.{weather_width, land_width, row_width, land_rows, rows_outside}
use Rattle.month_refusals.specs.Asked.{first_of}
use Rattle.month_refusals.specs.Refusals.{soil_asked}
use Rattle.month_refusals.proofs.First.{finds, asked-false, none_left, then_asked}
use Rattle.month_refusals.proofs.Accepted.{state-parts, new_passes}
use Rattle.list_run.specs.Run.{room_asked, before_months}
use Rattle.list_run.proofs.Laws.{rows_pass, passes-run}
use Rattle.book_run.specs.Book.{soil_of, book_of}
use Rattle.book_rows.specs.RowText.{Counted}
use Rattle.book_rows.proofs.RowKinds.{rows-length}
use Rattle.book_laws.specs.BookText.{BookNumbers, book_text, WellFormed, weather_list, land_list, of_list, run_of, list_of}
use Rattle.book_laws.proofs.Rows.{weather-kind, land-kind}
use Rattle.book_laws.proofs.RoundTrip.{round_trip}

-- 3 finds nothing where a section's count is from 1 to 1,200, for rows of any width.
rows_inside : (width size n : ℕ) → 0 < width → size ≡ width * n → Counted n
    → rows_outside width size ≡ false
unfolding rows_outside
rows_inside width size n some is counted =
    rw (
      is,
      mul-mod_right width n,
      mul-div_cancel_left n some,
      le-ltb n 1 counted.least,
      le-ltb 1200 n counted.most,
    )

-- A month for each land row.
pub land-rows : (b : BookNumbers) → land_rows (land_list b) ≡ length b.land
land-rows b = omega (arith, rows-length land-kind b.land)

module _ (b : BookNumbers) (rows : List ℕ) (good : WellFormed b) (room : row_width * length b.land ≤ length rows) where
  passes : first_of (before_months (new_state (soil_of b.soil)) (weather_list b) (land_list b) (length rows)) ≡ Ok tt
  unfolding new_state room_asked
  passes =
      let soil = soil_of b.soil in
      let weather-inside = rows_inside weather_width _ _ (lit< tt) (rows-length weather-kind b.weather) good.weather_count in
      let land-inside = rows_inside land_width _ _ (lit< tt) (rows-length land-kind b.land) good.land_count in
      let enough : row_width * land_rows (land_list b) ≤ length rows = omega (arith, land-rows b) in
      let room-passes = sym (asked-false (le-ltb _ _ enough) none_left).first in
      let bounds-pass = (state-parts (new_state soil) (new_passes soil good.soil)).1 in
      sym (rows_pass (new_state soil) (weather_list b) (land_list b) (length rows) weather-inside land-inside
      (then_asked (soil_asked soil) good.soil
      (then_asked (room_asked (land_rows (land_list b)) (length rows)) room-passes (finds _ (sym bounds-pass))))).first

  -- The answer and every row are those of the list, as `list_run::run` runs it.
  pub book_run : book_of (book_text b) rows ≡ of_list b (run_of b rows)
  unfolding list_of
  book_run =
      round_trip b rows good
      ∙ ap (of_list b) (passes-run (new_state (soil_of b.soil)) (weather_list b) (land_list b) rows passes)
