-- ONLY SO: a text that is read is the table of rows that pass, and is read as these: no other form is taken. What is not read is
-- refused by one of 3, 8, 18, 13 and 14, and leaves the output as it was.
-- Assumes nothing.
use Rattle.std.specs.Prelude.{Ok, Err}
use mathlib.Core.Path.{◌≡◌, refl, sym, ◌∙◌, ap}
use mathlib.Core.Bool.{true}
use mathlib.Core.List.{List, [], ◌++◌, append-nil}
use Prim.Native.Nat.{ℕ, ◌+◌}
use native.Mathlib.Omega.{arith}
use lib.IntN.{ℤ, pos}
use lib.ListN.{length, drop}
use Rattle.month_state.specs.declared.Weather.{Weather}
use Rattle.month_refusals.specs.declared.Refusal.{Refusal}
use Rattle.month_refusals.specs.declared.RefusedAt.{RefusedAt}
use Rattle.month_refusals.specs.Asked.{Check, first_of, ◌on◌}
use Rattle.month_refusals.proofs.First.{finds_own}
use Rattle.list_rows.specs.Rows.{weather_numbers}
use Rattle.book_rows.specs.Rows.{RowsRead}
use Rattle.book_rows.specs.RowText.{lines_from, SoundFrom, Counted}
use Rattle.book_rows.proofs.RowKinds.{LinesAre, written, other, rows_only}
use Rattle.table_lines.specs.Lines.{line_count}
use Rattle.table_lines.proofs.Laws.{count_none}
use Rattle.table_import.specs.Table.{read_table, before_lines, TableLeft, refused_at, after_lines, table_checked, table_of}
use Rattle.table_import.proofs.Laws.{roomy}
use Rattle.table_laws.specs.TableText.{table_line_of, table_text, TableRows, read_as, Written, refuses_table}
use Rattle.table_laws.proofs.Rows.{table_kind, lines_counted}

-- ---- how a table ends

-- It is the table of such rows and is read as these, or it is refused by one of the numbers and leaves the output.
data Ends (s : List ℕ) (out : List ℤ) : TableLeft → Type 0 where
  read : (rows : List Weather) → TableRows rows → s ≡ table_text rows → Ends s out (read_as rows out)
  refused : {r : Refusal} {place : ℕ} → refuses_table r ≡ true → Ends s out (refused_at r place out)

module _ (s : List ℕ) (out : List ℤ) where
  by_check :
      (check : Check) (later : TableLeft) → first_of (before_lines (line_count s) (length out)) ≡ check
      → (check ≡ Ok tt → Ends s out later) → Ends s out (table_checked check out later)
  unfolding before_lines
  by_check (Ok _) later is rest = rest refl
  by_check (Err r) later is rest = refused (finds_own refuses_table (before_lines (line_count s) (length out)) refl is)

  -- After as many lines as the text has, nothing is left of it.
  whole-text :
      (xs : List Weather) (end : ℕ) → length xs ≡ line_count s → s ≡ lines_from table_line_of 1 xs ++ drop end s → s ≡ table_text xs
  unfolding table_text
  whole-text xs end size text =
      let rest : line_count s ≡ length xs + line_count (drop end s) = ap line_count text ∙ lines_counted xs 1 (drop end s) in
      let none : drop end s ≡ [] = count_none (drop end s) (omega (arith, rest, size)) in
      text ∙ rw none (append-nil (lines_from table_line_of 1 xs))

  by_lines :
      {lines : ℕ} {found : RowsRead} → LinesAre table_line_of weather_numbers (SoundFrom (pos 1)) refuses_table lines s 0 1 found
      → lines ≡ line_count s → Counted lines → Ends s out (after_lines found.ends lines found.numbers out)
  by_lines (written {end} xs size sound text) is counted =
      rw (sym size)
      (read xs (record { count = rw size counted; sound = sound }) (whole-text xs end (size ∙ is) text))
  by_lines (other own) is counted = refused own

  table_ends : Ends s out (table_of s out)
  unfolding table_of read_table
  table_ends =
      by_check (first_of (before_lines (line_count s) (length out))) _ refl (λ pass.
      let r = roomy (line_count s) (length out) pass in
      by_lines (rows_only table_kind (line_count s) s 0 1) refl (record { least = r.least; most = r.most }))

  -- A table that is read.
  pub only_so : (rows : ℕ) → (table_of s out).answer ≡ Ok rows → Written s out
  only_so rows h = of_ends table_ends refl h
    where
      of_ends : {left : TableLeft} → Ends s out left → table_of s out ≡ left → left.answer ≡ Ok rows → Written s out
      of_ends (read xs good text) is h = record { rows = xs; good = good; text = text; left = is }
      of_ends (refused own) is h = absurd (let z : ◌≡◌ {A = ℕ} 0 1 = cc in omega arith)

  -- One that is refused.
  pub refused_so :
      (r : Refusal) (place : ℕ) → (table_of s out).answer ≡ Err (r on place)
      → (refuses_table r ≡ true) × (table_of s out ≡ refused_at r place out)
  refused_so r place h = of_ends table_ends refl h
    where
      of_ends :
          {left : TableLeft} → Ends s out left → table_of s out ≡ left → left.answer ≡ Err (r on place)
          → (refuses_table r ≡ true) × (table_of s out ≡ refused_at r place out)
      of_ends (read xs good text) is h = absurd (let z : ◌≡◌ {A = ℕ} 0 1 = cc in omega arith)
      of_ends (refused {r = reason} {place = found} own) is h =
          let both : (reason on found) ≡ (r on place) = cc in
          let same : reason ≡ r = ap (λ (e : RefusedAt). e.refusal) both in
          let there : found ≡ place = ap (λ (e : RefusedAt). e.place) both in
          (rw (sym same) own, is ∙ rw (same, there))
