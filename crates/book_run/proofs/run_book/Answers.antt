-- `book_run::run_book` meets its contract: the length is tested, the soil's head is read and its count tested, and the soil follows.
-- Assumes nothing.
use mathlib.Core.Path.{◌≡◌, refl, sym, ◌∙◌, ap}
use mathlib.Core.List.{List}
use Prim.Native.Nat.{ℕ}
use borrow.Author.Tests.{lt-ltb, le-ltb, eq-eqb, ne_eqb}
use Rattle.month_refusals.proofs.First.{left_by}
use Rattle.month_refusals.specs.declared.RefusedAt.{RefusedAt}
use Rattle.month_refusals.specs.Asked.{told, Exactly, placed_found, placed_told}
use Rattle.book_run.specs.Book.{BookLeft, book_of}
use Rattle.book_run.specs.BookAsked.{book_asked}
use Rattle.book_run.proofs.Refusals.{book_told_lem, book_exactly}
use Rattle.book_rows.proofs.Laws.{line_there, line_missing}
use Rattle.book_run.proofs.Laws.{left_as}
use Rattle.book_run.proofs.run_book.Goals as goal

-- What a book leaves says what its questions find.
promised :
    (s rows : List ℕ) {ends : BookLeft} → ends ≡ book_of s rows
    → record {
      left : ends ≡ book_of s rows;
      told : placed_told ends.answer ≡ told (book_asked s);
      exactly : Exactly (book_asked s) (placed_found ends.answer);
    }
promised s rows is = rw is (record { left = refl; told = book_told_lem s rows; exactly = book_exactly s rows })

pub returns-then-s-gt-LENGTH_LIMIT : goal.returns-then-s-gt-LENGTH_LIMIT
unfolding book_of
returns-then-s-gt-LENGTH_LIMIT c = promised _ _ (rw (c.on.ensures, lt-ltb _ _ c.if-s-gt-LENGTH_LIMIT.true) refl)

pub returns-in_err-count : goal.returns-in_err-count
unfolding book_of
returns-in_err-count c =
    let none = line_missing _ _ c.ok_or.ensures.value c.in_err-count.was in
    promised _ _
    (rw (left_by c.from_residual.result c.from_residual.ensures.1, le-ltb _ _ c.if-s-gt-LENGTH_LIMIT.false, sym c.head_line.ensures ∙ none.0)
    (ap (λ (e : RefusedAt). left_as e c.args.rows.now) (sym none.1 ∙ c.on-2.ensures)))

pub returns-then-count-ne1 : goal.returns-then-count-ne1
unfolding book_of
returns-then-count-ne1 c =
    let there = line_there _ _ c.ok_or.ensures.value c.in_ok-count.was in
    promised _ _
    (rw (c.on-then-count-ne1.ensures, le-ltb _ _ c.if-s-gt-LENGTH_LIMIT.false, sym c.head_line.ensures ∙ there, ne_eqb _ _ c.if-count-ne1.true) refl)

pub returns : goal.returns
unfolding book_of
returns c =
    let there = line_there _ _ c.ok_or.ensures.value c.in_ok-count.was in
    promised _ _
    (rw (le-ltb _ _ c.if-s-gt-LENGTH_LIMIT.false, sym c.head_line.ensures ∙ there, eq-eqb _ _ c.if-count-ne1.false)
    c.soil_section.ensures)
