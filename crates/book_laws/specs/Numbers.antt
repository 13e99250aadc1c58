-- The refusals of a book.
use Rattle.std.specs.Prelude.{Bool, not, ◌&&◌, leb}
use Rattle.month_refusals.specs.declared.Refusal.{Refusal}
use Rattle.month_refusals.specs.Asked.{refusal_number}

-- 8 to 12 never refuse a book: 8, 9 and 11 ask nothing of it, and no book comes to 10 or 12. Nor do
-- 18, a table's; 19, since its rows get source 0; 20, a taking-back's; 21, since its rows get
-- activity 1000; and 22, a report's.
abbrev pub refuses_book : Refusal → Bool
refuses_book refusal =
    not (leb 8 (refusal_number refusal) && leb (refusal_number refusal) 12)
    && leb (refusal_number refusal) 17
