-- The program's exit status. Whether an output was written whole depends on the operating system,
-- of which no definition tells.
use Rattle.std.specs.Prelude.{Bool, cond, ℕ}
use Rattle.rothc.specs.declared.Status.{Status}
use Rattle.rothc.specs.declared.Status.TheVariants.{Months, Refused, Failed}

-- 0 where the months and totals of a book were written whole, 1 where its refusal was, 2 otherwise.
unfoldable pub status_of : Bool → Bool → ℕ
status_of whole refused = cond whole (cond refused 1 0) 2

-- The number of a status.
abbrev pub status_number : Status → ℕ
status_number Months = 0
status_number Refused = 1
status_number Failed = 2
