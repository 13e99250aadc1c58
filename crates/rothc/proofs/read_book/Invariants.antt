-- The loop of `read_book`: no more bytes came than there is room for. A read that gives some leaves
-- less room, and one that was interrupted leaves fewer tries.
use Rattle.std.proofs.Common.{length, ◌+◌, ◌-◌, ◌*◌, ◌≤◌}
use Rattle.rothc.proofs.read_book.Given as goal

abbrev pub invariant-loop-length : goal.invariant-loop-length
invariant-loop-length g l = (l.length ≤ length l.book) × (l.tries ≤ 1000000000)

abbrev pub decreases-loop-length : goal.decreases-loop-length
decreases-loop-length g l = 1000000001 * (length l.book - l.length) + l.tries
