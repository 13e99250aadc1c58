-- The loop of `write_whole`: a write that takes some bytes leaves fewer, and one that was interrupted
-- leaves fewer tries.
use Rattle.std.proofs.Common.{length, ◌+◌, ◌*◌, ◌≤◌}
use Rattle.rothc.proofs.write_whole.Given as goal

abbrev pub invariant-loop-left : goal.invariant-loop-left
invariant-loop-left g l = l.tries ≤ 1000000000

abbrev pub decreases-loop-left : goal.decreases-loop-left
decreases-loop-left g l = 1000000001 * length l.left + l.tries
