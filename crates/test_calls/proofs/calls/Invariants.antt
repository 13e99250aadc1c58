-- The loop of `calls` ends: each call leaves less of the text, and that is the measure.
use Rattle.std.proofs.Common.{length}
use Rattle.test_calls.proofs.calls.Given as goal

abbrev pub decreases-loop-left : goal.decreases-loop-left
decreases-loop-left l = length l.left
