-- The numbers read so far stand at the memory's front, and the others are read of what is left.
use Rattle.test_numbers.proofs.Numbers.{IsReadSoFar}
use Rattle.test_numbers.proofs.Reader.numbers.Given as goal

abbrev pub invariant-loop-number : goal.invariant-loop-number
invariant-loop-number g l = IsReadSoFar g.T.Number.gives l.fn.memory l.fn.self.left.now l.memory l.number-index l.self.left.now
