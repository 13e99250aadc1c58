-- A number that is read is put after the others; one that departs from the form leaves the memory.
use Rattle.test_numbers.proofs.Numbers.{more_read, ended_read, ended_memory, all_read_is, all_read_memory}
use Rattle.test_numbers.proofs.Reader.numbers.Goals as goal

pub returns-in_err-number-clause-read : goal.returns-in_err-number-clause-read
returns-in_err-number-clause-read g c =
    rw c.from_residual.ensures
    (ended_read g.T.Number.gives _ _ _ _ _ _ c.loop-number.invariant c.loop-number-test.true c.in_err-number.ensures)

pub returns-in_err-number-clause-memory : goal.returns-in_err-number-clause-memory
returns-in_err-number-clause-memory g c =
    ended_memory g.T.Number.gives _ _ _ _ _ _ _ c.loop-number.invariant c.loop-number-test.true c.in_err-number.ensures

pub loop-number-preserved : goal.loop-number-preserved
loop-number-preserved g c =
    more_read g.T.Number.gives _ _ _ _ _ _ _ c.loop-number.invariant c.loop-number-test.true c.in_ok-number.ensures

pub returns-clause-read : goal.returns-clause-read
returns-clause-read g c =
    all_read_is g.T.Number.gives _ _ _ _ _ c.loop-number.invariant c.loop-number-test.false

pub returns-clause-memory : goal.returns-clause-memory
returns-clause-memory g c =
    all_read_memory g.T.Number.gives _ _ _ _ _ c.loop-number.invariant c.loop-number-test.false
