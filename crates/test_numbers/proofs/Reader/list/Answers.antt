-- A count, and as many numbers as `numbers` reads.
use Rattle.test_numbers.proofs.Numbers.{no_count, no_room, no_list, list_is}
use Rattle.test_numbers.proofs.Reader.list.Goals as goal

pub returns-in_err-count : goal.returns-in_err-count
returns-in_err-count g c =
    rw c.from_residual.ensures (no_count g.T.Number.gives _ _ _ c.in_err-count.ensures)

pub returns-in_err-list : goal.returns-in_err-list
returns-in_err-list g c =
    rw c.from_residual-in_err-list.ensures
    (no_room g.T.Number.gives _ _ _ _ c.in_ok-count.ensures c.in_err-list.ensures.lookup.0)

pub returns-in_err-numbers : goal.returns-in_err-numbers
returns-in_err-numbers g c =
    let found = c.in_ok-list.ensures.lookup.0 in
    rw c.from_residual-in_err-numbers.ensures
    (no_list g.T.Number.gives _ _ _ _ _ _ c.in_ok-count.ensures found.1 found.3 c.in_err-numbers.ensures.read)

pub returns : goal.returns
returns g c =
    let found = c.in_ok-list.ensures.lookup.0 in
    list_is g.T.Number.gives _ _ _ _ _ _ _ c.in_ok-count.ensures found.1 found.3 c.in_ok-numbers.ensures.read
    c.numbers.ensures.memory
