-- An array of so many numbers, as `numbers` reads them.
use Rattle.std.proofs.lemmas.List.{length-replicate}
use Rattle.test_numbers.proofs.Numbers.{array_is}
use Rattle.test_numbers.proofs.Reader.array.Goals as goal

pub returns : goal.returns
returns g c =
    array_is g.T.Number.gives _ _ _ _ _ (length-replicate _ _) c.in_ok-numbers.ensures.read c.numbers.ensures.memory
