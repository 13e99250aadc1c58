-- The loop's invariant: reading on gives what reading from the start gives, and the value has room for the digits that are
-- left.
use Rattle.book_values.proofs.Reading.{Reading}
use Rattle.book_values.proofs.more_digits.Given as goal

abbrev pub invariant-loop : goal.invariant-loop
invariant-loop l = Reading l.s l.at l.first l.counter l.value l.next
