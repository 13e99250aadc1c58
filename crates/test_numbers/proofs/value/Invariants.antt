-- The first digits' number, as far as the loop has come.
use Rattle.std.proofs.Common.{◌≡◌, ◌^◌, ◌<◌, take}
use Rattle.std.specs.Str.Parse.{digits_value}
use Rattle.test_numbers.proofs.value.Given as goal

abbrev pub invariant-loop-digit : goal.invariant-loop-digit
invariant-loop-digit l = record {
  so_far : l.n ≡ digits_value 10 (take l.digit-index l.digits);
  fits : l.n < 2 ^ 64;
}
