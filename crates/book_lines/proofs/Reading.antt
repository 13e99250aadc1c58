-- How the parts of a line are read where they stand: a space and a value, a line's end, and a head's name.
-- Assumes nothing.
use Rattle.std.specs.Prelude.{Some}
use mathlib.Core.Path.{◌≡◌}
use mathlib.Core.Bool.{true}
use mathlib.Core.List.{List}
use Prim.Native.Nat.{ℕ, ◌+◌}
use lib.ListN.{length}
use Rattle.book_values.specs.Values.{byte_is, read_value}
use Rattle.book_lines.specs.Lines.{bytes_are, spaced_value, ended, head_line}

-- A space and a value after it.
pub spaced_some : (s : List ℕ) (at : ℕ) → byte_is s at 32 ≡ true → spaced_value s at ≡ read_value s (at + 1)
unfolding spaced_value
spaced_some s at b = rw b

-- A value with the line's end after it.
pub ended_some : (s : List ℕ) (n next : ℕ) → byte_is s next 10 ≡ true →
    ended s (Some (n, next)) ≡ Some (n, next + 1)
unfolding ended
ended_some s n next b = rw b

-- A head's name and what follows it.
pub head_some : (s : List ℕ) (at : ℕ) (name : List ℕ) → bytes_are s at name ≡ true →
    head_line s at name ≡ ended s (read_value s (at + length name))
unfolding head_line
head_some s at name b = rw b
