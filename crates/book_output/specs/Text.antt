-- A text on its way into a lent slice of bytes, which it fills from the slice's start.
use Rattle.std.specs.Prelude.{◌≡◌, List, ℕ, ◌+◌, ◌≤◌, length}
use Rattle.book_digits.specs.Digits.{overwritten}
use Rattle.book_output.specs.declared.Text.{Text}

-- So many bytes more fit into the slice.
abbrev pub HasRoom : Text → ℕ → Type 0
HasRoom text n = text.len + n ≤ length text.out.now

-- Bytes are added to the text: they are put after it into the same slice, and all else there stays.
pub record Added (before : Text) (bytes : List ℕ) (after : Text) : Type 0 where
  pub same : after.out.ghost_name ≡ before.out.ghost_name
  pub size : length after.out.now ≡ length before.out.now
  pub len : after.len ≡ before.len + length bytes
  pub out : after.out.now ≡ overwritten before.out.now before.len bytes
