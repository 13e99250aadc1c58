-- The bytes of a line of numbers. A byte is a number, a text a list of bytes.
use Rattle.std.specs.Prelude.{cond, List, [], ◌∷◌, ◌++◌, ℕ, ◌-◌, eqb, length, slice_set, codes}

-- A byte that is put after those of a line that are not written yet. When there are 4,096 of them
-- they are written before it, so that the last byte of a line is never written before its end.
abbrev pub with_byte : List ℕ → ℕ → List ℕ
with_byte unwritten byte = cond (eqb (length unwritten) 4096) [] unwritten ++ (byte ∷ [])

-- Bytes that are put one after another.
unfoldable pub with_bytes : List ℕ → List ℕ → List ℕ
with_bytes unwritten [] = unwritten
with_bytes unwritten (byte ∷ bytes) = with_bytes (with_byte unwritten byte) bytes

-- The bytes that are written meanwhile. The law written_then_unwritten of proofs/Written.antt: they
-- and those that are not written yet make up what was there and what was put.
unfoldable pub written : List ℕ → List ℕ → List ℕ
written unwritten [] = []
written unwritten (byte ∷ bytes) =
    cond (eqb (length unwritten) 4096) unwritten [] ++ written (with_byte unwritten byte) bytes

-- The text of some numbers, each with a space (byte 32) after it.
unfoldable pub numbers_text : {X : Type 0} → (X → List ℕ) → List X → List ℕ
numbers_text text [] = []
numbers_text text (number ∷ numbers) = text number ++ (32 ∷ []) ++ numbers_text text numbers

-- The end of a line (byte 10) in the place of its last byte. A line with no bytes stays as it is.
abbrev pub ended : List ℕ → List ℕ
ended unwritten = slice_set unwritten (length unwritten - 1) 10

-- The line for an input that departs from the form.
abbrev pub fault_line : List ℕ
fault_line = codes "fault" ++ (10 ∷ [])
