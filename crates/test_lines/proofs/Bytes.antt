-- Bytes and numbers that are put into a line one after another.
use Rattle.std.proofs.Common.{◌≡◌, ℕ, ◌+◌, ◌<◌, ◌≤◌, List, [], ◌∷◌, ◌++◌, length, drop, get_or, refl, add-one, drop-cons}
use Rattle.std.proofs.lemmas.List.{drop_all}
use Rattle.test_lines.specs.Lines.{with_byte, with_bytes, numbers_text}

pub with_bytes-append : (unwritten first later : List ℕ)
    → with_bytes unwritten (first ++ later) ≡ with_bytes (with_bytes unwritten first) later
unfolding with_bytes
with_bytes-append unwritten [] later = refl
with_bytes-append unwritten (byte ∷ first) later = with_bytes-append (with_byte unwritten byte) first later

-- One more byte of a slice.
pub one_byte : (bytes : List ℕ) (i : ℕ) (unwritten : List ℕ) → i < length bytes
    → with_bytes unwritten (drop i bytes) ≡ with_bytes (with_byte unwritten (get_or bytes i 0)) (drop (i + 1) bytes)
unfolding with_bytes
one_byte bytes i unwritten below = rw (add-one, drop-cons bytes i 0)

pub all_bytes : (bytes : List ℕ) (i : ℕ) (unwritten : List ℕ) → length bytes ≤ i
    → with_bytes unwritten (drop i bytes) ≡ unwritten
unfolding with_bytes
all_bytes bytes i unwritten done = rw (drop_all i bytes done)

-- One more number of a list.
pub one_number : {X : Type 0} (text : X → List ℕ) (numbers : List X) (i : ℕ) (number : X) (unwritten : List ℕ)
    → i < length numbers → number ≡ get_or numbers i number
    → with_bytes unwritten (numbers_text text (drop i numbers))
    ≡ with_bytes (with_byte (with_bytes unwritten (text number)) 32) (numbers_text text (drop (i + 1) numbers))
unfolding numbers_text with_bytes
one_number text numbers i number unwritten below is =
    rw (
      add-one,
      drop-cons numbers i number,
      ← is,
      with_bytes-append unwritten (text number ++ (32 ∷ [])) _,
      with_bytes-append unwritten (text number) (32 ∷ []),
    )

pub all_numbers : {X : Type 0} (text : X → List ℕ) (numbers : List X) (i : ℕ) (unwritten : List ℕ)
    → length numbers ≤ i → with_bytes unwritten (numbers_text text (drop i numbers)) ≡ unwritten
unfolding numbers_text with_bytes
all_numbers text numbers i unwritten done = rw (drop_all i numbers done)
