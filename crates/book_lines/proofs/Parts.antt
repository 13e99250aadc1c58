-- The parts of a line beside the text: a name's bytes that were found stand there, and bytes that stand there are found;
-- likewise a spaced value, and a value with the line's end after it. Assumes nothing.
use Rattle.std.specs.Prelude.{Option, None, Some}
use Rattle.std.proofs.lemmas.Option.{none-some, some_pair_parts}
use mathlib.Core.Path.{◌≡◌, refl, sym, ◌∙◌, ap}
use mathlib.Core.Bool.{Bool, true, false}
use mathlib.Core.List.{List, [], ◌∷◌, ◌++◌}
use mathlib.Core.Logic.{inl, inr}
use Prim.Native.Nat.{ℕ, min, ◌-◌, ◌+◌, ◌^◌, ◌≤◌, ◌<◌}
use native.Mathlib.Nat.{add-zero}
use native.Mathlib.Omega.{arith}
use native.Mathlib.Decide.{dec_lt}
use lib.Dec.{eqb}
use lib.ListN.{length, get_or, take, drop, length-drop, length-append, drop_of_length-le}
use Rattle.std.specs.List.{starts_with}
use Rattle.std.proofs.lemmas.List.{take_rest}
use Rattle.std.proofs.lemmas.Bool.Decides.{Decides-eqb}
use Rattle.std.proofs.lemmas.Slice.Eq.{starts_is}
use Rattle.book_digits.specs.Digits.{decimal, spaced, line_end}
use Rattle.book_values.specs.Values.{is_digit, byte_is, read_value}
use Rattle.book_values.proofs.Reading.{contrary, digit_below, either, byte_is_within}
use Rattle.book_values.proofs.Texts.{byte_read, byte_round, after, PartRead, byte_first, part_then, tested}
use Rattle.book_values.proofs.Laws.{value_read, value_round}
use Rattle.book_lines.specs.Lines.{bytes_are, spaced_value, ended}
use Rattle.book_lines.proofs.Reading.{spaced_some, ended_some}

-- Bytes one after another.
pub bytes_read : (s : List ℕ) (at : ℕ) (bytes : List ℕ) → bytes_are s at bytes ≡ true →
    drop at s ≡ bytes ++ drop (at + length bytes) s
unfolding bytes_are
bytes_read s at [] b = rw add-zero
bytes_read s at (byte ∷ bytes) b = elim (either (byte_is s at byte)) [
  | inl here ↦
      let rest : bytes_are s (at + 1) bytes ≡ true = rw here at b in
      let place : at + 1 + length bytes ≡ at + length (byte ∷ bytes) = omega arith in
      byte_read s at byte here
      ∙ ap (λ (l : List ℕ). byte ∷ l)
      (bytes_read s (at + 1) bytes rest ∙ ap (λ (k : ℕ). bytes ++ drop k s) place)
  | inr here ↦ absurd (contrary (rw here at b) refl)
]

-- They end within the text, or there are none of them.
pub bytes_within : (s : List ℕ) (at : ℕ) (bytes : List ℕ) → bytes_are s at bytes ≡ true → 0 < length bytes →
    at + length bytes ≤ length s
bytes_within s at bytes b h = omega (arith, simp (length-append, length-drop) at (ap length (bytes_read s at bytes b)))

pub bytes_round : (s : List ℕ) (at : ℕ) (bytes rest : List ℕ) → drop at s ≡ bytes ++ rest → bytes_are s at bytes ≡ true
unfolding bytes_are
bytes_round s at [] rest e = refl
bytes_round s at (byte ∷ bytes) rest e =
    rw (byte_round s at byte (bytes ++ rest) e) (bytes_round s (at + 1) bytes rest (after s at (byte ∷ []) (bytes ++ rest) e))

-- What `starts_with` says of the text from a place on, or of none past its end.
from_place : (s : List ℕ) (at : ℕ) → drop (min at (length s)) s ≡ drop at s
from_place s at = elim (dec_lt at (length s)) [
  | yes h ↦ ap (λ (k : ℕ). drop k s) (omega arith)
  | no h ↦
      drop_of_length-le s (omega arith) ∙ sym (drop_of_length-le s (omega arith))
]

pub starts_are : (s : List ℕ) (at : ℕ) (bytes : List ℕ) (r : Bool) → r ≡ starts_with eqb (drop at s) bytes →
    r ≡ bytes_are s at bytes
starts_are s at bytes true e = sym (bytes_round s at bytes _ ((starts_is Decides-eqb (drop at s) bytes true e).0 refl))
starts_are s at bytes false e = elim (either (bytes_are s at bytes)) [
  | inl t ↦
      absurd (contrary ((starts_is Decides-eqb (drop at s) bytes false e).1 _ (bytes_read s at bytes t)) refl)
  | inr t ↦ sym t
]

pub starts_from : (s : List ℕ) (at place : ℕ) (bytes : List ℕ) (r : Bool) → place ≡ min at (length s) →
    r ≡ starts_with eqb (take (length s - place) (drop place s)) bytes → r ≡ bytes_are s at bytes
starts_from s at place bytes r p e =
    starts_are s at bytes r
    (e ∙ ap (λ (l : List ℕ). starts_with eqb l bytes) (take_rest s place ∙ ap (λ (k : ℕ). drop k s) p ∙ from_place s at))

-- A space and a value.
pub spaced_read : (s : List ℕ) (at n next : ℕ) → spaced_value s at ≡ Some (n, next) →
    PartRead (10 ^ 10) s at n (spaced n) next
unfolding spaced_value
spaced_read s at n next e =
    let found : (byte_is s at 32 ≡ true) × (read_value s (at + 1) ≡ Some (n, next)) = tested _ e in
    byte_first s at n (decimal n) next 32 found.0 (value_read s (at + 1) n next found.1)

pub spaced_round : (n : ℕ) (s : List ℕ) (at : ℕ) (rest : List ℕ) → n < 10 ^ 10 → drop at s ≡ spaced n ++ rest →
    is_digit (get_or rest 0 0) ≡ false → spaced_value s at ≡ Some (n, at + length (spaced n))
spaced_round n s at rest h e d =
    spaced_some s at (byte_round s at 32 (decimal n ++ rest) e)
    ∙ value_round n s (at + 1) rest h (after s at (32 ∷ []) (decimal n ++ rest) e) d
    ∙ ap (λ (k : ℕ). Some (n, k)) (omega arith)

-- A value with the line's end, byte 10, after it: what was read with the value was read with the line's end too.
pub end_read : {limit : ℕ} (s : List ℕ) (at : ℕ) (v : Option (ℕ × ℕ)) (part : ℕ → List ℕ) →
    ((n next : ℕ) → v ≡ Some (n, next) → PartRead limit s at n (part n) next) → (n next : ℕ) →
    ended s v ≡ Some (n, next) → PartRead limit s at n (part n ++ line_end) next
unfolding ended
end_read {limit} s at (Some (m, place)) part read n next e =
    let found : (byte_is s place 10 ≡ true) × (Some (m, place + 1) ≡ Some (n, next)) = tested _ e in
    let same = some_pair_parts m n (place + 1) next found.1 in
    let ends : place + 1 ≡ next = same.1 in
    let r : PartRead limit s at n (part n) place = read n place (ap (λ (k : ℕ). Some (k, place)) same.0) in
    part_then s at n (part n) place n line_end next r r.below
    (byte_read s place 10 found.0 ∙ ap (λ (k : ℕ). 10 ∷ drop k s) ends) (omega arith)
    (omega (arith, byte_is_within s place 10 found.0))
end_read s at None part read n next e = absurd (none-some (n, next) e)

pub end_round : (s : List ℕ) (v : Option (ℕ × ℕ)) (n place : ℕ) (rest : List ℕ) → v ≡ Some (n, place) →
    drop place s ≡ 10 ∷ rest → ended s v ≡ Some (n, place + 1)
end_round s v n place rest value e = rw value (ended_some s n place (byte_round s place 10 rest e))

-- No digit stands where a space or the line's end does.
pub space_no_digit : is_digit 32 ≡ false
space_no_digit = digit_below 32 (omega arith)

pub end_no_digit : is_digit 10 ≡ false
end_no_digit = digit_below 10 (omega arith)
