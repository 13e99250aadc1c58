-- What stands at a place of a text: bytes that were found stand there, and bytes that stand there are found; and what it
-- means that a number was read. Assumes nothing.
use Rattle.std.specs.Prelude.{Option, None, Some}
use Rattle.std.proofs.lemmas.Option.{none-some}
use mathlib.Core.Path.{◌≡◌, refl, sym, ◌∙◌, ap}
use mathlib.Core.Bool.{Bool, true, false, cond}
use mathlib.Core.List.{List, ◌∷◌, ◌++◌, append_assoc}
use Prim.Native.Nat.{ℕ, ◌+◌, ◌≤◌, ◌<◌}
use native.Mathlib.Nat.{add-zero}
use native.Mathlib.Numerals.{add-one}
use native.Mathlib.Omega.{arith}
use borrow.Author.Tests.{eq-eqb, eqb-true, lt-ltb}
use lib.Dec.{eqb}
use lib.ListN.{length, get_or, drop, length-drop}
use lib.Seq.{get_or-drop, drop-drop, drop-cons, drop-append_seam}
use Rattle.book_values.specs.Values.{byte_is}
use Rattle.book_values.proofs.Reading.{byte_is_within}

-- The byte at a place, with the text after it, ..
pub byte_there : (s : List ℕ) (at : ℕ) → at < length s → drop at s ≡ get_or s at 0 ∷ drop (at + 1) s
byte_there s at h = drop-cons s at 0 h ∙ rw add-one

pub byte_at : (s : List ℕ) (at : ℕ) (text : List ℕ) → drop at s ≡ text → get_or s at 0 ≡ get_or text 0 0
byte_at s at text e =
    ap (λ (k : ℕ). get_or s k 0) (sym (add-zero at)) ∙ sym (get_or-drop at s 0 0) ∙ ap (λ (l : List ℕ). get_or l 0 0) e

-- .. and a byte that was found there.
pub byte_read : (s : List ℕ) (at byte : ℕ) → byte_is s at byte ≡ true → drop at s ≡ byte ∷ drop (at + 1) s
unfolding byte_is
byte_read s at byte b =
    let l : at < length s = byte_is_within s at byte b in
    let test : eqb (get_or s at 0) byte ≡ true = rw (lt-ltb at (length s) l) at b in
    byte_there s at l ∙ rw (eqb-true (get_or s at 0) byte test)

pub byte_round : (s : List ℕ) (at byte : ℕ) (rest : List ℕ) → drop at s ≡ byte ∷ rest → byte_is s at byte ≡ true
unfolding byte_is
byte_round s at byte rest e =
    let l : at < length s = omega (arith, sym (length-drop at s) ∙ ap length e) in
    rw (lt-ltb at (length s) l, eq-eqb (get_or s at 0) byte (byte_at s at (byte ∷ rest) e))

-- What stands after a part of the text.
pub after : (s : List ℕ) (at : ℕ) (part rest : List ℕ) → drop at s ≡ part ++ rest → drop (at + length part) s ≡ rest
after s at part rest e =
    sym (drop-drop (length part) at s) ∙ ap (drop (length part)) e ∙ drop-append_seam part rest

-- A number that was read with a part of the text: it is below its limit, the part stands there as it is written, and the
-- next place is above the place and within the text.
pub record PartRead (limit : ℕ) (s : List ℕ) (at n : ℕ) (part : List ℕ) (next : ℕ) : Type 0 where
  pub below : n < limit
  pub text : drop at s ≡ part ++ drop next s
  pub above : at < next
  pub within : next ≤ length s

-- A byte before it is read with it.
pub byte_first : {limit : ℕ} (s : List ℕ) (at n : ℕ) (part : List ℕ) (next byte : ℕ) → byte_is s at byte ≡ true →
    PartRead limit s (at + 1) n part next → PartRead limit s at n (byte ∷ part) next
byte_first s at n part next byte b r =
    record {
      below = r.below;
      text = byte_read s at byte b ∙ ap (λ (l : List ℕ). byte ∷ l) r.text;
      above = omega arith;
      within = r.within;
    }

-- What stands after it is read with it, and makes another number.
pub part_then : {limit bound : ℕ} (s : List ℕ) (at n : ℕ) (part : List ℕ) (place m : ℕ) (more : List ℕ) (next : ℕ) →
    PartRead limit s at n part place → m < bound → drop place s ≡ more ++ drop next s → place < next → next ≤ length s →
    PartRead bound s at m (part ++ more) next
part_then s at n part place m more next r below text above within =
    record {
      below = below;
      text = r.text ∙ ap (λ (l : List ℕ). part ++ l) text ∙ sym (append_assoc part more (drop next s));
      above = omega (arith, r.above);
      within = within;
    }

-- Where something was found after a test, the test holds.
pub tested : {A : Type 0} (t : Bool) {some : Option A} {found : A} → cond t some None ≡ Some found →
    (t ≡ true) × (some ≡ Some found)
tested true e = (refl, e)
tested {A} false {some} {found} e = absurd (none-some found e)
