-- A number with a sign, over any form of the numbers without one: how it is read, how it stands in the text, and that it
-- fits 64 bits. Assumes nothing.
use Rattle.std.specs.Prelude.{Option, None, Some}
use Rattle.std.proofs.lemmas.Option.{none-some, some_pair_parts}
use mathlib.Core.Path.{◌≡◌, refl, sym, ◌∙◌, ap, subst}
use mathlib.Core.Bool.{Bool, true, false, cond}
use mathlib.Core.List.{List, [], ◌∷◌, ◌++◌}
use mathlib.Core.Logic.{inl, inr}
use Prim.Native.Nat.{ℕ, zero, suc, ◌+◌, ◌<◌, ◌^◌}
use native.Mathlib.Omega.{arith}
use borrow.Author.Tests.{eq-eqb, ne_eqb}
use lib.IntN.{ℤ, pos, negsuc, neg_ℤ, nat_abs, ◌-ℤ◌, +ℤ_idl}
use lib.ListN.{length, drop}
use mir.Syntax.{w64}
use mir.Val.{SFits, to_z, of_z}
use mir.Facts.{to_z_pos, to_z-of_z}
use Rattle.book_digits.specs.Digits.{signed_text}
use Rattle.book_values.specs.Values.{byte_is, without_minus, after_minus, signed_by}
use Rattle.book_values.proofs.Reading.{either, byte_is_read}
use Rattle.book_values.proofs.Texts.{byte_round, after, PartRead, byte_first}

-- How each answer of the value is taken, after a minus and without one.
pub minus_zero : (n next : ℕ) → n ≡ 0 → after_minus (Some (n, next)) ≡ None
unfolding after_minus
minus_zero n next z = rw (eq-eqb n 0 z)

pub minus_some : (n next : ℕ) → (n ≡ 0 → ⊥) → after_minus (Some (n, next)) ≡ Some (neg_ℤ (pos n), next)
unfolding after_minus
minus_some n next z = rw (ne_eqb n 0 z)

pub plain_some : (n next : ℕ) → without_minus (Some (n, next)) ≡ Some (pos n, next)
unfolding without_minus
plain_some n next = refl

pub sign_none : (minus : Bool) →
    cond minus (after_minus None) (without_minus None) ≡ None
unfolding after_minus without_minus
sign_none true = refl
sign_none false = refl

-- What a minus at the place decides.
module _ (read : List ℕ → ℕ → Option (ℕ × ℕ)) (s : List ℕ) (at : ℕ) where
  pub signed_minus : byte_is s at 45 ≡ true → signed_by read s at ≡ after_minus (read s (at + 1))
  signed_minus e = rw (sym (byte_is_read s at 45 (omega arith)) ∙ e)

  pub signed_plain : byte_is s at 45 ≡ false → signed_by read s at ≡ without_minus (read s at)
  signed_plain e = rw (sym (byte_is_read s at 45 (omega arith)) ∙ e)

-- ROUND TRIP of a number with a sign, where numbers without one are read back and don't begin with a minus.
pub sign_round : (read : List ℕ → ℕ → Option (ℕ × ℕ)) (text : ℕ → List ℕ) {limit : ℕ} (z : ℤ) (s : List ℕ) (at : ℕ) (rest : List ℕ) →
    ((n place : ℕ) → n < limit → drop place s ≡ text n ++ rest → read s place ≡ Some (n, place + length (text n))) →
    ((n next : ℕ) → read s at ≡ Some (n, next) → byte_is s at 45 ≡ false) → nat_abs z < limit →
    drop at s ≡ signed_text text z ++ rest → signed_by read s at ≡ Some (z, at + length (signed_text text z))
sign_round read text (pos n) s at rest round first h e =
    let value : read s at ≡ Some (n, at + length (text n)) = round n at h e in
    signed_plain read s at (first n (at + length (text n)) value) ∙ ap without_minus value
    ∙ plain_some n (at + length (text n))
sign_round read text (negsuc n) s at rest round first h e =
    let place : ℕ = at + 1 + length (text (suc n)) in
    let value : read s (at + 1) ≡ Some (suc n, place) =
    round (suc n) (at + 1) h (after s at (45 ∷ []) (text (suc n) ++ rest) e) in
    signed_minus read s at (byte_round s at 45 (text (suc n) ++ rest) e) ∙ ap after_minus value
    ∙ minus_some (suc n) place (λ z. omega arith) ∙ ap (λ (k : ℕ). Some (negsuc n, k)) (omega arith)

-- A number with a sign that was read, in the terms in which one without a sign is.
module _ (read : List ℕ → ℕ → Option (ℕ × ℕ)) (text : ℕ → List ℕ) {limit : ℕ} (s : List ℕ)
    (reads : (at n next : ℕ) → read s at ≡ Some (n, next) → PartRead limit s at n (text n) next) where
  plain_read : (at : ℕ) (v : Option (ℕ × ℕ)) (z : ℤ) (next : ℕ) → read s at ≡ v → without_minus v ≡ Some (z, next) →
      PartRead limit s at (nat_abs z) (signed_text text z) next
  unfolding without_minus
  plain_read at (Some (n, k)) z next value e =
      let same = some_pair_parts (pos n) z k next e in
      subst (λ (y : ℤ). PartRead limit s at (nat_abs y) (signed_text text y) next) same.0
      (reads at n next (value ∙ ap (λ (k : ℕ). Some (n, k)) same.1))
  plain_read at None z next value e = absurd (none-some (z, next) e)

  minus_read : (at : ℕ) (v : Option (ℕ × ℕ)) (z : ℤ) (next : ℕ) → byte_is s at 45 ≡ true → read s (at + 1) ≡ v →
      after_minus v ≡ Some (z, next) → PartRead limit s at (nat_abs z) (signed_text text z) next
  minus_read at (Some (zero, k)) z next b value e = absurd (none-some (z, next) (sym (minus_zero 0 k refl) ∙ e))
  minus_read at (Some (suc n, k)) z next b value e =
      let same = some_pair_parts (negsuc n) z k next (sym (minus_some (suc n) k (λ z. omega arith)) ∙ e) in
      subst (λ (y : ℤ). PartRead limit s at (nat_abs y) (signed_text text y) next) same.0
      (byte_first s at (suc n) (text (suc n)) next 45 b
      (reads (at + 1) (suc n) next (value ∙ ap (λ (k : ℕ). Some (suc n, k)) same.1)))
  minus_read at None z next b value e = absurd (none-some (z, next) (sym (sign_none true) ∙ e))

  pub sign_read : (at : ℕ) (z : ℤ) (next : ℕ) → signed_by read s at ≡ Some (z, next) →
      PartRead limit s at (nat_abs z) (signed_text text z) next
  sign_read at z next e = elim (either (byte_is s at 45)) [
    | inl b ↦ minus_read at (read s (at + 1)) z next b refl (sym (signed_minus read s at b) ∙ e)
    | inr b ↦ plain_read at (read s at) z next refl (sym (signed_plain read s at b) ∙ e)
  ]

-- 0 less a number, as the code has it, is the number with a minus.
less : (n : ℕ) → n < 2 ^ 63 → pos 0 -ℤ to_z w64 n ≡ neg_ℤ (pos n)
less n h = rw (to_z_pos w64 h) (+ℤ_idl (neg_ℤ (pos n)))

negative_fits : (n : ℕ) → n < 2 ^ 63 → SFits w64 (neg_ℤ (pos n))
negative_fits zero h = record { sfits = omega arith }
negative_fits (suc n) h = record { sfits = omega arith }

pub less_fits : (n : ℕ) → n < 2 ^ 63 → SFits w64 (pos 0 -ℤ to_z w64 n)
less_fits n h = rw (less n h) (negative_fits n h)

pub less_read : (n : ℕ) → n < 2 ^ 63 → to_z w64 (of_z w64 (pos 0 -ℤ to_z w64 n)) ≡ neg_ℤ (pos n)
less_read n h = to_z-of_z (less_fits n h) ∙ less n h
