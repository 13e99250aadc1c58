-- A number that may have a minus.
use Rattle.std.proofs.Common.{◌≡◌, ℕ, zero, suc, ◌<◌, ◌≤◌, ◌≢◌, ◌^◌, Bool, true, false, cond, ◌&&◌, ltb, leb, List, Option, Some, None, Result, Ok}
use Rattle.std.proofs.Common.{Err, refl, arith, ℤ, pos, neg_ℤ, ◌-ℤ◌, FitsSigned, w64, is_some}
use Rattle.std.proofs.lemmas.Bool.Decides.{nat_tests}
use Rattle.std.proofs.lemmas.Int.{ints}
use Rattle.std.specs.Result.{OkIff, result_ok}
use Rattle.std.specs.Option.{SomeIff}
use Rattle.test_numbers.specs.Numbers.{Read, this_byte, digits_read, signed_read, without_minus, after_minus}

refused : (b : Bool) (z : ℤ) → ¬ (b ≡ true) → None ≡ cond b (Some z) None
refused true z h = absurd (h refl)
refused false z h = refl

plain_fits : {E : Type 0} (n : ℕ) (r : Result ℤ E) → OkIff r (FitsSigned w64 (pos n)) (pos n)
    → result_ok r ≡ without_minus (Some n)
plain_fits n (Ok z) h =
    let below : n < 2 ^ 63 = omega (arith, ints, h.0) in
    let few : ltb n (2 ^ 63) ≡ true = grind (arith, nat_tests) in
    rw (h.1, few)
plain_fits n (Err e) h = refused _ _ (λ t. h (let below : n < 2 ^ 63 = grind (arith, nat_tests) in omega (arith, ints)))

less_fits : (n : ℕ) (r : Option ℤ) → n ≢ 0 → SomeIff r (FitsSigned w64 (pos 0 -ℤ pos n)) (pos 0 -ℤ pos n)
    → r ≡ after_minus (Some n)
less_fits zero r some h = absurd (some refl)
less_fits (suc k) (Some z) some h =
    let most : suc k ≤ 2 ^ 63 = omega (arith, ints, h.0) in
    let few : (ltb 0 (suc k) && leb (suc k) (2 ^ 63)) ≡ true = grind (arith, nat_tests) in
    let less : pos 0 -ℤ pos (suc k) ≡ neg_ℤ (pos (suc k)) = omega (arith, ints) in
    rw (h.1, few, less)
less_fits (suc k) None some h =
    refused _ _ (λ t. h (let most : suc k ≤ 2 ^ 63 = grind (arith, nat_tests) in omega (arith, ints)))

-- No minus stands first.
pub plain_none : (x : Option Unit) (text left later : List ℕ)
    → (x, left) ≡ this_byte 45 text → is_some x ≡ false → (None, later) ≡ digits_read left
    → ◌≡◌ {A = Read ℤ} (None, later) (signed_read text)
unfolding signed_read
plain_none None text left later first none read = rw (← first, ← read)
plain_none (Some t) text left later first none read = absurd cc

pub plain_some : {E : Type 0} (x : Option Unit) (text left later : List ℕ) (n : ℕ) (r : Result ℤ E)
    → (x, left) ≡ this_byte 45 text → is_some x ≡ false → (Some n, later) ≡ digits_read left
    → OkIff r (FitsSigned w64 (pos n)) (pos n)
    → ◌≡◌ {A = Read ℤ} (result_ok r, later) (signed_read text)
unfolding signed_read
plain_some None text left later n r first none read fits = rw (← first, ← read, plain_fits n r fits)
plain_some (Some t) text left later n r first none read fits = absurd cc

-- A minus does.
pub less_none : (x : Option Unit) (text left later : List ℕ)
    → (x, left) ≡ this_byte 45 text → is_some x ≡ true → (None, later) ≡ digits_read left
    → ◌≡◌ {A = Read ℤ} (None, later) (signed_read text)
unfolding signed_read
less_none None text left later first some read = absurd cc
less_none (Some t) text left later first some read = rw (← first, ← read)

pub less_zero : (x : Option Unit) (text left later : List ℕ)
    → (x, left) ≡ this_byte 45 text → is_some x ≡ true → (Some 0, later) ≡ digits_read left
    → ◌≡◌ {A = Read ℤ} (None, later) (signed_read text)
unfolding signed_read
less_zero None text left later first some read = absurd cc
less_zero (Some t) text left later first some read = rw (← first, ← read)

pub less_some : (x : Option Unit) (text left later : List ℕ) (n : ℕ) (r : Option ℤ)
    → (x, left) ≡ this_byte 45 text → is_some x ≡ true → (Some n, later) ≡ digits_read left
    → n ≢ 0 → SomeIff r (FitsSigned w64 (pos 0 -ℤ pos n)) (pos 0 -ℤ pos n)
    → ◌≡◌ {A = Read ℤ} (r, later) (signed_read text)
unfolding signed_read
less_some None text left later n r first some read more fits = absurd cc
less_some (Some t) text left later n r first some read more fits =
    rw (← first, ← read, less_fits n r more fits)
