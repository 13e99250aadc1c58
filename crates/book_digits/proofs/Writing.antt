-- Values put into a list: the length stays, runs that follow one another are one run, and what stands where.
-- Assumes nothing.
use mathlib.Core.Path.{◌≡◌, refl, sym, ◌∙◌, ap}
use mathlib.Core.List.{List, [], ◌∷◌, ◌++◌, append_assoc}
use Prim.Native.Nat.{ℕ, zero, suc, ◌+◌, ◌≤◌, ◌<◌}
use native.Mathlib.Nat.{add-zero}
use native.Mathlib.Omega.{arith}
use lib.ListN.{length, get_or, take, drop, set, length-set}
use lib.Seq.{length-sets, sets-eq, get_or-set_same, get_or-set_other}
use borrow.Rule.Slice.PartMut.{put_mid}
use Rattle.std.proofs.lemmas.List.Edits.{paste_all}
use Rattle.std.proofs.lemmas.Slice.{put_mid-paste}
use Rattle.book_digits.specs.Digits.{overwritten}

module _ {A : Type 0} where
  pub length-overwritten : (list : List A) (at : ℕ) (values : List A) → length (overwritten list at values) ≡ length list
  unfolding overwritten
  length-overwritten list at values = length-sets list at values

  -- Where the values fit: what was before them, the values, what was after them.
  pub overwritten_is : (list : List A) (at : ℕ) (values : List A) → at + length values ≤ length list →
      overwritten list at values ≡ take at list ++ values ++ drop (at + length values) list
  unfolding overwritten
  overwritten_is list at values h = sets-eq values list at h

  -- Values put after values that were put.
  pub overwritten-append : (list : List A) (at : ℕ) (xs ys : List A) →
      overwritten (overwritten list at xs) (at + length xs) ys ≡ overwritten list at (xs ++ ys)
  unfolding overwritten
  overwritten-append list at [] ys = rw (add-zero at)
  overwritten-append list at (x ∷ xs) ys =
      ap (λ (k : ℕ). overwritten (overwritten (set list at x) (suc at) xs) k ys) (omega arith)
      ∙ overwritten-append (set list at x) (suc at) xs ys

  -- A part of the list that now is the values.
  pub overwritten_part : (list : List A) (at k : ℕ) (values part : List A) → part ≡ values → k ≡ length values →
      at + length values ≤ length list → put_mid at k list part ≡ overwritten list at values
  overwritten_part list at k values part same size room =
      put_mid-paste at k list part values (length values) same (sym size) refl
      ∙ paste_all list at values (length values) refl
      ∙ sym (append_assoc (take at list) values (drop (at + length values) list))
      ∙ sym (overwritten_is list at values room)

  -- Before the values and after them everything stays, ..
  pub overwritten-before : (list : List A) (at : ℕ) (values : List A) (k : ℕ) (d : A) → k < at →
      get_or (overwritten list at values) k d ≡ get_or list k d
  unfolding overwritten
  overwritten-before list at [] k d h = refl
  overwritten-before list at (x ∷ xs) k d h =
      overwritten-before (set list at x) (suc at) xs k d (omega arith) ∙ get_or-set_other list at k x d (λ e. omega arith)

  pub overwritten-after : (list : List A) (at : ℕ) (values : List A) (k : ℕ) (d : A) → at + length values ≤ k →
      get_or (overwritten list at values) k d ≡ get_or list k d
  unfolding overwritten
  overwritten-after list at [] k d h = refl
  overwritten-after list at (x ∷ xs) k d h =
      overwritten-after (set list at x) (suc at) xs k d (omega arith) ∙ get_or-set_other list at k x d (λ e. omega arith)

  -- .. and a value that was put is there.
  pub overwritten_there : (list : List A) (at : ℕ) (values : List A) (c : ℕ) (d : A) →
      at + length values ≤ length list → c < length values →
      get_or (overwritten list at values) (at + c) d ≡ get_or values c d
  unfolding overwritten
  overwritten_there list at [] c d room h = absurd (omega arith)
  overwritten_there list at (x ∷ xs) zero d room h =
      rw (add-zero at) (overwritten-before (set list at x) (suc at) xs at d (omega arith)
      ∙ get_or-set_same list at x d (omega arith))
  overwritten_there list at (x ∷ xs) (suc c) d room h =
      ap (λ (k : ℕ). get_or (overwritten (set list at x) (suc at) xs) k d) (omega arith)
      ∙ overwritten_there (set list at x) (suc at) xs c d (omega (arith, length-set list at x)) (omega arith)
