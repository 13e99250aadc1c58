-- Laws of keeping and taking back that their functions rest on: where the latest state lies, what is taken back, and which refusal is
-- given.
-- Assumes nothing.
use Rattle.std.specs.Prelude.{Ok, Err}
use mathlib.Core.Path.{◌≡◌, refl, sym, ◌∙◌, ap}
use mathlib.Core.Bool.{true}
use mathlib.Core.List.{List}
use Prim.Native.Nat.{ℕ, ◌+◌, ◌-◌, ◌*◌, ◌%◌, ◌≤◌, ◌<◌}
use native.Mathlib.Omega.{arith}
use borrow.Author.Tests.{ltb-false, eqb-false}
use borrow.Rule.Slice.PartMut.{put_mid}
use lib.ListN.{length, take, drop}
use lib.Seq.{sets, length-sets}
use Rattle.month_state.specs.declared.State.{State}
use Rattle.month_state.specs.State.{kept_limit}
use Rattle.month_layouts.specs.Layouts.{kept_width, memory_width, state_from, kept_numbers}
use Rattle.month_layouts.proofs.Layouts.{part_put, part_read, kept_of_length}
use Rattle.month_refusals.specs.Asked.{Check, Asked, first_of, Finds, checking_order, part_of, found, at, told, number_and_place, Exactly}
use Rattle.month_refusals.specs.Asked.{answer_found, answer_told}
use Rattle.month_refusals.specs.declared.Refusal.{Refusal}
use Rattle.month_refusals.proofs.First.{passes-one, found_at, found-at, exactly}
use Rattle.kept_months.specs.Kept.{place_of, keep, latest, take_asked, take_back}

-- The remainder may be taken before the sum.
place-before : (months : ℕ) → (months % kept_limit + (kept_limit - 1)) % kept_limit ≡ place_of (months + (kept_limit - 1))
place-before months = omega arith

-- A state kept leaves the memory's length.
pub keep-length : (s : State) (memory : List ℕ) → length (keep s memory) ≡ length memory
unfolding keep
keep-length s memory = length-sets memory (kept_width * place_of s.months) (kept_numbers s)

-- The part of the memory that begins at a place.
abbrev part_at : List ℕ → ℕ → List ℕ
part_at memory place = take (length memory - kept_width * place) (drop (kept_width * place) memory)

-- The same of memory that has its length, as the code cuts it.
abbrev cut_at : List ℕ → ℕ → List ℕ
cut_at memory place = take (memory_width - kept_width * place) (drop (kept_width * place) memory)

module _ (s : State) (memory : List ℕ) where
  -- Put in the part that begins at its place, a state is kept, ..
  pub kept_in_part :
      {part : List ℕ} → length memory ≡ memory_width → part ≡ sets (part_at memory (place_of s.months)) 0 (kept_numbers s)
      → put_mid (kept_width * place_of s.months) (length memory - kept_width * place_of s.months) memory part ≡ keep s memory
  unfolding keep
  kept_in_part long is =
      let from = kept_width * place_of s.months in
      ap (put_mid from (length memory - from) memory) is
      ∙ part_put memory from (kept_numbers s) (omega (arith, kept_of_length s))

  -- .. and the latest is read from the part that begins at its.
  pub latest_in_part :
      {before : State} → before ≡ state_from (part_at memory ((s.months % kept_limit + (kept_limit - 1)) % kept_limit)) 0 (s.kept - 1)
      → before ≡ latest s memory
  unfolding latest
  latest_in_part is =
      let place = (s.months % kept_limit + (kept_limit - 1)) % kept_limit in
      is ∙ part_read memory (kept_width * place) (s.kept - 1)
      ∙ ap (λ (place : ℕ). state_from memory (kept_width * place) (s.kept - 1)) (place-before s.months)

-- Both of the part that the code cuts.
module _ (s : State) (memory : List ℕ) (all : length memory ≡ memory_width) where
  pub kept_in_cut :
      {part : List ℕ} → part ≡ sets (cut_at memory (place_of s.months)) 0 (kept_numbers s)
      → put_mid (kept_width * place_of s.months) (memory_width - kept_width * place_of s.months) memory part ≡ keep s memory
  kept_in_cut is =
      let from = kept_width * place_of s.months in
      ap (put_mid from (memory_width - from) memory) is
      ∙ ap (λ (n : ℕ). put_mid from (n - from) memory (sets (take (n - from) (drop from memory)) 0 (kept_numbers s))) (sym all)
      ∙ kept_in_part s memory all refl

  pub latest_in_cut :
      {before : State} → before ≡ state_from (cut_at memory ((s.months % kept_limit + (kept_limit - 1)) % kept_limit)) 0 (s.kept - 1)
      → before ≡ latest s memory
  latest_in_cut is =
      let place = (s.months % kept_limit + (kept_limit - 1)) % kept_limit in
      is
      ∙ ap (λ (n : ℕ). state_from (take (n - kept_width * place) (drop (kept_width * place) memory)) 0 (s.kept - 1)) (sym all)
      ∙ latest_in_part s memory refl

-- Where taking back is not refused, there is a kept state and at most 24.
pub some_kept : (s : State) → first_of (take_asked s) ≡ Ok tt → (0 < s.kept) × (s.kept ≤ kept_limit)
unfolding take_asked
some_kept s h =
    let some = passes-one _ _ h in
    let few = passes-one _ _ some.1 in
    let none : s.kept ≡ 0 → ⊥ = eqb-false _ _ some.0 in
    (omega (arith, none), ltb-false _ _ few.0)

-- ---- the outcome

module _ (s : State) (memory : List ℕ) where
  pub taken : first_of (take_asked s) ≡ Ok tt → record { answer = Ok tt; state = latest s memory } ≡ take_back s memory
  unfolding take_back
  taken h = rw h

  pub not_taken : {refusal : Refusal} → first_of (take_asked s) ≡ Err refusal
      → record { answer = Err refusal; state = s } ≡ take_back s memory
  unfolding take_back
  not_taken h = rw h

-- By what the check finds: a kept state is taken back, ..
module _ (s : State) {check : Check} (finds : Finds (take_asked s) check) where
  pub kept_left : check ≡ Ok tt → 0 < s.kept
  kept_left passes = (some_kept s (sym finds.first ∙ passes)).0

  pub taken_back : (memory : List ℕ) → check ≡ Ok tt → record { answer = check; state = latest s memory } ≡ take_back s memory
  taken_back memory passes = rw passes (taken s memory (sym finds.first ∙ passes))

  pub none_taken : (memory : List ℕ) {refusal : Refusal} → check ≡ Err refusal → record { answer = check; state = s } ≡ take_back s memory
  none_taken memory refuses = rw refuses (not_taken s memory (sym finds.first ∙ refuses))

-- .. and a refusal is the first that applies, given exactly there.
check_found : {asked : List Asked} {check : Check} → Finds asked check → answer_found check ≡ found (at 0 asked)
check_found {asked} {check} finds = by_cases check ∙ ap (found_at 0) finds.first ∙ sym (found-at 0 asked)
  where
    by_cases : (check : Check) → answer_found check ≡ found_at 0 check
    by_cases (Ok _) = refl
    by_cases (Err refusal) = refl

pub check_told : {asked : List Asked} {check : Check} → Finds asked check → answer_told check ≡ told (at 0 asked)
check_told finds = ap number_and_place (check_found finds)

pub check_exactly : {asked : List Asked} {check : Check} → Finds asked check → Exactly (at 0 asked) (answer_found check)
check_exactly finds = exactly (check_found finds)

-- What taking back rests on.
pub ruleset taking = (kept_left, taken_back, none_taken, check_told, check_exactly)

-- What it asks is part of the papers' list, in its order.
pub take_in_order : (s : State) → part_of checking_order (take_asked s) ≡ true
unfolding part_of take_asked
take_in_order s = refl
