-- What a field holds after calls that remain: its state is, the kept ones aside, that of these calls run alone, and the states before the
-- latest of them stand at their places of the memory. An accepted call and a taking-back keep this.
-- Assumes nothing.
use Rattle.std.specs.Prelude.{Ok}
use mathlib.Core.Path.{◌≡◌, refl, sym, ◌∙◌, ap, subst}
use mathlib.Core.List.{List, [], ◌∷◌}
use Prim.Native.Nat.{ℕ, zero, suc, ◌+◌, ◌-◌, ◌≤◌}
use native.Mathlib.Omega.{arith}
use native.Mathlib.Decide.{dec_le}
use lib.ListN.{length, drop}
use Rattle.month_state.specs.declared.State.{State}
use Rattle.month_state.specs.State.{kept_limit, kept_aside, one_more_kept}
use Rattle.month_state.proofs.Kept.{one_more, no_more, one-more-most}
use Rattle.month_layouts.specs.Layouts.{memory_width}
use Rattle.month_layouts.proofs.Layouts.{Four}
use Rattle.month_refusals.specs.Refusals.{month_check}
use Rattle.month_state.specs.declared.Outcome.{Outcome}
use Rattle.month_call.specs.Month.{moved_to, outcome_of, Answer}
use Rattle.month_call.proofs.Laws.{accepted_runs, accepted_moves}
use Rattle.month_demand3.specs.Calls.{Call, state_after}
use Rattle.kept_months.specs.Kept.{keep, latest}
use Rattle.kept_months.proofs.Laws.{keep-length}
use Rattle.kept_months.proofs.Places.{read_at, keep_there, keep_others, latest_read}
use Rattle.kept_demand3.specs.Acts.{Field}
use Rattle.kept_demand3.proofs.Aside.{same_check, same_outcome}

-- ---- calls run alone, the latest first

unfoldable pub alone : State → List Call → State
alone start [] = start
alone start (c ∷ earlier) = state_after (alone start earlier) c

-- Each is accepted in its turn, from a state of four pools with at most 24 kept.
pub data InTurn (start : State) : List Call → Type 0 where
  none : Four start → start.kept ≤ kept_limit → InTurn start []
  more : {c : Call} {earlier : List Call} → month_check (alone start earlier) c.number c.entries ≡ Ok tt
      → InTurn start earlier → InTurn start (c ∷ earlier)

-- An accepted call leaves four pools.
after_four : (t : State) (c : Call) → month_check t c.number c.entries ≡ Ok tt → Four (state_after t c)
after_four t c passed =
    let four = (accepted_moves t c.number c.entries passed).four in
    record { pools = four.0; modern = four.1 }

-- Each is a month more, and the state has four pools and at most 24 kept.
alone_months : {start : State} {earlier : List Call} → InTurn start earlier → (alone start earlier).months ≡ start.months + length earlier
unfolding alone
alone_months (none four few) = omega arith
alone_months (more passed turns) = omega (arith, (accepted_moves _ _ _ passed).months, alone_months turns)

alone_four : {start : State} {earlier : List Call} → InTurn start earlier → Four (alone start earlier)
unfolding alone
alone_four (none four few) = four
alone_four (more {c} {earlier} passed turns) = after_four (alone _ earlier) c passed

alone_few : {start : State} {earlier : List Call} → InTurn start earlier → (alone start earlier).kept ≤ kept_limit
unfolding alone
alone_few (none four few) = few
alone_few (more passed turns) = (accepted_moves _ _ _ passed).sound.kept

-- ---- the states before the latest of them, in a memory

pub data Kept (start : State) (memory : List ℕ) : ℕ → List Call → Type 0 where
  none : {earlier : List Call} → Kept start memory 0 earlier
  more : {c : Call} {earlier : List Call} {n : ℕ} → read_at memory (start.months + length earlier) ≡ kept_aside (alone start earlier)
      → Kept start memory n earlier → Kept start memory (suc n) (c ∷ earlier)

module _ {start : State} {memory : List ℕ} where
  -- If so many are kept then fewer are, ..
  fewer : {n : ℕ} {earlier : List Call} (m : ℕ) → m ≤ n → Kept start memory n earlier → Kept start memory m earlier
  fewer zero h k = none
  fewer (suc m) h none = absurd (omega arith)
  fewer (suc m) h (more there k) = more there (fewer m (omega arith) k)

  -- .. and 23 stay when the next one is kept.
  stay : {n : ℕ} {earlier : List Call} (s : State) (gap : ℕ) → s.months ≡ start.months + length earlier + gap → gap + n ≤ 23
      → Kept start memory n earlier → Kept start (keep s memory) n earlier
  stay s gap is h none = none
  stay s gap is h (more {c} {earlier} there k) =
      more (keep_others s memory (start.months + length earlier) gap (omega arith) (omega arith) ∙ there)
      (stay s (suc gap) (omega arith) (omega arith) k)

-- ---- a field after calls that remain, of which at least the states before the last n are kept

pub record Holds (start : State) (f : Field) (n : ℕ) (earlier : List Call) : Type 0 where
  pub turns : InTurn start earlier
  pub same : kept_aside f.state ≡ kept_aside (alone start earlier)
  pub few : f.state.kept ≤ kept_limit
  pub least : n ≤ f.state.kept
  pub kept : Kept start f.memory n earlier
  pub long : length f.memory ≡ memory_width

-- Before any call.
pub holds-none : (f : Field) → Four f.state → f.state.kept ≤ kept_limit → length f.memory ≡ memory_width
    → Holds f.state f 0 []
unfolding alone
holds-none f four few long =
    record { turns = none four few; same = refl; few = few; least = omega arith; kept = none; long = long }

-- One more is kept: beside it as many as before, or 23 where they were 24.
before_it : (n : ℕ) → n ≤ kept_limit → (m : ℕ) × (m ≤ n) × (m ≤ 23) × (suc m ≡ one_more_kept n)
before_it n h = elim (dec_le kept_limit n) [
  | yes a ↦ (23, omega arith, omega arith, omega (arith, no_more n a))
  | no a ↦ (n, omega arith, omega arith, omega (arith, one_more n (omega arith)))
]

one-more-least : (n k : ℕ) → n ≤ k → one_more_kept n ≤ one_more_kept k
one-more-least n k h = elim (dec_le kept_limit k) [
  | yes a ↦ omega (arith, one-more-most n, no_more k a)
  | no a ↦ omega (arith, one_more n (omega arith), one_more k (omega arith))
]

module _ {start : State} {f : Field} {n : ℕ} {earlier : List Call} (h : Holds start f n earlier) where
  -- Its months and its pools are those of the calls run alone.
  field-months : f.state.months ≡ start.months + length earlier
  field-months = ap (λ (t : State). t.months) h.same ∙ alone_months h.turns

  field_four : Four f.state
  field_four =
      let four = alone_four h.turns in
      record {
        pools = ap (λ (t : State). length t.soil.pools) h.same ∙ four.pools;
        modern = ap (λ (t : State). length t.modern) h.same ∙ four.modern;
      }

  -- A call that it accepts is accepted after the calls run alone too, ..
  moved_turns : (c : Call) → month_check f.state c.number c.entries ≡ Ok tt → InTurn start (c ∷ earlier)
  moved_turns c passed =
      let same = same_check (alone start earlier) f.state (sym h.same) (alone_few h.turns) h.few c.number c.entries in
      more (same ∙ passed) h.turns

  -- .. to the same state, the kept ones aside, ..
  moved_same :
      (c : Call) → month_check f.state c.number c.entries ≡ Ok tt
      → kept_aside (outcome_of (Ok tt) f.state c.entries).state ≡ kept_aside (alone start (c ∷ earlier))
  unfolding alone
  moved_same c passed =
      let same = same_outcome f.state (alone start earlier) h.same h.few (alone_few h.turns) c.number c.entries in
      ap (λ (o : Outcome Answer State). kept_aside o.state) (sym (accepted_runs f.state c.number c.entries passed))
      ∙ ap (λ (o : Outcome Answer State). o.state) same

  -- .. and the state before it stands at its place, where the oldest was if 24 are kept.
  moved_kept : (c : Call) → Kept start (keep f.state f.memory) (one_more_kept n) (c ∷ earlier)
  moved_kept c =
      let before = before_it n (omega (arith, h.least, h.few)) in
      let memory = keep f.state f.memory in
      let there = ap (read_at memory) (sym field-months) ∙ keep_there f.state f.memory field_four h.long ∙ h.same in
      let stayed = stay f.state 0 (omega (arith, field-months)) (omega (arith, before.2)) (fewer before.0 before.1 h.kept) in
      subst (λ (m : ℕ). Kept start memory m (c ∷ earlier)) before.3 (more there stayed)

  pub holds_moved :
      (c : Call) → month_check f.state c.number c.entries ≡ Ok tt
      → Holds start (record { state = (outcome_of (Ok tt) f.state c.entries).state; memory = keep f.state f.memory }) (one_more_kept n)
      (c ∷ earlier)
  unfolding outcome_of moved_to
  holds_moved c passed =
      record {
        turns = moved_turns c passed;
        same = moved_same c passed;
        few = one-more-most f.state.kept;
        least = one-more-least n f.state.kept h.least;
        kept = moved_kept c;
        long = keep-length f.state f.memory ∙ h.long;
      }

turns_before : {start : State} {c : Call} {earlier : List Call} → InTurn start (c ∷ earlier) → InTurn start earlier
turns_before (more passed turns) = turns

-- Taking back: the state that is read is the one before the latest call.
module _ {start : State} {f : Field} where
  taken : {n : ℕ} {earlier : List Call} (m : ℕ) → n ≡ suc m → Holds start f n earlier → Kept start f.memory n earlier
      → Holds start (record { state = latest f.state f.memory; memory = f.memory }) m (drop 1 earlier)
  taken m is h none = absurd (omega arith)
  taken m is h (more {c} {earlier} {n} there k) =
      let months = start.months + length earlier in
      let read = latest_read f.state f.memory months (field-months h ∙ omega arith) in
      let fewer-kept : (latest f.state f.memory).kept ≡ f.state.kept - 1 = ap (λ (t : State). t.kept) read in
      record {
        turns = turns_before h.turns;
        same = ap kept_aside read ∙ ap kept_aside there;
        few = omega (arith, h.few);
        least = omega (arith, h.least);
        kept = subst (λ (l : ℕ). Kept start f.memory l earlier) (omega arith) k;
        long = h.long;
      }

  pub holds_taken : {earlier : List Call} (m : ℕ) → Holds start f (suc m) earlier
      → Holds start (record { state = latest f.state f.memory; memory = f.memory }) m (drop 1 earlier)
  holds_taken m h = taken m refl h h.kept
