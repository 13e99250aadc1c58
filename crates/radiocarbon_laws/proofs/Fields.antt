-- Single month calls and takings-back on a field without modern grams, in its kept states neither, are those on the field, but for modern
-- grams. A month keeps the same state but for these, in the same place, and a taking-back reads it from there; by induction over the list.
-- Assumes nothing.
use Rattle.std.specs.Prelude.{Ok, Err}
use mathlib.Core.Path.{◌≡◌, refl, sym, ◌∙◌, ap, subst}
use mathlib.Core.Bool.{Bool, true, false, cond}
use mathlib.Core.List.{List, [], ◌∷◌, reverse, reverse_aux}
use Prim.Native.Nat.{ℕ, zero, suc, ◌+◌, ◌-◌, ◌*◌, ◌≤◌, ◌<◌}
use native.Mathlib.Omega.{arith}
use native.Mathlib.Decide.{ℕ_discrete}
use lib.ListN.{length, drop}
use lib.Seq.{length-sets}
use Rattle.month_state.specs.declared.State.{State}
use Rattle.month_state.specs.State.{kept_limit, kept_aside, with_kept}
use Rattle.month_layouts.specs.Layouts.{kept_width, memory_width, pools_from, soil_from, state_from, kept_numbers}
use Rattle.month_layouts.proofs.Layouts.{Four, put_back, put_apart}
use Rattle.month_refusals.specs.Asked.{Check, first_of}
use Rattle.month_refusals.specs.Refusals.{month_check}
use Rattle.month_call.specs.Month.{Answer, month_call}
use Rattle.month_state.specs.declared.Outcome.{Outcome}
use Rattle.month_call.proofs.Laws.{accepted_moves, refusal_returns}
use Rattle.month_demand3.specs.Calls.{Call, state_after, is_done, accepts}
use Rattle.kept_months.specs.Kept.{TakeAnswer, place_of, keep, keep_if, latest, take_asked, take_checked, take_back}
use Rattle.kept_months.proofs.Laws.{keep-length}
use Rattle.kept_months.proofs.Places.{read_at, keep_there}
use Rattle.kept_demand3.specs.Acts.{Act, call, back, Field, after_call, after_back, after_act, run_acts, is_taken, takes, remain}
use Rattle.kept_demand3.specs.Demand.{Lent}
use Rattle.radiocarbon_laws.specs.Along.{answers_along, none_stops}
use Rattle.radiocarbon_laws.specs.Without.{state_without, entries_without, call_without, calls_without, outcome_without}
use Rattle.radiocarbon_laws.specs.Calls.{call_by_modern}
use Rattle.radiocarbon_laws.specs.Fields.{places_without, field_without, acts_without, ActAnswer, to_call, to_back, act_answer, act_by_modern}
use Rattle.radiocarbon_laws.specs.Fields.{acts_up_to, no_act_by_modern, CarbonOfField}
use Rattle.radiocarbon_laws.proofs.Along.{both, both_back, begins}
use Rattle.radiocarbon_laws.proofs.Months.{month_without, month_never}

-- ---- a field without modern grams

-- Every place of the first memory has the second's state without its modern grams.
abbrev Places : List ℕ → List ℕ → Type 0
Places other memory = (months : ℕ) → read_at other months ≡ state_without (read_at memory months)

-- A field, and a memory that has its kept states without their modern grams.
record Alike (f : Field) (other : List ℕ) : Type 0 where
  four : Four f.state
  long : length f.memory ≡ memory_width
  other_long : length other ≡ memory_width
  places : Places other f.memory

-- The field that is compared with: that memory, and the state without its modern grams.
abbrev without : Field → List ℕ → Field
without f other = record { state = state_without f.state; memory = other }

four_without : {s : State} → Four s → Four (state_without s)
four_without h = record { pools = h.pools; modern = refl }

-- Two places have no number in common.
apart : (p q c d : ℕ) → (p ≡ q → ⊥) → c < kept_width → d < kept_width → kept_width * p + c ≡ kept_width * q + d → ⊥
apart p q c d other hc hd e = other (omega arith)

-- ---- a month that is kept

-- At its place is the state, ..
kept_here : (s : State) (memory : List ℕ) → Four s → length memory ≡ memory_width → (months : ℕ) → place_of months ≡ place_of s.months
    → read_at (keep s memory) months ≡ kept_aside s
kept_here s memory four long months at =
    ap (λ (place : ℕ). state_from (keep s memory) (kept_width * place) 0) at ∙ keep_there s memory four long

-- .. and every other place stays.
kept_elsewhere : (s : State) (memory : List ℕ) (months : ℕ) → (place_of months ≡ place_of s.months → ⊥)
    → read_at (keep s memory) months ≡ read_at memory months
unfolding keep
kept_elsewhere s memory months off =
    put_apart memory (kept_width * place_of s.months) s (kept_width * place_of months) 0
    (λ c d hc hd e. apart (place_of months) (place_of s.months) c d off hc hd e)

keep_places : (f : Field) (other : List ℕ) → Alike f other → Places (keep (state_without f.state) other) (keep f.state f.memory)
keep_places f other h months = elim (ℕ_discrete (place_of months) (place_of f.state.months)) [
  | yes at ↦
      kept_here (state_without f.state) other (four_without h.four) h.other_long months at
      ∙ ap state_without (sym (kept_here f.state f.memory h.four h.long months at))
  | no off ↦
      kept_elsewhere (state_without f.state) other months off ∙ h.places months
      ∙ ap state_without (sym (kept_elsewhere f.state f.memory months off))
]

-- ---- a call

-- An accepted call leaves four pools, and a refused one the state that it was given.
four_after : (s : State) (c : Call) → Four s → Four (state_after s c)
four_after s c four = by_check (month_check s c.number c.entries) refl
  where
    by_check : (check : Check) → month_check s c.number c.entries ≡ check → Four (state_after s c)
    by_check (Ok _) is = let four = (accepted_moves s c.number c.entries is).four in record { pools = four.0; modern = four.1 }
    by_check (Err refusal) is =
        subst (λ (o : Outcome Answer State). Four o.state) (sym (refusal_returns s c.number c.entries refusal is)) four

module _ (f : Field) (other : List ℕ) (h : Alike f other) (c : Call) where
  abbrev other_after : List ℕ
  other_after = keep_if (month_call f.state c.number c.entries).answer (state_without f.state) other

  call_alike : Alike (after_call f c) other_after
  call_alike = by_answer (month_call f.state c.number c.entries).answer
    where
      by_answer :
          (answer : Answer)
          → Alike (record { state = state_after f.state c; memory = keep_if answer f.state f.memory }) (keep_if answer (state_without f.state) other)
      by_answer (Ok row) =
          record {
            four = four_after f.state c h.four;
            long = keep-length f.state f.memory ∙ h.long;
            other_long = keep-length (state_without f.state) other ∙ h.other_long;
            places = keep_places f other h;
          }
      by_answer (Err refusal) =
          record { four = four_after f.state c h.four; long = h.long; other_long = h.other_long; places = h.places }

-- ---- a taking-back

abbrev take_without : Outcome TakeAnswer State → Outcome TakeAnswer State
take_without o = record { answer = o.answer; state = state_without o.state }

module _ (f : Field) (other : List ℕ) (h : Alike f other) where
  latest_without : latest (state_without f.state) other ≡ state_without (latest f.state f.memory)
  unfolding latest state_from
  latest_without = ap (with_kept (f.state.kept - 1)) (h.places (f.state.months + 23))

  back_without : take_back (state_without f.state) other ≡ take_without (take_back f.state f.memory)
  unfolding take_back take_asked
  back_without = by_check (first_of (take_asked f.state))
    where
      by_check : (check : Check) → take_checked check (state_without f.state) other ≡ take_without (take_checked check f.state f.memory)
      by_check (Ok _) = λ i. record { answer = (take_checked (Ok tt) f.state f.memory).answer; state = latest_without i }
      by_check (Err refusal) = refl

  back_alike : Alike (after_back f) other
  unfolding take_back latest state_from soil_from pools_from
  back_alike =
      record { four = by_check (first_of (take_asked f.state)); long = h.long; other_long = h.other_long; places = h.places }
    where
      by_check : (check : Check) → Four (take_checked check f.state f.memory).state
      by_check (Ok _) = record { pools = refl; modern = refl }
      by_check (Err refusal) = h.four

-- ---- the list

cons_without : (c : Call) (earlier : List Call) → call_without c ∷ calls_without earlier ≡ calls_without (c ∷ earlier)
unfolding calls_without
cons_without c earlier = refl

drop_without : (earlier : List Call) → drop 1 (calls_without earlier) ≡ calls_without (drop 1 earlier)
unfolding calls_without
drop_without [] = refl
drop_without (c ∷ earlier) = refl

if_without : (test : Bool) {a : List Call} (x y : List Call) → a ≡ calls_without x → cond test a (calls_without y) ≡ calls_without (cond test x y)
if_without true x y h = h
if_without false x y h = refl

record Same (f : Field) (other : List ℕ) (acts : List Act) (earlier : List Call) : Type 0 where
  answers : answers_along after_act act_answer (without f other) (acts_without acts) ≡ answers_along after_act act_answer f acts
  state : (run_acts (without f other) (acts_without acts)).state ≡ state_without (run_acts f acts).state
  months : remain (without f other) (acts_without acts) (calls_without earlier) ≡ calls_without (remain f acts earlier)

-- What a call, and a taking-back, leave of the field without modern grams.
module _ (f : Field) (other : List ℕ) (h : Alike f other) where
  call_without_lem : (c : Call) → call_by_modern f.state c ≡ false
      → month_call (state_without f.state) c.number (entries_without c.entries) ≡ outcome_without (month_call f.state c.number c.entries)
  call_without_lem c none = month_without f.state c.entries c.number none

  after-call : (c : Call) → call_by_modern f.state c ≡ false
      → after_call (without f other) (call_without c) ≡ without (after_call f c) (other_after f other h c)
  after-call c none = λ i. record {
    state = (call_without_lem c none i).state;
    memory = keep_if (call_without_lem c none i).answer (state_without f.state) other;
  }

  after-back : after_back (without f other) ≡ without (after_back f) other
  after-back = λ i. record { state = (back_without f other h i).state; memory = other }

same_acts :
    (f : Field) (other : List ℕ) (acts : List Act) (earlier : List Call) → Alike f other
    → no_act_by_modern f acts ≡ true → Same f other acts earlier
unfolding none_stops acts_without answers_along run_acts remain
same_acts f other [] earlier h none = record { answers = refl; state = refl; months = refl }
same_acts f other (call c ∷ acts) earlier h none =
    let parts = both (call_by_modern f.state c) (no_act_by_modern (after_call f c) acts) none in
    let answered = call_without_lem f other h c parts.0 in
    let left = after-call f other h c parts.0 in
    let accepted = accepts f.state c in
    let months-here :
    cond accepted (call_without c ∷ calls_without earlier) (calls_without earlier)
    ≡ calls_without (cond accepted (c ∷ earlier) earlier) =
    if_without accepted (c ∷ earlier) earlier (cons_without c earlier) in
    let later = same_acts (after_call f c) (other_after f other h c) acts (cond accepted (c ∷ earlier) earlier) (call_alike f other h c) parts.1 in
    record {
      answers =
          (λ i. to_call (answered i).answer ∷ answers_along after_act act_answer (left i) (acts_without acts))
          ∙ ap (λ (l : List ActAnswer). act_answer f (call c) ∷ l) later.answers;
      state = (λ i. (run_acts (left i) (acts_without acts)).state) ∙ later.state;
      months =
          (λ i. remain (left i) (acts_without acts)
          (cond (is_done (answered i).answer) (call_without c ∷ calls_without earlier) (calls_without earlier)))
          ∙ ap (remain (without (after_call f c) (other_after f other h c)) (acts_without acts)) months-here
          ∙ later.months;
    }
same_acts f other (back ∷ acts) earlier h none =
    let answered = back_without f other h in
    let left = after-back f other h in
    let taken = takes f in
    let months-here : cond taken (drop 1 (calls_without earlier)) (calls_without earlier) ≡ calls_without (cond taken (drop 1 earlier) earlier) =
    if_without taken (drop 1 earlier) earlier (drop_without earlier) in
    let later = same_acts (after_back f) other acts (cond taken (drop 1 earlier) earlier) (back_alike f other h) none in
    record {
      answers =
          (λ i. to_back (answered i).answer ∷ answers_along after_act act_answer (left i) (acts_without acts))
          ∙ ap (λ (l : List ActAnswer). act_answer f back ∷ l) later.answers;
      state = (λ i. (run_acts (left i) (acts_without acts)).state) ∙ later.state;
      months =
          (λ i. remain (left i) (acts_without acts) (cond (is_taken (answered i).answer) (drop 1 (calls_without earlier)) (calls_without earlier)))
          ∙ ap (remain (without (after_back f) other) (acts_without acts)) months-here
          ∙ later.months;
    }

-- ---- a field's own memory without modern grams

places_length : (n : ℕ) (memory : List ℕ) → length (places_without n memory) ≡ length memory
unfolding places_without
places_length zero memory = refl
places_length (suc n) memory =
    length-sets (places_without n memory) (kept_width * n) (kept_numbers (state_without (state_from memory (kept_width * n) 0)))
    ∙ places_length n memory

four_read : (memory : List ℕ) (place : ℕ) → Four (state_without (state_from memory place 0))
unfolding state_from soil_from pools_from
four_read memory place = record { pools = refl; modern = refl }

aside_read : (memory : List ℕ) (place : ℕ) → with_kept 0 (state_without (state_from memory place 0)) ≡ state_without (state_from memory place 0)
unfolding state_from
aside_read memory place = refl

places_are : (n : ℕ) (memory : List ℕ) → length memory ≡ memory_width → n ≤ kept_limit → (place : ℕ) → place < n
    → state_from (places_without n memory) (kept_width * place) 0 ≡ state_without (state_from memory (kept_width * place) 0)
unfolding places_without
places_are zero memory long most place h = absurd (omega arith)
places_are (suc n) memory long most place h = elim (ℕ_discrete place n) [
  | yes at ↦
      rw at
      (put_back (places_without n memory) (kept_width * n) (state_without (state_from memory (kept_width * n) 0)) 0
      (four_read memory (kept_width * n))
      (omega (arith, places_length n memory))
      ∙ aside_read memory (kept_width * n))
  | no off ↦
      put_apart (places_without n memory) (kept_width * n) (state_without (state_from memory (kept_width * n) 0)) (kept_width * place) 0
      (λ c d hc hd e. apart place n c d off hc hd e)
      ∙ places_are n memory long (omega arith) place (omega (arith, off))
]

alike : (f : Field) → Lent f → Alike f (places_without kept_limit f.memory)
alike f lent =
    record {
      four = record { pools = lent.pools; modern = lent.modern };
      long = lent.memory;
      other_long = places_length kept_limit f.memory ∙ lent.memory;
      places = λ months. places_are kept_limit f.memory lent.memory (omega arith) (place_of months) (omega arith);
    }

-- The months that remain, in their order.
reverse_without : (l later : List Call) → reverse_aux (calls_without l) (calls_without later) ≡ calls_without (reverse_aux l later)
unfolding calls_without
reverse_without [] later = refl
reverse_without (c ∷ l) later = reverse_without l (c ∷ later)

pub field_alone : (f : Field) → Lent f → (acts : List Act) → CarbonOfField f acts
unfolding calls_without
field_alone f lent acts =
    let up_to_lem = begins after_act act_by_modern f acts in
    let all = same_acts f (places_without kept_limit f.memory) (acts_up_to f acts) [] (alike f lent) up_to_lem.none in
    record {
      begins = up_to_lem;
      same =
          record {
            answers = all.answers;
            state = all.state;
            months = ap reverse all.months ∙ reverse_without (remain f (acts_up_to f acts) []) [];
          };
    }

-- ---- without activities

-- No call is refused so: the field stays its own without modern grams.
never_acts : (f : Field) (acts : List Act) → f.state ≡ state_without f.state → Alike f f.memory → no_act_by_modern f (acts_without acts) ≡ true
unfolding none_stops acts_without
never_acts f [] bare h = refl
never_acts f (call c ∷ acts) bare h =
    let never =
    subst (λ (t : State). call_by_modern t (call_without c) ≡ false) (sym bare) (month_never f.state c.number c.entries) in
    let left = after-call f f.memory h (call_without c) never in
    let stays : after_call f (call_without c) ≡ without (after_call f (call_without c)) (other_after f f.memory h (call_without c)) =
    (λ i. after_call (record { state = bare i; memory = f.memory }) (call_without c)) ∙ left in
    both_back never
    (never_acts (after_call f (call_without c)) acts (ap (λ (g : Field). g.state) stays)
    (subst (λ (l : List ℕ). Alike (after_call f (call_without c)) l) (sym (ap (λ (g : Field). g.memory) stays))
    (call_alike f f.memory h (call_without c))))
never_acts f (back ∷ acts) bare h =
    let left = after-back f f.memory h in
    let stays : after_back f ≡ without (after_back f) f.memory = (λ i. after_back (record { state = bare i; memory = f.memory })) ∙ left in
    never_acts (after_back f) acts (ap (λ (g : Field). g.state) stays) (back_alike f f.memory h)

pub never_field : (f : Field) → Lent f → (acts : List Act) → no_act_by_modern (field_without f) (acts_without acts) ≡ true
never_field f lent acts =
    let h = alike f lent in
    never_acts (field_without f) acts refl
    (record {
      four = four_without h.four;
      long = h.other_long;
      other_long = h.other_long;
      places = λ months. h.places months ∙ ap state_without (sym (h.places months));
    })
