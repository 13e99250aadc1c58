-- Taking back restores: months that are accepted and then each taken back leave a field as Remains.antt has it before them, by induction
-- on the months, each with its own taking-back around those after it. A month booked afresh is then as without them, by Aside.antt.
-- Assumes nothing.
use Rattle.std.specs.Prelude.{Ok, Err}
use mathlib.Core.Path.{◌≡◌, refl, sym, ◌∙◌, ap, subst}
use mathlib.Core.Bool.{Bool, true, false, cond}
use mathlib.Core.List.{List, [], ◌∷◌, ◌++◌, append_assoc}
use Prim.Native.Nat.{ℕ, zero, suc, ◌+◌, ◌≤◌, ◌<◌}
use native.Mathlib.Omega.{arith}
use borrow.Author.Tests.{ne_eqb, le-ltb}
use lib.ListN.{length}
use Rattle.month_state.specs.declared.State.{State}
use Rattle.month_state.specs.declared.Entries.{Entries}
use Rattle.month_state.specs.State.{kept_limit, kept_aside, one_more_kept}
use Rattle.month_state.proofs.Kept.{one_more}
use Rattle.month_refusals.specs.Asked.{Check, first_of}
use Rattle.month_refusals.specs.Refusals.{month_check}
use Rattle.month_refusals.proofs.Accepted.{sound-state}
use Rattle.month_state.specs.declared.Outcome.{Outcome}
use Rattle.month_call.specs.Month.{outcome_of, month_call, Answer}
use Rattle.month_call.proofs.Laws.{accepted, accepted_runs}
use Rattle.month_demand3.specs.Calls.{Call, state_after, is_done, accepts, accepted_calls}
use Rattle.kept_months.specs.Kept.{keep_if, take_asked, TakeAnswer}
use Rattle.kept_months.proofs.Laws.{taken}
use Rattle.kept_demand3.specs.Acts.{Act, call, back, Field, after_call, after_back, after_act, run_acts, backs, calls}
use Rattle.kept_demand3.specs.Demand.{Lent}
use Rattle.kept_demand3.specs.TakingBack.{back_from, TakingBack}
use Rattle.kept_demand3.proofs.Aside.{outcome_aside, same_outcome}
use Rattle.kept_demand3.proofs.Remains.{alone, Holds, holds-none, holds_moved, holds_taken}

-- ---- calls that are all accepted

at_most_one_lem : (accepted : Bool) → cond accepted 1 0 ≤ 1
at_most_one_lem true = omega arith
at_most_one_lem false = omega arith

accepted-most : (month_calls : List Call) (t : State) → accepted_calls t month_calls ≤ length month_calls
unfolding accepted_calls
accepted-most [] t = omega arith
accepted-most (c ∷ later) t = omega (arith, at_most_one_lem (accepts t c), accepted-most later (state_after t c))

first_found : (check : Check) (t : State) (e : Entries) (later : List Call)
    → cond (is_done (outcome_of check t e).answer) 1 0 + accepted_calls (outcome_of check t e).state later ≡ suc (length later)
    → (check ≡ Ok tt) × (accepted_calls (outcome_of check t e).state later ≡ length later)
unfolding outcome_of
first_found (Ok _) t e later h = (refl, omega arith)
first_found (Err refusal) t e later h = absurd (omega (arith, accepted-most later t))

-- The first of them is, and so are the others.
first-accepted : (t : State) (c : Call) (later : List Call) → accepted_calls t (c ∷ later) ≡ suc (length later)
    → (month_check t c.number c.entries ≡ Ok tt) × (accepted_calls (state_after t c) later ≡ length later)
unfolding accepted_calls month_call
first-accepted t c later h = first_found (month_check t c.number c.entries) t c.entries later h

-- ---- lists of acts

acts_append : (a b : List Act) (f : Field) → run_acts f (a ++ b) ≡ run_acts (run_acts f a) b
unfolding run_acts
acts_append [] b f = refl
acts_append (act ∷ a) b f = acts_append a b (after_act f act)

backs_last : (n : ℕ) → backs (suc n) ≡ backs n ++ (back ∷ [])
unfolding backs
backs_last zero = refl
backs_last (suc n) = ap (◌∷◌ back) (backs_last n)

-- One more taking-back is the last one.
around : (a : List Act) (n : ℕ) (f : Field) → run_acts f (a ++ backs (suc n)) ≡ after_back (run_acts f (a ++ backs n))
unfolding run_acts
around a n f =
    ap (run_acts f) (ap (◌++◌ a) (backs_last n) ∙ sym (append_assoc a (backs n) (back ∷ []))) ∙ acts_append (a ++ backs n) (back ∷ []) f

-- ---- one month, and taking it back

kept-passes : (s : State) → 0 < s.kept → s.kept ≤ kept_limit → first_of (take_asked s) ≡ Ok tt
unfolding take_asked first_of
kept-passes s some few = rw (ne_eqb s.kept 0 (λ h. omega arith), le-ltb kept_limit s.kept few)

module _ {start : State} {f : Field} {n : ℕ} {earlier : List Call} where
  holds-call : (c : Call) → month_check f.state c.number c.entries ≡ Ok tt → n < kept_limit → Holds start f n earlier
      → Holds start (after_call f c) (suc n) (c ∷ earlier)
  unfolding outcome_of
  holds-call c passed below h =
      let counts : one_more_kept n ≡ suc n = one_more n below ∙ omega arith in
      subst
      (λ (o : Outcome Answer State). Holds start (record { state = o.state; memory = keep_if o.answer f.state f.memory }) (suc n) (c ∷ earlier))
      (sym (accepted_runs f.state c.number c.entries passed))
      (rw counts at (holds_moved h c passed))

  holds-back : (c : Call) → Holds start f (suc n) (c ∷ earlier) → Holds start (after_back f) n earlier
  holds-back c h =
      subst (λ (o : Outcome TakeAnswer State). Holds start (record { state = o.state; memory = f.memory }) n earlier)
      (taken f.state f.memory (kept-passes f.state (omega (arith, h.least)) h.few))
      (holds_taken n h)

-- ---- months, each taken back

returned : {start : State} (months : List Call) (f : Field) {n : ℕ} {earlier : List Call} → accepted_calls f.state months ≡ length months
    → n + length months ≤ kept_limit → Holds start f n earlier → Holds start (run_acts f (calls months ++ backs (length months))) n earlier
unfolding run_acts calls backs
returned [] f all short h = h
returned {start} (c ∷ later) f {n} {earlier} all short h =
    let first = first-accepted f.state c later all in
    let inner = returned later (after_call f c) first.1 (omega arith) (holds-call c first.0 (omega arith) h) in
    subst (λ (g : Field). Holds start g n earlier)
    (sym (around (calls later) (length later) (after_call f c)))
    (holds-back c inner)

-- No more than 24 are kept where a call is accepted.
few_kept : (f : Field) (c : Call) (later : List Call) → accepted_calls f.state (c ∷ later) ≡ suc (length later)
    → f.state.kept ≤ kept_limit
few_kept f c later all =
    (sound-state f.state (accepted f.state c.number c.entries (first-accepted f.state c later all).0).state).kept

-- The field after them holds what it held before any.
as_before : (f : Field) → Lent f → (c : Call) (later : List Call) → accepted_calls f.state (c ∷ later) ≡ suc (length later)
    → suc (length later) ≤ kept_limit → Holds f.state (run_acts f (calls (c ∷ later) ++ backs (suc (length later)))) 0 []
as_before f lent c later all short =
    returned (c ∷ later) f all (omega arith) (holds-none f (record { pools = lent.pools; modern = lent.modern }) (few_kept f c later all) lent.memory)

restored : (f : Field) → Lent f → (months : List Call) → accepted_calls f.state months ≡ length months → length months ≤ kept_limit
    → kept_aside (run_acts f (calls months ++ backs (length months))).state ≡ kept_aside f.state
unfolding alone run_acts calls backs
restored f lent [] all short = refl
restored f lent (c ∷ later) all short = (as_before f lent c later all short).same

-- ---- a month taken back and booked afresh

module _ (f : Field) (lent : Lent f) (c d : Call) (one : accepted_calls f.state (c ∷ []) ≡ 1) where
  again : outcome_aside (month_call (back_from f c).state d.number d.entries) ≡ outcome_aside (month_call f.state d.number d.entries)
  unfolding calls backs alone
  again =
      let h = as_before f lent c [] one (omega arith) in
      same_outcome (back_from f c).state f.state h.same h.few (few_kept f c [] one) d.number d.entries

  afresh_state : kept_aside (run_acts f (call c ∷ back ∷ call d ∷ [])).state ≡ kept_aside (run_acts f (call d ∷ [])).state
  unfolding run_acts
  afresh_state = ap (λ (o : Outcome Answer State). o.state) again

pub taking_back : TakingBack
taking_back =
    record {
      restored = restored;
      afresh = λ f lent c d one. ap (λ (o : Outcome Answer State). o.answer) (again f lent c d one);
      afresh_state = afresh_state;
    }
