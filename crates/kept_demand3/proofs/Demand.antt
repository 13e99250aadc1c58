-- Demand 3 with months taken back: along any list a field holds what Remains.antt says, with as many states kept as its count tells; so it
-- ends as its months that remain do, of which demand 3 is known. Without takings-back by CallsAlone.antt.
-- Assumes nothing.
use Rattle.std.specs.Prelude.{Ok, Err}
use mathlib.Core.Path.{◌≡◌, refl, sym, ◌∙◌, ap, subst}
use mathlib.Core.Bool.{true, cond}
use mathlib.Core.List.{List, [], ◌∷◌, reverse_aux}
use Prim.Native.Nat.{ℕ, ◌+◌, ◌-◌, ◌*◌}
use native.Mathlib.Nat.{zero-add, add-zero}
use native.Mathlib.Omega.{arith}
use lib.ListN.{length, length-reverse, drop}
use Rattle.number_exact.specs.Fraction.{◌≼◌, whole}
use Rattle.step_pools.specs.Pools.{total}
use Rattle.month_state.specs.declared.Soil.{Soil}
use Rattle.month_state.specs.declared.State.{State}
use Rattle.month_state.specs.State.{new_state, kept_aside}
use Rattle.month_layouts.specs.Layouts.{memory_width, state_from}
use Rattle.month_refusals.specs.Asked.{Check, first_of}
use Rattle.month_refusals.specs.Refusals.{soil_check, month_check}
use Rattle.month_state.specs.declared.Outcome.{Outcome}
use Rattle.month_call.specs.Month.{moved_to, outcome_of, month_call, Answer}
use Rattle.month_call.proofs.Laws.{accepted_runs}
use Rattle.month_demand3.specs.Calls.{Call, is_done, accepts, run_calls, accepted_calls, added_carbon}
use Rattle.month_demand3.specs.Recurrence.{Exact, Leads, exact_start, feed}
use Rattle.month_demand3.specs.Demand.{total_distance, Demand3For}
use Rattle.month_demand3.proofs.Balance.{carbon_of}
use Rattle.month_demand3.proofs.Demand.{demand3}
use Rattle.kept_months.specs.Kept.{keep_if, latest, take_asked, take_checked, take_back}
use Rattle.kept_months.proofs.Laws.{some_kept}
use Rattle.kept_demand3.specs.Acts.{Act, call, back, Field, new_field, run_acts, is_taken, remain, calls}
use Rattle.kept_demand3.specs.Demand.{Lent, EndsAsRemaining, end_of, months_of, FieldDemand3For, FieldDemand3}
use Rattle.kept_demand3.proofs.Remains as months
use Rattle.kept_demand3.proofs.Remains.{alone, InTurn, Holds, holds-none, holds_moved, holds_taken}
use Rattle.kept_demand3.proofs.CallsAlone.{accepted_of, calls-state, calls-remaining, accepted-length, accepted-added, accepted_leads}

-- ---- along a list

-- A field holds as many as it counts.
abbrev HoldsAll : State → Field → List Call → Type 0
HoldsAll start f earlier = Holds start f f.state.kept earlier

module _ {start : State} (f : Field) {earlier : List Call} (h : HoldsAll start f earlier) where
  -- A call: an accepted one is one more, a refused one changes nothing.
  call-holds :
      (c : Call) (check : Check) → month_check f.state c.number c.entries ≡ check
      → HoldsAll start
      (record {
        state = (outcome_of check f.state c.entries).state;
        memory = keep_if (outcome_of check f.state c.entries).answer f.state f.memory;
      })
      (cond (is_done (outcome_of check f.state c.entries).answer) (c ∷ earlier) earlier)
  unfolding outcome_of moved_to
  call-holds c (Ok _) is = holds_moved h c is
  call-holds c (Err refusal) is = h

  -- A taking-back: one less, or nothing changes.
  back-holds :
      (check : Check) → first_of (take_asked f.state) ≡ check
      → HoldsAll start (record { state = (take_checked check f.state f.memory).state; memory = f.memory })
      (cond (is_taken (take_checked check f.state f.memory).answer) (drop 1 earlier) earlier)
  unfolding latest state_from
  back-holds (Ok _) is =
      holds_taken (f.state.kept - 1)
      (subst (λ (n : ℕ). Holds start f n earlier) (omega (arith, some_kept f.state is)) h)
  back-holds (Err refusal) is = h

acts_hold : {start : State} (acts : List Act) (f : Field) {earlier : List Call} → HoldsAll start f earlier
    → HoldsAll start (run_acts f acts) (remain f acts earlier)
unfolding run_acts remain month_call take_back
acts_hold [] f h = h
acts_hold (call c ∷ acts) f h = acts_hold acts _ (call-holds f h c (month_check f.state c.number c.entries) refl)
acts_hold (back ∷ acts) f h = acts_hold acts _ (back-holds f h (first_of (take_asked f.state)) refl)

-- ---- the months that remain, in their order

-- They run to the same state, ..
alone_runs : (start : State) (earlier later : List Call) → run_calls start (reverse_aux earlier later) ≡ run_calls (alone start earlier) later
unfolding run_calls alone
alone_runs start [] later = refl
alone_runs start (c ∷ earlier) later = alone_runs start earlier (c ∷ later)

-- .. and all of them are accepted.
passed-accepts : (t : State) (c : Call) → month_check t c.number c.entries ≡ Ok tt → accepts t c ≡ true
unfolding outcome_of
passed-accepts t c passed = ap (λ (o : Outcome Answer State). is_done o.answer) (accepted_runs t c.number c.entries passed)

all_accepted : {start : State} {earlier : List Call} → InTurn start earlier → (later : List Call)
    → accepted_calls start (reverse_aux earlier later) ≡ length earlier + accepted_calls (alone start earlier) later
unfolding accepted_calls alone
all_accepted (months.none four few) later = sym (zero-add _)
all_accepted {start} (months.more {c} {earlier} passed turns) later =
    all_accepted turns (c ∷ later) ∙ rw (passed-accepts (alone start earlier) c passed) (omega arith)

-- ---- demand 3

-- The list's end, from a field with none kept.
module _ (f : Field) (lent : Lent f) (none : f.state.kept ≡ 0) (acts : List Act) where
  at-end : HoldsAll f.state (run_acts f acts) (remain f acts [])
  at-end =
      acts_hold acts f
      (subst (λ (n : ℕ). Holds f.state f n []) (sym none)
      (holds-none f (record { pools = lent.pools; modern = lent.modern }) (omega arith) lent.memory))

  ends : EndsAsRemaining f acts
  unfolding run_calls accepted_calls
  ends =
      record {
        same = at-end.same ∙ ap kept_aside (sym (alone_runs f.state (remain f acts []) []));
        accepted = all_accepted at-end.turns [] ∙ add-zero _ ∙ sym (length-reverse (remain f acts []));
      }

-- From a new state, with demand 3 of the months that remain.
module _ (s : Soil) (four : length s.pools ≡ 4) (memory : List ℕ) (long : length memory ≡ memory_width) (acts : List Act) where
  new_ends : EndsAsRemaining (new_field s memory) acts
  unfolding new_state
  new_ends = ends (new_field s memory) (record { pools = four; modern = four; memory = long }) refl acts

  for_acts : soil_check s ≡ Ok tt → FieldDemand3For s memory acts
  for_acts sound =
      let all = demand3.holds s sound (months_of s memory acts) in
      record {
        ends = new_ends;
        balance = ap carbon_of new_ends.same ∙ all.balance;
        distances =
            λ x l. subst (λ (t : State). total_distance t x ≼ whole (20 * length (months_of s memory acts))) (sym new_ends.same)
            (rw new_ends.accepted at (all.distances x l));
      }

-- Without takings-back: the accepted calls are the months that remain.
module _ (s : Soil) (memory : List ℕ) (month_calls : List Call) where
  months_are : months_of s memory (calls month_calls) ≡ accepted_of (new_state s) month_calls
  months_are = calls-remaining month_calls (new_field s memory)

  end_is : end_of s memory (calls month_calls) ≡ run_calls (new_state s) month_calls
  end_is = calls-state month_calls (new_field s memory)

  counted : length (months_of s memory (calls month_calls)) ≡ accepted_calls (new_state s) month_calls
  counted = ap length months_are ∙ accepted-length month_calls (new_state s)

  carried : added_carbon (new_state s) (months_of s memory (calls month_calls)) ≡ added_carbon (new_state s) month_calls
  carried = ap (added_carbon (new_state s)) months_are ∙ accepted-added month_calls (new_state s)

  same_leads : (x : Exact) → Leads s (feed (new_state s) month_calls) (exact_start s) x
      → Leads s (feed (new_state s) (months_of s memory (calls month_calls))) (exact_start s) x
  same_leads x l = rw months_are (accepted_leads month_calls (new_state s) (exact_start s) l)

  before : FieldDemand3For s memory (calls month_calls) → Demand3For s month_calls
  before d =
      record {
        balance =
            sym (ap carbon_of end_is) ∙ d.balance
            ∙ ap (λ (carbon : ℕ). total s.pools + carbon) carried;
        distances = λ x l. rw end_is at (rw counted at (d.distances x (same_leads x l)));
      }

pub field-demand3 : FieldDemand3
field-demand3 =
    record {
      holds = λ s four sound memory long acts. for_acts s four memory long acts sound;
      begun_with_none = ends;
      without_backs =
          λ s memory l.
          record {
            end = end_is s memory l;
            months = counted s memory l;
            carbon = carried s memory l;
            before = before s memory l;
          };
    }

-- The theorem, as the call names it.
pub ruleset calling = (field-demand3)
