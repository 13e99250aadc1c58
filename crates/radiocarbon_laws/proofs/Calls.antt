-- Single month calls without activities are the calls, but for modern grams, up to the first refusal by 21, or by 10 for modern grams. By
-- induction over the calls.
-- Assumes nothing.
use mathlib.Core.Path.{◌≡◌, refl, sym, ◌∙◌, ap, subst}
use mathlib.Core.Bool.{true, false, cond}
use mathlib.Core.List.{List, [], ◌∷◌}
use Prim.Native.Nat.{ℕ, ◌+◌}
use lib.IntN.{nat_abs}
use Rattle.month_state.specs.declared.State.{State}
use Rattle.month_call.specs.Month.{Answer, month_call}
use Rattle.month_state.specs.declared.Outcome.{Outcome}
use Rattle.month_demand3.specs.Calls.{Call, state_after, is_done, run_calls, accepted_calls, added_carbon}
use Rattle.radiocarbon_laws.specs.Along.{answers_along, none_stops}
use Rattle.radiocarbon_laws.specs.Without.{state_without, entries_without, call_without, calls_without}
use Rattle.radiocarbon_laws.specs.Calls.{answer_of, call_by_modern, answers_of, up_to_modern, none_by_modern, SameCarbon, CarbonOfCalls}
use Rattle.radiocarbon_laws.proofs.Along.{both, both_back, begins}
use Rattle.radiocarbon_laws.proofs.Months.{month_without, month_never}

same-carbon : (s : State) (calls : List Call) → none_by_modern s calls ≡ true → SameCarbon s calls
unfolding none_stops calls_without answers_along run_calls accepted_calls added_carbon
same-carbon s [] h = record { answers = refl; state = refl; accepted = refl; carbon = refl }
same-carbon s (c ∷ calls) h =
    let parts = both (call_by_modern s c) (none_by_modern (state_after s c) calls) h in
    let step = month_without s c.entries c.number parts.0 in
    let later = same-carbon (state_after s c) calls parts.1 in
    let answer = answer_of s c in
    let brought = nat_abs c.entries.land.plant + nat_abs c.entries.land.manure in
    record {
      answers =
          (λ i. (step i).answer ∷ answers_of (step i).state (calls_without calls))
          ∙ ap (λ (l : List Answer). answer ∷ l) later.answers;
      state = (λ i. run_calls (step i).state (calls_without calls)) ∙ later.state;
      accepted =
          (λ i. cond (is_done (step i).answer) 1 0 + accepted_calls (step i).state (calls_without calls))
          ∙ ap (λ (n : ℕ). cond (is_done answer) 1 0 + n) later.accepted;
      carbon =
          (λ i. cond (is_done (step i).answer) brought 0 + added_carbon (step i).state (calls_without calls))
          ∙ ap (λ (n : ℕ). cond (is_done answer) brought 0 + n) later.carbon;
    }

pub calls_alone : (s : State) (calls : List Call) → CarbonOfCalls s calls
calls_alone s calls =
    let up_to_lem = begins state_after call_by_modern s calls in
    record { begins = up_to_lem; same = same-carbon s (up_to_modern s calls) up_to_lem.none }

-- Without activities no call is refused so. The state stays without modern grams.
pub never_calls : (s : State) (calls : List Call) → s ≡ state_without s → none_by_modern s (calls_without calls) ≡ true
unfolding none_stops calls_without
never_calls s [] bare = refl
never_calls s (c ∷ calls) bare =
    let never = subst (λ (t : State). call_by_modern t (call_without c) ≡ false) (sym bare)
    (month_never s c.number c.entries) in
    let step = month_without s (entries_without c.entries) c.number never in
    let stays = ap (λ (t : State). (month_call t c.number (entries_without c.entries)).state) bare
    ∙ ap (λ (o : Outcome Answer State). o.state) step in
    both_back never (never_calls (state_after s (call_without c)) calls stays)
