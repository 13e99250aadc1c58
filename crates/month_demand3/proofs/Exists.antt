-- The exact recurrence can always go on: for every list of calls there are survival fractions that are allowed, those of the
-- program's own numbers among them. So what demand 3 says of every such run is not said of none. Assumes nothing.
use Rattle.std.specs.Prelude.{Ok, Err}
use mathlib.Core.Path.{◌≡◌, refl}
use mathlib.Core.List.{List, [], ◌∷◌}
use Prim.Native.Nat.{ℕ, ◌+◌, ◌≤◌}
use native.Mathlib.Omega.{arith}
use lib.Dec.{lit<}
use Rattle.number_exact.specs.Fraction.{Fraction, ratio, ◌⊞◌, ◌⊟◌, distance}
use Rattle.step_survival.specs.Survival.{survival_number}
use Rattle.step_decay.specs.Rates.{survivals}
use Rattle.step_decay.specs.Decay.{Survivals}
use Rattle.month_state.specs.declared.Soil.{Soil}
use Rattle.month_state.specs.declared.State.{State}
use Rattle.month_state.specs.declared.Entries.{Entries}
use Rattle.month_refusals.specs.Asked.{Check}
use Rattle.month_refusals.specs.Refusals.{month_check}
use Rattle.month_state.specs.State.{new_state}
use Rattle.month_call.specs.Month.{outcome_of, month_call}
use Rattle.month_demand3.specs.Calls.{Call, state_after, is_done}
use Rattle.month_demand3.specs.Recurrence.{Fed, feed, Exact, exact_start, Fractions, Allowed, AllowedAt, exact_month, exact_rate, Leads, none}
use Rattle.month_demand3.specs.Recurrence.{refused, month}
use Rattle.month_demand3.proofs.Bounds.{Bounds, accepted_bounds}
use Rattle.month_demand3.proofs.Distance.{Follows, starts, same_rate, month_follows}

-- S / 1,000,000,000
own : ℕ → Fraction
own s = ratio s 1000000000 (lit< tt)

own_allowed : (s : ℕ) → s ≤ 1000000000 → Allowed (own s) s
unfolding own distance ◌⊞◌ ◌⊟◌
own_allowed s h = record { at_most_one = record { cross = omega arith }; near = record { cross = omega arith } }

owns : ℕ → Fractions
owns n =
    record {
      dpm = own (survival_number n 1000);
      rpm = own (survival_number n 30);
      bio = own (survival_number n 66);
      hum = own (survival_number n 2);
    }

owns_allowed : (n : ℕ) → Survivals (survivals n) → AllowedAt (owns n) n
unfolding owns survivals
owns_allowed n h =
    record {
      dpm = own_allowed (survival_number n 1000) h.dpm;
      rpm = own_allowed (survival_number n 30) h.rpm;
      bio = own_allowed (survival_number n 66) h.bio;
      hum = own_allowed (survival_number n 2) h.hum;
    }

-- One call: the holding after it, and that it leads there.
one-call :
    (s : Soil) (t : State) (x : Exact) (n : ℕ) (e : Entries) (later : List Fed) (check : Check) → (check ≡ Ok tt → Bounds t e)
    → Follows s t x n
    → (z : Exact) × (m : ℕ) × Follows s (outcome_of check t e).state z m
    × ((y : Exact) → Leads s later z y → Leads s (record { entries = e; accepted = is_done (outcome_of check t e).answer } ∷ later) x y)
unfolding outcome_of
one-call s t x n e later (Ok _) bounds h =
    let q = owns (exact_rate s e x) in
    let allowed : AllowedAt q (exact_rate s e x) =
    owns_allowed (exact_rate s e x) (rw (same_rate s t x e h.soil h.deficit) at (bounds refl).survival) in
    (exact_month s e q x, n + 20, month_follows s t x n e q (bounds refl) allowed h, λ y l. month q allowed l)
one-call s t x n e later (Err refusal) bounds h = (x, n, h, λ y l. refused l)

leads_on : (s : Soil) (calls : List Call) (t : State) (x : Exact) (n : ℕ) → Follows s t x n → (y : Exact) × Leads s (feed t calls) x y
unfolding feed month_call
leads_on s [] t x n h = (x, none)
leads_on s (c ∷ calls) t x n h =
    let r =
    one-call s t x n c.entries (feed (state_after t c) calls) (month_check t c.number c.entries)
    (accepted_bounds t c.number c.entries) h in
    let onward = leads_on s calls (state_after t c) r.0 r.1 r.2 in
    (onward.0, r.3 onward.0 onward.1)

-- From the new state of every soil, over every list of calls.
pub leads_somewhere : (s : Soil) (calls : List Call) → (y : Exact) × Leads s (feed (new_state s) calls) (exact_start s) y
leads_somewhere s calls = leads_on s calls (new_state s) (exact_start s) 0 (starts s)
