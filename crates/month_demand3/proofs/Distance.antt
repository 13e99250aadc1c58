-- Demand 3 (b): along any list of calls a state follows the recurrence, at most 20 grams further from it with each accepted call.
-- By induction on the list; a month is the step of Step.antt, and a refused call changes neither. Assumes nothing.
use Rattle.std.specs.Prelude.{Ok, Err}
use mathlib.Core.Path.{◌≡◌, refl, ap, ap₂, subst}
use mathlib.Core.Bool.{true, false, cond}
use mathlib.Core.List.{List, [], ◌∷◌}
use Prim.Native.Nat.{ℕ, ◌+◌, ◌-◌, ◌*◌}
use native.Mathlib.Nat.{add-zero}
use native.Mathlib.Omega.{arith}
use lib.Dec.{lit<}
use Rattle.number_exact.specs.Fraction.{◌≼◌, whole, distance}
use Rattle.number_exact.proofs.Fraction.{At, at-whole, at_sum, at-distance, le-at, ≼_trans, sum-most}
use Rattle.step_pools.specs.Pools.{grams_at}
use Rattle.month_state.specs.declared.Soil.{Soil}
use Rattle.month_state.specs.declared.State.{State}
use Rattle.month_state.specs.declared.Entries.{Entries}
use Rattle.month_refusals.specs.Asked.{Check}
use Rattle.month_refusals.specs.Refusals.{month_check}
use Rattle.month_state.specs.State.{new_state}
use Rattle.month_call.specs.Month.{deficit_after, rate_after, pools_after, with_pools, moved_to, next_deficit, next_rate, outcome_of, month_call}
use Rattle.month_demand3.specs.Calls.{Call, state_after, is_done, accepts, run_calls, accepted_calls}
use Rattle.month_demand3.specs.Recurrence.{Fed, feed, Exact, exact_start, Fractions, AllowedAt, exact_formed, exact_month, exact_rate, Leads, none}
use Rattle.month_demand3.specs.Recurrence.{refused, month}
use Rattle.month_demand3.specs.Demand.{total_distance}
use Rattle.month_demand3.proofs.Step.{month-distance}
use Rattle.month_demand3.proofs.Bounds.{Bounds, accepted_bounds}

-- A state follows the recurrence: its soil is the recurrence's but for the pools, its deficit is the recurrence's, and the
-- distances of its pools add up to at most n grams.
pub record Follows (s : Soil) (t : State) (x : Exact) (n : ℕ) : Type 0 where
  pub soil : t.soil ≡ with_pools s t.soil.pools
  pub deficit : t.deficit.0 ≡ x.deficit
  pub near : total_distance t x ≼ whole n

no_distance : (n : ℕ) → At 1 (distance (whole n) (whole n)) (n * 1 - n * 1 + (n * 1 - n * 1))
no_distance n = at-distance (at-whole 1 n) (at-whole 1 n)

-- The new state follows the start.
pub starts : (s : Soil) → Follows s (new_state s) (exact_start s) 0
unfolding new_state
starts s =
    let y : ℕ → ℕ = grams_at s.pools in
    record {
      soil = refl;
      deficit = refl;
      near =
          le-at (at_sum (at_sum (at_sum (no_distance (y 0)) (no_distance (y 1))) (no_distance (y 2))) (no_distance (y 3)))
          (at-whole 1 0) (lit< tt)
          (omega arith);
    }

-- The recurrence over one call: an accepted one is a month, a refused one is nothing, and over none it stands still.
leads_none : {s : Soil} {x y : Exact} → Leads s [] x y → x ≡ y
leads_none none = refl

module _ {s : Soil} {x y : Exact} where
  leads_refused : {e : Entries} {later : List Fed} → Leads s (record { entries = e; accepted = false } ∷ later) x y → Leads s later x y
  leads_refused (refused l) = l

  leads_month :
      {e : Entries} {later : List Fed} → Leads s (record { entries = e; accepted = true } ∷ later) x y
      → (q : Fractions) × AllowedAt q (exact_rate s e x) × Leads s later (exact_month s e q x) y
  leads_month (month q allowed l) = (q, allowed, l)

-- The deficit, the rate number and the month of the recurrence are those of the soil with any pools.
module _ (s : Soil) (t : State) (x : Exact) (e : Entries) (soil : t.soil ≡ with_pools s t.soil.pools) where
  same-deficit : t.deficit.0 ≡ x.deficit → next_deficit t e ≡ deficit_after s x.deficit e
  unfolding next_deficit deficit_after
  same-deficit d = ap₂ (λ (u : Soil) (m : ℕ). deficit_after u m e) soil d

  pub same_rate : t.deficit.0 ≡ x.deficit → next_rate t e ≡ exact_rate s e x
  unfolding next_rate next_deficit deficit_after rate_after
  same_rate d = ap₂ (λ (u : Soil) (m : ℕ). rate_after u (deficit_after u m e) e) soil d

  same_month : (q : Fractions) → exact_month t.soil e q x ≡ exact_month s e q x
  unfolding exact_month exact_formed deficit_after
  same_month q = ap (λ (u : Soil). exact_month u e q x) soil

-- An accepted month is followed by the recurrence's month.
module _ (s : Soil) (t : State) (x : Exact) (n : ℕ) (e : Entries) (q : Fractions) (bounds : Bounds t e)
    (allowed : AllowedAt q (exact_rate s e x)) (h : Follows s t x n) where
  month-near : total_distance (moved_to t e.land (next_deficit t e) (next_rate t e)) (exact_month s e q x) ≼ whole (n + 20)
  month-near =
      let here : AllowedAt q (next_rate t e) = rw (same_rate s t x e h.soil h.deficit) allowed in
      let step =
      month-distance t e (next_deficit t e) (next_rate t e) q x bounds.carbon bounds.clay bounds.survival here in
      ≼_trans (rw (same_month s t x e h.soil q) at step) (sum-most 19 (n + 20) (omega arith) h.near)

  pub month_follows : Follows s (moved_to t e.land (next_deficit t e) (next_rate t e)) (exact_month s e q x) (n + 20)
  unfolding moved_to exact_month
  month_follows =
      record {
        soil = ap (λ (u : Soil). with_pools u (pools_after t.soil (next_rate t e) e.land)) h.soil;
        deficit = same-deficit s t x e h.soil h.deficit;
        near = month-near;
      }

-- One call: where it stands in the list, the recurrence goes on to a holding that the call's state follows.
one-call :
    (s : Soil) (t : State) (x y : Exact) (n : ℕ) (e : Entries) (later : List Fed) (check : Check) → (check ≡ Ok tt → Bounds t e)
    → Follows s t x n → Leads s (record { entries = e; accepted = is_done (outcome_of check t e).answer } ∷ later) x y
    → (z : Exact) × Follows s (outcome_of check t e).state z (n + 20 * cond (is_done (outcome_of check t e).answer) 1 0) × Leads s later z y
unfolding outcome_of
one-call s t x y n e later (Ok _) bounds h l =
    let r = leads_month l in
    (exact_month s e r.0 x, month_follows s t x n e r.0 (bounds refl) r.1 h, r.2)
one-call s t x y n e later (Err refusal) bounds h l = (x, rw (add-zero n) h, leads_refused l)

bound_adds : (n a b : ℕ) → n + 20 * a + 20 * b ≡ n + 20 * (a + b)
bound_adds n a b = omega arith

-- A list of calls.
pub calls_follow :
    (s : Soil) (calls : List Call) (t : State) (x y : Exact) (n : ℕ) → Follows s t x n → Leads s (feed t calls) x y
    → Follows s (run_calls t calls) y (n + 20 * accepted_calls t calls)
unfolding feed run_calls accepted_calls month_call
calls_follow s [] t x y n h l = rw (add-zero n) (subst (λ (z : Exact). Follows s t z n) (leads_none l) h)
calls_follow s (c ∷ calls) t x y n h l =
    let r =
    one-call s t x y n c.entries (feed (state_after t c) calls) (month_check t c.number c.entries)
    (accepted_bounds t c.number c.entries) h l in
    subst (λ (m : ℕ). Follows s (run_calls (state_after t c) calls) y m)
    (bound_adds n (cond (accepts t c) 1 0) (accepted_calls (state_after t c) calls))
    (calls_follow s calls (state_after t c) r.0 y (n + 20 * cond (accepts t c) 1 0) r.1 r.2)
