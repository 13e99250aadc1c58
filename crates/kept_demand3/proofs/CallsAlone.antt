-- A list without takings-back: it ends in the state of its calls, and its months that remain are the accepted ones, in their order. These
-- add the same carbon, and the recurrence goes over them as over all of the calls.
-- Assumes nothing.
use Rattle.std.specs.Prelude.{Ok, Err}
use mathlib.Core.Path.{◌≡◌, refl, sym, ◌∙◌, ap, subst}
use mathlib.Core.Bool.{Bool, true, false, cond}
use mathlib.Core.List.{List, [], ◌∷◌, reverse, reverse_aux, reverse-reverse}
use Prim.Native.Nat.{ℕ, ◌+◌}
use native.Mathlib.Nat.{zero-add}
use native.Mathlib.Omega.{arith}
use lib.ListN.{length}
use Rattle.month_state.specs.declared.Soil.{Soil}
use Rattle.month_state.specs.declared.State.{State}
use Rattle.month_state.specs.declared.Entries.{Entries}
use Rattle.month_refusals.specs.Asked.{Check}
use Rattle.month_refusals.specs.Refusals.{month_check}
use Rattle.month_call.specs.Month.{outcome_of, month_call}
use Rattle.month_demand3.specs.Calls.{Call, state_after, is_done, accepts, run_calls, accepted_calls, added_carbon}
use Rattle.month_demand3.specs.Recurrence.{Fed, feed, Exact, Leads, refused, month}
use Rattle.month_demand3.proofs.Balance.{addition}
use Rattle.kept_demand3.specs.Acts.{Field, run_acts, remain, remaining, calls}

-- The accepted ones of a list of calls.
unfoldable pub accepted_of : State → List Call → List Call
accepted_of t [] = []
accepted_of t (c ∷ later) = cond (accepts t c) (c ∷ accepted_of (state_after t c) later) (accepted_of (state_after t c) later)

-- ---- the list's end, and its months that remain

pub calls-state : (month_calls : List Call) (f : Field) → (run_acts f (calls month_calls)).state ≡ run_calls f.state month_calls
unfolding run_acts calls run_calls
calls-state [] f = refl
calls-state (c ∷ later) f = calls-state later _

put_first : (accepted : Bool) (c : Call) (l earlier : List Call)
    → reverse_aux l (cond accepted (c ∷ earlier) earlier) ≡ reverse_aux (cond accepted (c ∷ l) l) earlier
put_first true c l earlier = refl
put_first false c l earlier = refl

calls-remain : (month_calls : List Call) (f : Field) (earlier : List Call)
    → remain f (calls month_calls) earlier ≡ reverse_aux (accepted_of f.state month_calls) earlier
unfolding remain calls accepted_of
calls-remain [] f earlier = refl
calls-remain (c ∷ later) f earlier =
    calls-remain later _ (cond (accepts f.state c) (c ∷ earlier) earlier)
    ∙ put_first (accepts f.state c) c (accepted_of (state_after f.state c) later) earlier

pub calls-remaining : (month_calls : List Call) (f : Field) → remaining f (calls month_calls) ≡ accepted_of f.state month_calls
calls-remaining month_calls f = ap reverse (calls-remain month_calls f []) ∙ reverse-reverse (accepted_of f.state month_calls)

-- ---- one call

-- A refused one leaves the state that it was given.
unchanged : (check : Check) (t : State) (e : Entries) → is_done (outcome_of check t e).answer ≡ false → (outcome_of check t e).state ≡ t
unfolding outcome_of
unchanged (Ok _) t e h = absurd (let z : ◌≡◌ {A = ℕ} 0 1 = cc in omega arith)
unchanged (Err refusal) t e h = refl

module _ (t : State) (c : Call) (later : List Call) where
  refused-same : accepts t c ≡ false → state_after t c ≡ t
  unfolding month_call
  refused-same h = unchanged (month_check t c.number c.entries) t c.entries h

  -- Left out of the list it adds nothing and is fed to nothing.
  one-added : (accepted : Bool) → accepts t c ≡ accepted
      → added_carbon t (cond accepted (c ∷ later) later) ≡ cond accepted (addition c.entries) 0 + added_carbon (state_after t c) later
  unfolding added_carbon
  one-added true is = rw is
  one-added false is = rw (refused-same is) (sym (zero-add (added_carbon t later)))

  abbrev fed : Bool → Fed
  fed accepted = record { entries = c.entries; accepted = accepted }

  one_fed : (accepted : Bool) → accepts t c ≡ accepted
      → cond accepted (fed accepted ∷ feed (state_after t c) later) (feed (state_after t c) later) ≡ feed t (cond accepted (c ∷ later) later)
  unfolding feed
  one_fed true is = rw is
  one_fed false is = rw (refused-same is)

-- ---- a list of calls

one-length : (accepted : Bool) (c : Call) (l : List Call) → length (cond accepted (c ∷ l) l) ≡ cond accepted 1 0 + length l
one-length true c l = omega arith
one-length false c l = omega arith

pub accepted-length : (month_calls : List Call) (t : State) → length (accepted_of t month_calls) ≡ accepted_calls t month_calls
unfolding accepted_of accepted_calls
accepted-length [] t = refl
accepted-length (c ∷ later) t =
    one-length (accepts t c) c (accepted_of (state_after t c) later)
    ∙ ap (λ (n : ℕ). cond (accepts t c) 1 0 + n) (accepted-length later (state_after t c))

pub accepted-added : (month_calls : List Call) (t : State) → added_carbon t (accepted_of t month_calls) ≡ added_carbon t month_calls
unfolding accepted_of added_carbon
accepted-added [] t = refl
accepted-added (c ∷ later) t =
    one-added t c (accepted_of (state_after t c) later) (accepts t c) refl
    ∙ ap (λ (n : ℕ). cond (accepts t c) (addition c.entries) 0 + n) (accepted-added later (state_after t c))

module _ {s : Soil} {y : Exact} where
  one_leads : {x : Exact} {e : Entries} {all some : List Fed} (accepted : Bool)
      → Leads s (record { entries = e; accepted = accepted } ∷ all) x y → ((z : Exact) → Leads s all z y → Leads s some z y)
      → Leads s (cond accepted (record { entries = e; accepted = accepted } ∷ some) some) x y
  one_leads true (month q allowed l) on = month q allowed (on _ l)
  one_leads false (refused l) on = on _ l

  pub accepted_leads : (month_calls : List Call) (t : State) (x : Exact) → Leads s (feed t month_calls) x y
      → Leads s (feed t (accepted_of t month_calls)) x y
  unfolding feed accepted_of
  accepted_leads [] t x l = l
  accepted_leads (c ∷ later) t x l =
      subst (λ (fed : List Fed). Leads s fed x y) (one_fed t c (accepted_of (state_after t c) later) (accepts t c) refl)
      (one_leads (accepts t c) l (accepted_leads later (state_after t c)))
