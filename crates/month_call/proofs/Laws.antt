-- Laws of the single month call and of a list's month: which refusal is given, that a refusal changes nothing, and what an accepted
-- month does to a state. Steps.antt has what the steps need.
-- Assumes nothing.
use Rattle.std.specs.Prelude.{Ok, Err}
use mathlib.Core.Path.{◌≡◌, refl, sym, ◌∙◌, ap}
use Prim.Native.Nat.{ℕ, ◌+◌, ◌≤◌, ◌<◌, ◌^◌}
use native.Mathlib.Omega.{arith}
use lib.IntN.{nat_abs}
use lib.ListN.{length}
use Rattle.step_decay.specs.Rates.{survivals}
use Rattle.step_pools.specs.Pools.{total}
use Rattle.step_decay.specs.Decay.{Survivals}
use Rattle.step_turnover.proofs.Laws.{turned_length, modern_turned_length}
use Rattle.month_state.specs.declared.Soil.{Soil}
use Rattle.month_state.specs.declared.State.{State}
use Rattle.month_state.specs.declared.Entries.{Entries}
use Rattle.month_refusals.specs.Asked.{Check, at, found, told, number_and_place, Exactly, answer_found, answer_told}
use Rattle.month_refusals.specs.declared.Refusal.{Refusal}
use Rattle.month_refusals.specs.Refusals.{month_asked, state_check, entries_check, month_check}
use Rattle.month_refusals.proofs.First.{found_at, found-at, exactly}
use Rattle.month_state.proofs.Kept.{one-more-most}
use Rattle.month_refusals.proofs.Accepted.{Sound, Ready, sound-state, state-passes, natural_most, ready, month-parts, month_is_entries}
use Rattle.month_call.specs.Month.{largest_deficit, pools_after, modern_after, next_deficit, next_rate, moved_to, Accepted, outcome_of, month_call}
use Rattle.month_call.specs.Month.{list_month, Answer, steps_of}
use Rattle.month_call.specs.declared.AfterSteps.{AfterSteps}
use Rattle.month_state.specs.declared.Outcome.{Outcome}
use Rattle.month_call.proofs.Steps.{deficit-most, state_rate_most, survivals_in_range, month-balance, modern-after-most}

-- ---- acceptance

-- A call that is accepted passes its state and its entries.
pub accepted : (s : State) (number : ℕ) (e : Entries) → month_check s number e ≡ Ok tt → Accepted s e
accepted s number e h =
    let parts = month-parts s number e h in
    record { state = parts.0; entries = parts.2 }

-- ---- the outcome

-- A refusal changes nothing: it returns the refusal and the state that was given.
pub refusal_returns :
    (s : State) (number : ℕ) (e : Entries) (r : Refusal) → month_check s number e ≡ Err r
    → month_call s number e ≡ record { answer = Err r; state = s }
unfolding month_call outcome_of
refusal_returns s number e r h = rw h

-- An accepted call runs its month.
pub accepted_runs :
    (s : State) (number : ℕ) (e : Entries) → month_check s number e ≡ Ok tt → month_call s number e ≡ outcome_of (Ok tt) s e
unfolding month_call
accepted_runs s number e h = rw h

-- A list's month is the single month call with the number of the next month.
pub single : (s : State) (e : Entries) → state_check s ≡ Ok tt → list_month s e ≡ month_call s (s.months + 1) e
unfolding list_month month_call
single s e h = rw (month_is_entries s e h)

-- ---- which refusal is given

-- What an outcome's answer says is found is what its check finds.
pub outcome-found : (check : Check) (s : State) (e : Entries) → answer_found (outcome_of check s e).answer ≡ found_at 0 check
unfolding outcome_of
outcome-found (Ok _) s e = refl
outcome-found (Err refusal) s e = refl

pub call-found : (s : State) (number : ℕ) (e : Entries) → answer_found (month_call s number e).answer ≡ found (at 0 (month_asked s number e))
unfolding month_call
call-found s number e = outcome-found (month_check s number e) s e ∙ sym (found-at 0 (month_asked s number e))

-- Its number and place are those of the first that applies, ..
pub call-told : (s : State) (number : ℕ) (e : Entries) → answer_told (month_call s number e).answer ≡ told (at 0 (month_asked s number e))
call-told s number e = ap number_and_place (call-found s number e)

-- .. and each refusal of a single month call is given exactly where it is the first that applies.
pub call_exactly :
    (s : State) (number : ℕ) (e : Entries) → Exactly (at 0 (month_asked s number e)) (answer_found (month_call s number e).answer)
call_exactly s number e = exactly (call-found s number e)

-- The state after an accepted month.
abbrev pub next_state : State → Entries → State
next_state s e = moved_to s e.land (next_deficit s e) (next_rate s e)

pub next_is : (s : State) (e : Entries) → (outcome_of (Ok tt) s e).state ≡ next_state s e
unfolding outcome_of
next_is s e = refl

-- ---- an accepted month

-- A soil moved on keeps its clay, depth, kind and IOM.
pub record SameSoil (before after : Soil) : Type 0 where
  pub clay : after.clay ≡ before.clay
  pub depth : after.depth ≡ before.depth
  pub kind : after.kind ≡ before.kind
  pub iom : after.iom ≡ before.iom

-- What a month does to a state. `balance` is to the gram: the pools and the CO2 to date after it are those before it, the
-- plant carbon and the manure.
pub record Moved (s : State) (e : Entries) (after : State) : Type 0 where
  pub soil : SameSoil s.soil after.soil
  pub months : after.months ≡ s.months + 1
  pub deficit : after.deficit.0 ≤ largest_deficit s.soil
  pub balance :
      total after.soil.pools + after.co2.0
      ≡ total s.soil.pools + s.co2.0 + nat_abs e.land.plant + nat_abs e.land.manure
  pub pools : total after.soil.pools ≤ total s.soil.pools + nat_abs e.land.plant + nat_abs e.land.manure
  -- there are four pools again, and modern grams of four
  pub four : (length after.soil.pools ≡ 4) × (length after.modern ≡ 4)
  -- an accepted state is never refused by 4 to 10 afterwards
  pub sound : Sound after

module _ (s : State) (e : Entries) (h : Sound s) (r : Ready s e) where
  -- The rate number is at most 8,363,900,000, and so step 4's survival numbers are in their range.
  pub rate_range : next_rate s e ≤ 8363900000
  rate_range = state_rate_most s e h r

  pub survivals_range : Survivals (survivals (next_rate s e))
  survivals_range = survivals_in_range (next_rate s e) rate_range

  balance : total (next_state s e).soil.pools + (next_state s e).co2.0
      ≡ total s.soil.pools + s.co2.0 + nat_abs e.land.plant + nat_abs e.land.manure
  unfolding moved_to
  balance = omega (arith, month-balance s.soil (next_rate s e) e.land h.soil rate_range)

  lighter : total (next_state s e).soil.pools ≤ total s.soil.pools + nat_abs e.land.plant + nat_abs e.land.manure
  unfolding moved_to
  lighter = omega (arith, month-balance s.soil (next_rate s e) e.land h.soil rate_range)

  -- The next state is sound too.
  next_sound : Sound (next_state s e)
  unfolding moved_to
  next_sound =
      let plant = natural_most 100000000 e.land.plant r.land.plant in
      let manure = natural_most 100000000 e.land.manure r.land.manure in
      record {
        soil =
            record {
              clay = h.soil.clay;
              shallowest = h.soil.shallowest;
              deepest = h.soil.deepest;
              first_kind = h.soil.first_kind;
              last_kind = h.soil.last_kind;
              pools = omega (arith, lighter, r.carbon);
              iom = h.soil.iom;
            };
        deficit = deficit-most s e h;
        months = omega (arith, r.months);
        kept = one-more-most s.kept;
        carbon = omega (arith, balance, h.carbon, plant, manure);
        modern = omega (arith, h.modern, modern-after-most s.soil s.modern (next_rate s e) e.land h.soil rate_range r.land);
      }

  four : (length (next_state s e).soil.pools ≡ 4) × (length (next_state s e).modern ≡ 4)
  unfolding moved_to pools_after modern_after
  four = (turned_length _ _ _ _ _ _, modern_turned_length _ _ _ _ _ _ _)

  pub moved : Moved s e (next_state s e)
  unfolding moved_to
  moved =
      record {
        soil = record { clay = refl; depth = refl; kind = refl; iom = refl };
        months = refl;
        deficit = deficit-most s e h;
        balance = balance;
        pools = lighter;
        four = four;
        sound = next_sound;
      }

-- A month that passes its checks moves the state, ..
pub accepted_moved : (s : State) (e : Entries) → Accepted s e → Moved s e (next_state s e)
accepted_moved s e a = moved s e (sound-state s a.state) (ready s e a.entries)

-- .. whose sums fit 64 bits, ..
pub steps_fit :
    (s : State) (e : Entries) {after : AfterSteps} → Accepted s e → after ≡ steps_of s e
    → (s.months + 1 < 2 ^ 64) × (s.co2.0 + after.co2.0 < 2 ^ 64)
unfolding moved_to steps_of
steps_fit s e a given =
    let sound = (accepted_moved s e a).sound in
    rw given (omega (arith, sound.months), omega (arith, sound.months, sound.carbon))

-- .. and so does an accepted call, ..
pub accepted_moves :
    (s : State) (number : ℕ) (e : Entries) → month_check s number e ≡ Ok tt → Moved s e (month_call s number e).state
accepted_moves s number e h =
    rw (accepted_runs s number e h, next_is s e) (accepted_moved s e (accepted s number e h))

-- .. and the state beside an accepted month's row passes 4 to 7 and 10 again.
pub next_passes :
    (s : State) (e : Entries) {next : Outcome Answer State} → Accepted s e → next ≡ outcome_of (Ok tt) s e
    → state_check next.state ≡ Ok tt
unfolding outcome_of
next_passes s e a is = rw is (state-passes _ (accepted_moved s e a).sound)

-- The state that a list's month leaves passes 4 to 7 and 10 again, accepted or refused.
still_sound : (s : State) (e : Entries) (check : Check) → entries_check s e ≡ check → state_check s ≡ Ok tt
    → state_check (outcome_of check s e).state ≡ Ok tt
unfolding outcome_of
still_sound s e (Ok _) h sound = state-passes _ (accepted_moved s e (record { state = sound; entries = h })).sound
still_sound s e (Err refusal) h sound = sound

pub month-sound : (s : State) (e : Entries) → state_check s ≡ Ok tt → state_check (list_month s e).state ≡ Ok tt
unfolding list_month
month-sound s e sound = still_sound s e (entries_check s e) refl sound
