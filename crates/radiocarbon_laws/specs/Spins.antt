-- The same of spin-ups (document 01), whose years are lists of twelve months.
use Rattle.std.specs.Prelude.{Ok, Err, ◌≡◌, Bool, false, List, ℕ, ℤ}
use Rattle.month_state.specs.declared.State.{State}
use Rattle.spin_up.specs.SpinUp.{SpinAnswer, spin_up}
use Rattle.spin_up.specs.declared.Years.TheVariants.{Settled, Unsettled}
use Rattle.month_state.specs.declared.Outcome.{Outcome}
use Rattle.radiocarbon_laws.specs.Without.{state_without, rows_without}
use Rattle.radiocarbon_laws.specs.Calls.{by_modern}

abbrev pub spin_by_modern : State → SpinAnswer → Bool
spin_by_modern s (Ok (Settled years)) = false
spin_by_modern s (Ok (Unsettled years)) = false
spin_by_modern s (Err e) = by_modern s e.refusal

-- What a spin-up comes to, without modern grams.
abbrev pub spin_without : Outcome SpinAnswer State → Outcome SpinAnswer State
spin_without o = record { answer = o.answer; state = state_without o.state }

-- One that is not refused so settles or not after the same years, and reaches the same state, as
-- the spin-up without activities.
abbrev pub CarbonOfSpin : State → List ℤ → List ℤ → ℕ → Type 0
CarbonOfSpin s weather land allowed =
    spin_by_modern s (spin_up s weather land allowed).answer ≡ false
    → spin_up (state_without s) weather (rows_without land) allowed
    ≡ spin_without (spin_up s weather land allowed)
