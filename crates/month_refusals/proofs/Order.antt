-- What a single month call asks is part of the papers' list, in its order.
-- Assumes nothing.
use mathlib.Core.Path.{◌≡◌, refl}
use mathlib.Core.Bool.{true}
use Prim.Native.Nat.{ℕ}
use Rattle.month_state.specs.declared.State.{State}
use Rattle.month_state.specs.declared.Entries.{Entries}
use Rattle.month_refusals.specs.Asked.{checking_order, part_of}
use Rattle.month_refusals.specs.Refusals.{soil_asked, bounds_asked, state_asked, turn_asked, weather_asked, land_asked, carbon_asked}
use Rattle.month_refusals.specs.Refusals.{entries_asked, month_asked}

pub month_in_order : (s : State) (number : ℕ) (e : Entries) → part_of checking_order (month_asked s number e) ≡ true
unfolding part_of month_asked state_asked soil_asked bounds_asked turn_asked entries_asked weather_asked carbon_asked land_asked
month_in_order s number e = refl
