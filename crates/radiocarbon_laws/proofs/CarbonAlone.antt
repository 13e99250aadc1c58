-- CARBON ALONE: modern grams never touch carbon.
-- Assumes nothing.
use mathlib.Core.Path.{refl}
use Rattle.radiocarbon_laws.specs.Without.{state_without}
use Rattle.radiocarbon_laws.specs.CarbonAlone.{CarbonAlone, NoneWithout}
use Rattle.radiocarbon_laws.proofs.Calls.{calls_alone, never_calls}
use Rattle.radiocarbon_laws.proofs.Fields.{field_alone, never_field}
use Rattle.radiocarbon_laws.proofs.Lists.{list_alone, never_list}
use Rattle.radiocarbon_laws.proofs.Spins.{spin_alone, never_spin}

pub carbon_alone : CarbonAlone
carbon_alone = record { calls = calls_alone; fields = field_alone; lists = list_alone; spins = spin_alone }

pub none_without : NoneWithout
none_without =
    record {
      calls = λ s calls. never_calls (state_without s) calls refl;
      fields = never_field;
      lists = never_list;
      spins = never_spin;
    }
