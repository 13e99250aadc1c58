-- The search by halves keeps `Searching`, and its ends come together.
use Prim.Native.Nat.{◌-◌}
use Rattle.radiocarbon_age.proofs.Laws.{Searching}
use Rattle.radiocarbon_age.proofs.ModernShare.smallest.Given as goal

abbrev pub invariant-loop-low : goal.invariant-loop-low
invariant-loop-low l = Searching l.self.modern l.self.carbon l.low l.high

abbrev pub decreases-loop-low : goal.decreases-loop-low
decreases-loop-low l = l.high - l.low
