-- The loop's invariant: the outcome of the years that are left, from the state that is reached, is that of all the years.
use Rattle.std.proofs.Common.{◌≡◌, ◌-◌}
use Rattle.spin_up.specs.SpinUp.{years}
use Rattle.spin_up.proofs.run_years.Given as goal

abbrev pub invariant-loop-before : goal.invariant-loop-before
invariant-loop-before l =
    years (l.allowed - l.before) l.weather l.land l.before l.s.state l.state.state
    ≡ years l.allowed l.weather l.land 0 l.s.state l.s.state
