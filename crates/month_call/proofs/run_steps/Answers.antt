-- `month_call::run_steps` meets its contract: what each call ensures is the definition's step.
-- Assumes nothing.
use Rattle.std.proofs.Common.{◌≡◌, ◌∙◌, ap, ℕ, arith}
use Rattle.step_decay.specs.Rates.{survivals}
use Rattle.step_additions.specs.Kinds.{kind_number}
use Rattle.step_additions.proofs.Laws.{number-has_kind, number-of_kind}
use Rattle.step_pools.specs.Pools.{grams}
use Rattle.month_state.specs.declared.State.{State}
use Rattle.month_state.specs.declared.Entries.{Entries}
use Rattle.month_refusals.proofs.Accepted.{sound-state, ready, entries-parts}
use Rattle.month_call.specs.Month.{rate_after, pools_after, gas_of, modern_after, next_deficit, next_rate, steps_of}
use Rattle.month_checks.proofs.Checked.{natural_asked, natural_in_range}
use Rattle.month_call.proofs.Steps.{deficit-most, state_rate_most}
use Rattle.month_call.proofs.run_steps.Goals as goal

pub max_deficit-largest-requires : goal.max_deficit-largest-requires
max_deficit-largest-requires c =
    let soil = (sound-state c.args.s c.requires.state).soil in (soil.clay, soil.deepest)

pub rate_after-n-requires : goal.rate_after-n-requires
rate_after-n-requires c =
    let largest = c.max_deficit-largest.ensures in (
      c.requires,
      largest,
      omega (
        arith,
        largest,
        c.deficit_after-deficit.ensures,
        deficit-most c.args.s c.args.e (sound-state c.args.s c.requires.state),
      ),
    )

-- the rate number is that of the definition
rate-is : (s : State) (e : Entries) {n d : ℕ} → n ≡ rate_after s.soil d e → d ≡ next_deficit s e → n ≡ next_rate s e
unfolding next_rate
rate-is s e n-is d-is = n-is ∙ ap (λ (d : ℕ). rate_after s.soil d e) d-is

pub survivals-survival-requires : goal.survivals-survival-requires
survivals-survival-requires c =
    let s = c.args.s in
    let e = c.args.e in
    omega (
      arith,
      rate-is s e c.rate_after-n.ensures c.deficit_after-deficit.ensures,
      state_rate_most s e (sound-state s c.requires.state) (ready s e c.requires.entries),
    )

pub clay_number-r-requires : goal.clay_number-r-requires
clay_number-r-requires c = (sound-state c.args.s c.requires.state).soil.clay

pub unwrap-kind-requires : goal.unwrap-kind-requires
unwrap-kind-requires c =
    let soil = (sound-state c.args.s c.requires.state).soil in
    number-has_kind c.try_from.result c.try_from.ensures soil.first_kind soil.last_kind

pub additions_of-given-requires : goal.additions_of-given-requires
additions_of-given-requires c = (entries-parts c.args.s c.args.e c.requires.entries).land

pub natural-activity-requires : goal.natural-activity-requires
natural-activity-requires c =
    natural_asked (omega arith) (ready c.args.s c.args.e c.requires.entries).land.activity

pub turn_both-turned-requires-clause-given : goal.turn_both-turned-requires-clause-given
turn_both-turned-requires-clause-given c =
    let given = c.additions_of-given.ensures in
    let land = (ready c.args.s c.args.e c.requires.entries).land in
    (given.plant.1, given.manure.1, (natural_in_range (omega arith) c.natural-activity.ensures land.activity).1)

pub invariant_of-shares : goal.invariant_of-shares
invariant_of-shares c =
    record { in_range = (c.survivals-survival.ensures.1, omega (arith, c.clay_number-r.ensures.2)) }

pub turn_both-turned-requires-clause-grams : goal.turn_both-turned-requires-clause-grams
turn_both-turned-requires-clause-grams c =
    let sound = sound-state c.args.s c.requires.state in
    (omega (arith, sound.soil.pools), omega (arith, sound.months, sound.modern))

pub returns : goal.returns
unfolding steps_of pools_after gas_of modern_after
returns c =
    let rate = rate-is c.args.s c.args.e c.rate_after-n.ensures c.deficit_after-deficit.ensures in
    let is = c.survivals-survival.ensures.0 ∙ ap survivals rate in
    let clay = c.clay_number-r.ensures.0 in
    let given = c.additions_of-given.ensures in
    let land = (ready c.args.s c.args.e c.requires.entries).land in
    let activity = natural_in_range (omega arith) c.natural-activity.ensures land.activity in
    let kind = ap kind_number given.kind ∙ number-of_kind c.try_from.ensures c.unwrap-kind.ensures in
    let t = c.turn_both-turned.ensures in
    let pools = t.pools ∙ rw (is, clay, kind, given.plant.0, given.manure.0) in
    let co2 = t.co2 ∙ rw (is, clay) in
    let modern = t.modern ∙ rw (is, clay, kind, given.plant.0, given.manure.0, activity.0) in
    let deficit = c.deficit_after-deficit.ensures in
    λ i. record {
      pools = pools i;
      co2 = grams (co2 i);
      deficit = record { 0 = deficit i };
      modern = modern i;
    }
