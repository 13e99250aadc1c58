-- `step_water::new_deficit` meets its contract: the sum of the deficit and the drying fits 64 bits with its sign, and the
-- callees give the cap, the drying and the clamped sum.
-- Assumes nothing.
use borrow.Author.Rules.{rules}
use Rattle.step_water.specs.Water.{is_potential}
use Rattle.step_water.proofs.Dried.{cap_fits, cap_from, sum_fits, deficit_read}
use Rattle.step_water.proofs.new_deficit.Goals as goal

pub overflow_add-dried : goal.overflow_add-dried
overflow_add-dried c = let q = c.requires in sum_fits (is_potential c.args.evaporation) c.args.d.0 c.drying.ensures q.1 q.2 q.3

pub overflow_cast-cap : goal.overflow_cast-cap
overflow_cast-cap c = cap_fits c.args.crop c.deficit_cap-cap.ensures c.requires.0 c.requires.1

pub clamp-requires : goal.clamp-requires
clamp-requires c = cap_from (cap_fits c.args.crop c.deficit_cap-cap.ensures c.requires.0 c.requires.1)

pub returns : goal.returns
returns c =
    let q = c.requires in
    deficit_read c.args.crop (is_potential c.args.evaporation) c.args.d.0 c.deficit_cap-cap.ensures c.drying.ensures (search rules) c.clamp.ensures.value q.0 q.1 q.2 q.3
