-- `step_factors::clay_number` meets its contract: the table is the definition's, whose rule holds at every place.
-- Assumes nothing.
use Rattle.step_factors.proofs.Laws.{clay_read}
use Rattle.step_factors.proofs.clay_number.Goals as goal

pub returns : goal.returns
returns c = clay_read c.args.clay c.requires c.from.ensures
