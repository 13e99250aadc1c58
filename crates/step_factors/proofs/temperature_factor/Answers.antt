-- `step_factors::temperature_factor` meets its contract: the code's place is the definition's, whose rule holds at every place.
-- Assumes nothing.
use Rattle.step_factors.proofs.Places.{below_read, table_read}
use Rattle.step_factors.proofs.temperature_factor.Goals as goal

pub returns-then-t-ltminus50 : goal.returns-then-t-ltminus50
returns-then-t-ltminus50 c = below_read c.args.t c.ranges.t c.if-t-ltminus50.true

pub returns : goal.returns
returns c = table_read c.args.t c.ranges.t c.if-t-ltminus50.false c.requires c.from.ensures
