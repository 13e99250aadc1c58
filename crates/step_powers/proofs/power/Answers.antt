-- `step_powers::power` meets its contract: the table is the definition's, whose rule holds at every place.
use Rattle.step_powers.proofs.Table.{power_read}
use Rattle.step_powers.proofs.power.Goals as goal

pub returns : goal.returns
returns c = power_read c.args.i c.requires c.from.ensures
