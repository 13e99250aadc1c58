-- `spin_up::year` meets its contract: the outcome of its months does not depend on the rows that they are lent.
-- Assumes nothing.
use Rattle.spin_up.proofs.Laws.{year_is}
use Rattle.spin_up.proofs.year.Goals as goal

pub returns : goal.returns
returns c = year_is c.args.weather.now c.args.land.now c.args.s.state _ c.run_months.ensures.left
