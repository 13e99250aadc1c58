-- `library_radiocarbon::radiocarbon` meets its contract: the age that a report gives is within the ages that are tried.
-- Assumes nothing.
use Rattle.library_radiocarbon.proofs.radiocarbon.Goals as goal

pub report_numbers-requires : goal.report_numbers-requires
report_numbers-requires c = λ y is. ((c.report.ensures.age.age _ c.in_ok-given.was).years y is).within
