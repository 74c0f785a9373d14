-- `outlining::report`: case by case. Assumes nothing.
use Rattle.places.specs.Reports.{no_room, success}
use Rattle.outlining.specs.Outlining.{outlined_report}
use Rattle.outlining.proofs.report.Goals as goal

pub returns-in-Ok : goal.returns-in-Ok
unfolding outlined_report no_room success
returns-in-Ok c = rw (c.lengths.ensures, c.in-Ok.is)

pub returns-in-Refused : goal.returns-in-Refused
unfolding outlined_report
returns-in-Refused c = rw (c.report.ensures, c.in-Err.is, c.in-Refused.is)

pub returns-in-NoRoom : goal.returns-in-NoRoom
unfolding outlined_report
returns-in-NoRoom c = rw (c.lengths-in-NoRoom.ensures, c.in-Err.is, c.in-NoRoom.is)
