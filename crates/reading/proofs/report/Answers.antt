-- `reading::report`: case by case. Assumes nothing.
use Rattle.places.specs.Reports.{no_room, success}
use Rattle.reading.specs.Services.{reading_report}
use Rattle.reading.proofs.report.Goals as goal

pub returns-in-Ok : goal.returns-in-Ok
unfolding reading_report no_room success
returns-in-Ok c = rw (c.lengths.ensures, c.in-Ok.is)

pub returns-in-Refused : goal.returns-in-Refused
unfolding reading_report
returns-in-Refused c = rw (c.report.ensures, c.in-Err.is, c.in-Refused.is)

pub returns-in-StoreFull : goal.returns-in-StoreFull
unfolding reading_report
returns-in-StoreFull c = rw (c.lengths-in-StoreFull.ensures, c.in-Err.is, c.in-StoreFull.is)

pub returns-in-AreaFull : goal.returns-in-AreaFull
unfolding reading_report
returns-in-AreaFull c = rw (c.lengths-in-AreaFull.ensures, c.in-Err.is, c.in-AreaFull.is)
