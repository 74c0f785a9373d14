-- `places::Report::bare`: no lengths. Assumes nothing.
use Rattle.places.specs.Reports.{refused_bare, no_room}
use Rattle.places.proofs.Report.bare.Goals as goal

pub returns : goal.returns
unfolding refused_bare no_room
returns c = c.lengths.ensures
