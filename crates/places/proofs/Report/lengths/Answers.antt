-- `places::Report::lengths`: by its definition. Assumes nothing.
use Rattle.std.proofs.Common.{refl}
use Rattle.places.specs.Reports.{no_room}
use Rattle.places.proofs.Report.lengths.Goals as goal

pub returns : goal.returns
unfolding no_room
returns c = refl
