-- `places::Report::at`: by its definition. Assumes nothing.
use Rattle.std.proofs.Common.{refl}
use Rattle.places.specs.Reports.{refused_at}
use Rattle.places.proofs.Report.at.Goals as goal

pub returns : goal.returns
unfolding refused_at
returns c = refl
