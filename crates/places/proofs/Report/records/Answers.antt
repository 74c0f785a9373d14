-- `places::Report::records`: by its definition. Assumes nothing.
use Rattle.std.proofs.Common.{refl}
use Rattle.places.specs.Reports.{of_records}
use Rattle.places.proofs.Report.records.Goals as goal

pub returns : goal.returns
unfolding of_records
returns c = refl
