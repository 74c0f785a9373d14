-- `naming::report`: no refusal is a report of 0 with no lengths. Assumes nothing.
use Rattle.std.proofs.Common.{◌∙◌}
use Rattle.places.specs.Reports.{success, refused_bare}
use Rattle.naming.specs.Names.{naming_report}
use Rattle.naming.proofs.report.Goals as goal

pub returns-in-Ok : goal.returns-in-Ok
unfolding naming_report success refused_bare
returns-in-Ok c = c.bare.ensures ∙ rw c.in-Ok.is
