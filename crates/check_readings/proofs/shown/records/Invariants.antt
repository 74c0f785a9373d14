-- `check_readings::shown::records`: each record starts behind the last. Assumes nothing.
use Rattle.std.proofs.Common.{length}
use Rattle.check_readings.proofs.shown.records.Given as goal

abbrev pub decreases-loop-kind : goal.decreases-loop-kind
decreases-loop-kind g l = length l.rest
