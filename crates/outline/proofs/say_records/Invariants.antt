-- `outline::say_records`: each record starts behind the last. Assumes nothing.
use Rattle.std.proofs.Common.{length}
use Rattle.outline.proofs.say_records.Given as goal

abbrev pub decreases-loop-kind : goal.decreases-loop-kind
decreases-loop-kind g l = length l.rest
