-- `check_stores::services::same_but_places`: each record starts behind the last. Assumes nothing.
use Rattle.std.proofs.Common.{length}
use Rattle.check_stores.proofs.services.same_but_places.Given as goal

abbrev pub decreases-loop-kind : goal.decreases-loop-kind
decreases-loop-kind l = length l.rest
