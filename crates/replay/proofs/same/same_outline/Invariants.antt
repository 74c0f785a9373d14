-- `replay::same::same_outline`: each place starts behind the last. Assumes nothing.
use Rattle.std.proofs.Common.{length}
use Rattle.replay.proofs.same.same_outline.Given as goal

abbrev pub decreases-loop-kind : goal.decreases-loop-kind
decreases-loop-kind l = length l.places
