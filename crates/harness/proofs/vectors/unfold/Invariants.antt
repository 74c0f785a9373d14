-- `harness::vectors::unfold`: each step leaves less of the text. Assumes nothing.
use Rattle.std.proofs.Common.{length}
use Rattle.harness.proofs.vectors.unfold.Given as goal

abbrev pub decreases-loop-rest : goal.decreases-loop-rest
decreases-loop-rest l = length l.rest
