-- `replay::floats::float_ten_to`: nothing but that it ends. Assumes nothing.
use Rattle.replay.proofs.floats.float_ten_to.Given as goal

abbrev pub decreases-loop-left : goal.decreases-loop-left
decreases-loop-left l = l.left
