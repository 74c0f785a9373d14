-- `sorted::sink`: each entry on the way down is one of the heap. Assumes nothing.
use Rattle.std.proofs.Common.{◌-◌, ◌<◌, length}
use Rattle.sorted.proofs.sink.Given as goal

abbrev pub invariant-loop-next : goal.invariant-loop-next
invariant-loop-next l = l.at < length l.heap

abbrev pub decreases-loop-next : goal.decreases-loop-next
decreases-loop-next l = length l.heap - l.at
