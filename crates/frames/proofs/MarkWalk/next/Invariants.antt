-- The walk over frames: the frames from where a step began are those from here on. Assumes nothing.
use Rattle.std.proofs.Common.{◌-◌, length}
use Rattle.frames.proofs.Frames.{Walking}
use Rattle.frames.proofs.MarkWalk.next.Given as goal

abbrev pub invariant-loop-entry : goal.invariant-loop-entry
invariant-loop-entry l = Walking l.store l.area l.initial.here l.here

abbrev pub decreases-loop-entry : goal.decreases-loop-entry
decreases-loop-entry l = length l.store - l.here.at
