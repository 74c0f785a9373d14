-- `deciding::parse_save_frame`: up to here records of these sizes are kept, and nothing else is changed of what is still answered. Assumes nothing.
use Prim.Native.Nat.{◌-◌}
use lib.ListN.{length}
use mathlib.Core.Option.{none, some}
use Rattle.decisions.specs.Onward.{Passed}
use Rattle.deciding.proofs.parse_save_frame.Given as goal

abbrev pub invariant-loop-next : goal.invariant-loop-next
invariant-loop-next l = Passed l.reading l.s none l.start (some l.start) l.at l.sizes 0

abbrev pub decreases-loop-next : goal.decreases-loop-next
decreases-loop-next l = length l.s - l.at
