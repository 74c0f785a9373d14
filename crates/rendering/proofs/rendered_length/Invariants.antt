-- `rendering::rendered_length` meets its contract: where the loop stands, the lines so far have the total as their length, and all are those and the ones that are left.
-- Assumes nothing.
use Prim.Native.Nat.{◌-◌}
use lib.ListN.{length}
use Rattle.rendering.proofs.Passing.{Summing}
use Rattle.rendering.proofs.rendered_length.Given as goal

abbrev pub invariant-loop-from : goal.invariant-loop-from
invariant-loop-from l = Summing l.reading l.store l.area l.from l.total

abbrev pub decreases-loop-from : goal.decreases-loop-from
decreases-loop-from l = length l.store - l.from
