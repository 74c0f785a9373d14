-- `rendering::write_lines` meets its contract: where the loop stands, the lines so far are written, and the others are left. Assumes nothing.
use Prim.Native.Nat.{◌-◌}
use lib.ListN.{length}
use Rattle.rendering.proofs.Passing.{Writing}
use Rattle.rendering.proofs.write_lines.Given as goal

abbrev pub invariant-loop-from : goal.invariant-loop-from
invariant-loop-from l = Writing l.reading l.store l.area l.initial.out l.out l.from l.at

abbrev pub decreases-loop-from : goal.decreases-loop-from
decreases-loop-from l = length l.store - l.from
