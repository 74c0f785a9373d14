-- `cells::next_value`: the values from where the walk began are those from here on. Assumes nothing.
use Prim.Native.Nat.{◌-◌}
use lib.ListN.{length}
use Rattle.cells.proofs.Cells.{Comes}
use Rattle.cells.proofs.next_value.Given as goal

abbrev pub invariant-loop-at : goal.invariant-loop-at
invariant-loop-at l = Comes l.store l.initial.spot l.spot l.at

abbrev pub decreases-loop-at : goal.decreases-loop-at
decreases-loop-at l = length l.store - l.at
