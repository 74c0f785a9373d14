-- `items::count_values`: the values counted, and those from here on, are those from the start on. Assumes nothing.
use Prim.Native.Nat.{◌-◌}
use lib.ListN.{length}
use Rattle.items.proofs.Lists.{ValuesSoFar}
use Rattle.items.proofs.count_values.Given as goal

abbrev pub invariant-loop-kind : goal.invariant-loop-kind
invariant-loop-kind l = ValuesSoFar l.reading l.s l.from l.at l.count l.sizes

abbrev pub decreases-loop-kind : goal.decreases-loop-kind
decreases-loop-kind l = length l.s - l.at
