-- `items::count_names`: the names counted, and those from here on, are those from the start on. Assumes nothing.
use Prim.Native.Nat.{◌-◌}
use lib.ListN.{length}
use Rattle.items.proofs.Lists.{NamesSoFar}
use Rattle.items.proofs.count_names.Given as goal

abbrev pub invariant-loop-at : goal.invariant-loop-at
invariant-loop-at l = NamesSoFar l.reading l.s l.from l.at l.count l.sizes l.last

abbrev pub decreases-loop-at : goal.decreases-loop-at
decreases-loop-at l = length l.s - l.at
