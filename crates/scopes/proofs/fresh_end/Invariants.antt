-- `scopes::fresh_end`: block after block, no name before here is the same as another. Assumes nothing.
use Prim.Native.Nat.{◌-◌}
use lib.ListN.{length}
use Rattle.names.specs.Names.{names}
use Rattle.scopes.proofs.Scopes.{Blocks}
use Rattle.scopes.proofs.fresh_end.Given as goal

abbrev pub invariant-loop-after : goal.invariant-loop-after
invariant-loop-after l = Blocks l.store l.area l.top l.here

abbrev pub decreases-loop-after : goal.decreases-loop-after
decreases-loop-after l = length (names l.store l.area) - l.here.count
