-- `scopes::frames`: from where the block began to here, its frames' names are other than each other. Assumes nothing.
use Prim.Native.Nat.{◌-◌}
use lib.ListN.{length}
use Rattle.names.specs.Names.{names}
use Rattle.scopes.specs.Scopes.{Frames}
use Rattle.scopes.proofs.frames.Given as goal

abbrev pub invariant-loop-name : goal.invariant-loop-name
invariant-loop-name l = Frames l.store l.area l.block l.initial.here (record { end = l.here; top = l.top })

abbrev pub decreases-loop-name : goal.decreases-loop-name
decreases-loop-name l = length (names l.store l.area) - l.here.count
