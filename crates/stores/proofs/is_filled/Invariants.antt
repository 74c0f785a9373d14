-- `stores::is_filled`: the whole is filled just where what is left is, from here on. Assumes nothing.
use Prim.Native.Nat.{◌-◌, ◌≤◌}
use mathlib.Core.Path.{◌≡◌}
use lib.ListN.{length}
use Rattle.entries.specs.Walk.{entries}
use Rattle.stores.specs.Soundness.{filled, filled_from}
use Rattle.entries.proofs.Walking.{rest}
use Rattle.stores.proofs.is_filled.Given as goal

abbrev pub invariant-loop-at : goal.invariant-loop-at
invariant-loop-at l = (l.at ≤ length l.store) × (l.from ≤ length l.area) × (filled l.reading (entries l.store) l.area ≡ filled_from l.reading (rest l.store l.at) l.area l.from)

abbrev pub decreases-loop-at : goal.decreases-loop-at
decreases-loop-at l = length l.store - l.at
